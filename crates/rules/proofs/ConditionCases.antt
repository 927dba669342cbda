-- Request 6 of document 02 on both sides: conditions, plain marks and the switch. Whatever the promise allows for each line is what its row says.
-- Assumes nothing.
use mathlib.Core.Path.{refl}
use mathlib.Core.List.{List, [], ◌∷◌, ◌++◌}
use lib.ListN.{set, replicate}
use Prim.Native.String.{String}
use lib.IntN.{pos}
use Rattle.grammar.specs.Bytes.{byte, bytes}
use Rattle.grammar.specs.Derivation.{strip, inside}
use Rattle.grammar.proofs.Read.{value_of, rest_of, expr_of, items_of}
use Rattle.rules.specs.Numbers.{nearest, residue, near}
use Rattle.rules.specs.Meaning.{ranged, decimal, written, number_of, operation, function, parameter_of}
use Rattle.rules.specs.Codes.{g_group, m_group, g_code, m_code, system_number}
use Rattle.rules.specs.Block.{g_codes, m_codes, block_of, moves}
use Rattle.rules.specs.Reach.{converted, in_order, fresh}
use Rattle.rules.specs.Steps.{feed_step, speed_step, tool_step, change_step, spindle_step, coolant_step, plane_step, units_step, system_step, distance_step, origin_step, offset_step, target, motion_step, stop_step, ready, left}
use Rattle.rules.specs.Arcs.{arc_move, plane_axes, centre, bad_arc}
use Rattle.rules.specs.Commands.{commands}
use Rattle.rules.specs.Refusals.{unserved, doubled, missing, idle, wrong_word, wrong_mode, too_far}
use Rattle.rules.specs.Promise.{disorder, opens, plain_mark, answer_to}
use Rattle.rules.specs.declared.Record.{Record}
use Rattle.rules.proofs.Rows.{Row, Kept, All, kept, xyz0, holding, unset, zeros, room, row, typed, switched, refuses, refusing, gives, speed_at}

-- fresh but for the speed, 1 rpm
abbrev turning : Record
turning = holding xyz0 unset xyz0 800 170 900 210 540 (pos 0) (pos 10000) 0 0 0

-- a line with S1 is run
abbrev runs : String → Row
runs text = gives text fresh turning (speed_at (pos 10000) ∷ [])

-- "run if not zero" and "run if zero"; "Zero means at most 0.0001 from zero"
abbrev pub condition_rows : List Row
condition_rows =
    runs "/[1]S1"
    ∷ runs "\\[0]S1"
    ∷ runs "/[0.0002]S1"
    -- judged of the rounded value
    ∷ runs "/[0.00015]S1"
    ∷ runs "\\[0.00014999]S1"
    ∷ runs "\\[0.0001]S1"
    ∷ runs "\\ [ -0.0001 ] n5 s1"
    ∷ refusing fresh 100 ("/[0]S1" ∷ "\\[1]S1" ∷ "/[0.0001]S1" ∷ "/[-0.0001]S1" ∷ "\\[0.0002]S1" ∷ [])
    -- "worked out first, from the table at entry": with #1 at 0, then at 1
    ++ refuses "/[#1]#1=1" fresh 100
    ∷ row "/[#1]#1=0" fresh (set zeros 1 (pos 10000)) room 0 0 fresh zeros room
    -- "3 to 7 may now come from a condition, before anything else on the line"; a skipped line's other numbers are never met
    ∷ refuses "/[1/0]X100000" fresh 6
    ∷ refuses "/[100000]X[1/0]" fresh 5
    ∷ refuses "/[#0]G99" fresh 7
    ∷ refuses "\\[100000]G99" fresh 5
    ∷ refuses "/[0]X[1/0]G99" fresh 100
    ∷ refuses "/[1]X[1/0]G99" fresh 6
    -- 16 is checked "before a condition is worked out"
    ∷ typed (bytes "/" ++ replicate 25 (byte "[") ++ bytes "1/0" ++ replicate 25 (byte "]")) (refuses "" fresh 16)
    ∷ typed (bytes "/" ++ replicate 24 (byte "[") ++ bytes "1/0" ++ replicate 24 (byte "]")) (refuses "" fresh 6)
    -- "its line must have the right form first"
    ∷ refuses "/[0]X" fresh 3
    -- "ignores the switch"; "others skip unread, as today"; "a plain `\` that runs only with the switch on"
    ∷ switched (runs "/[1]S1")
    ∷ switched (refuses "/ [0]S1" fresh 100)
    ∷ switched (refuses "/[)(" fresh 3)
    ∷ switched (refuses "/(c)[1]" fresh 100)
    ∷ refuses "/(c)[1]" fresh 3
    ∷ switched (refuses "/S1" fresh 100)
    ∷ runs "/S1"
    ∷ switched (runs "\\S1")
    ∷ refuses "\\S1" fresh 100
    ∷ refuses " \\ )(" fresh 100
    ∷ switched (refuses "\\ )(" fresh 3)
    ∷ []

pub conditions : All Kept condition_rows
unfolding strip inside value_of rest_of expr_of items_of nearest residue near ranged decimal written number_of operation function parameter_of g_group m_group g_code m_code system_number g_codes m_codes block_of moves converted in_order fresh feed_step speed_step tool_step change_step spindle_step coolant_step plane_step units_step system_step distance_step origin_step offset_step target motion_step stop_step ready left arc_move plane_axes centre bad_arc commands unserved doubled missing idle wrong_word wrong_mode too_far disorder opens plain_mark answer_to
conditions = kept condition_rows refl
