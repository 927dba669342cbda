-- Document 01's other examples as one table (`page`), and its five errors that look reasonable, each with a line that shows it: whatever the promise allows for
-- each line is what its row says.
-- Assumes nothing.
use mathlib.Core.Path.{refl}
use mathlib.Core.List.{List, [], ◌∷◌}
use lib.ListN.{set, replicate}
use lib.IntN.{pos}
use Rattle.grammar.specs.Derivation.{strip, inside}
use Rattle.grammar.proofs.Read.{value_of, rest_of, expr_of, items_of}
use Rattle.rules.specs.Numbers.{nearest, residue, near}
use Rattle.rules.specs.Meaning.{ranged, decimal, written, number_of, operation, function, parameter_of}
use Rattle.rules.specs.Codes.{g_group, m_group, g_code, m_code, system_number}
use Rattle.rules.specs.Block.{g_codes, m_codes, block_of, moves}
use Rattle.rules.specs.Reach.{converted, in_order, fresh}
use Rattle.rules.specs.Steps.{feed_step, speed_step, tool_step, change_step, spindle_step, coolant_step, plane_step, units_step, system_step, distance_step, origin_step, offset_step, target, motion_step, stop_step, ready, left}
use Rattle.rules.specs.Arcs.{arc_move, plane_axes, centre, bad_arc}
use Rattle.rules.specs.Commands.{commands}
use Rattle.rules.specs.Refusals.{unserved, doubled, missing, idle, wrong_word, wrong_mode, too_far}
use Rattle.rules.specs.Promise.{disorder, opens, plain_mark, answer_to}
use Rattle.rules.specs.declared.Length.{Length}
use Rattle.rules.specs.declared.Record.{Record}
use Rattle.rules.proofs.Rows.{Row, Kept, All, kept, kept_row, neg, xyz, xyz0, holding, unset, zeros, room, begins, row, typed, refuses, gives, feed_at, spins, rapid_to, feeds_to, arc_to}

-- ---- "Either side of each line", without the starred; and the lines of "Frames out"

-- "feed set": in mode G1, 100 mm a minute
abbrev fed : Record
fed = holding xyz0 unset xyz0 10 170 900 210 540 (pos 10000000) (pos 0) 0 0 0

-- what the lines of "Frames out" leave, one after the other
abbrev framed : Record
framed = holding xyz0 unset xyz0 800 170 900 210 540 (pos 10000000) (pos 0) 0 0 0

abbrev framed_then : Record
framed_then = holding (xyz (pos 100000) (neg 50000) (pos 0)) unset xyz0 10 170 900 210 540 (pos 10000000) (pos 0) 0 0 0

abbrev pub page_rows : List Row
page_rows =
    row "#1=99999.9999" fresh zeros room 0 0 fresh (set zeros 1 (pos 999999999)) room
    ∷ refuses "#1=100000" fresh 5
    ∷ row "#1=1.2345" fresh zeros room 0 0 fresh (set zeros 1 (pos 12345)) room
    -- "01's 1.23456 then gives 1.2346" (request 4 of document 02)
    ∷ row "#1=1.23456" fresh zeros room 0 0 fresh (set zeros 1 (pos 12346)) room
    ∷ row "#1.0001=2" fresh zeros room 0 0 fresh (set zeros 1 (pos 20000)) room
    ∷ refuses "#1.0002=2" fresh 7
    ∷ refuses "X[1/0] G99" fresh 6
    ∷ gives "G20 G0 X1" fresh (holding (xyz (pos 2540000) (pos 0) (pos 0)) unset xyz0 0 170 900 200 540 (pos 0) (pos 0) 0 0 0) (rapid_to (pos 2540000) (pos 0) (pos 0) ∷ [])
    ∷ gives "G0 X10000" fresh (holding (xyz (pos 1000000000) (pos 0) (pos 0)) unset xyz0 0 170 900 210 540 (pos 0) (pos 0) 0 0 0) (rapid_to (pos 1000000000) (pos 0) (pos 0) ∷ [])
    ∷ refuses "G0 X10000.0001" fresh 13
    ∷ gives "G2 X1.002 I0.5" fed (holding (xyz (pos 100200) (pos 0) (pos 0)) unset xyz0 20 170 900 210 540 (pos 10000000) (pos 0) 0 0 0)
    (arc_to 2 17 (pos 100200) (pos 0) (pos 0) (pos 50000) (pos 0) ∷ [])
    ∷ refuses "G2 X1.0021 I0.5" fed 14
    ∷ refuses "G1 G0 X1" fresh 9
    ∷ refuses "G4" fresh 10
    ∷ refuses "G4 P-1" fresh 11
    ∷ gives "" fresh fresh []
    ∷ typed (replicate 256 32) (gives "" fresh fresh [])
    ∷ typed (replicate 257 32) (refuses "" fresh 2)
    ∷ gives "G21 G90 F100" fresh framed (feed_at (pos 10000000) ∷ [])
    ∷ gives "G1 X1 Y-0.5" framed framed_then (feeds_to (pos 100000) (neg 50000) (pos 0) ∷ [])
    ∷ gives "M5" framed_then framed_then (spins 0 ∷ [])
    ∷ refuses "G59.4" framed_then 8
    ∷ []

pub page : All Kept page_rows
unfolding strip inside value_of rest_of expr_of items_of nearest residue near ranged decimal written number_of operation function parameter_of g_group m_group g_code m_code system_number g_codes m_codes block_of moves converted in_order fresh feed_step speed_step tool_step change_step spindle_step coolant_step plane_step units_step system_step distance_step origin_step offset_step target motion_step stop_step ready left arc_move plane_axes centre bad_arc commands unserved doubled missing idle wrong_word wrong_mode too_far disorder opens plain_mark answer_to
page = kept page_rows refl

-- ---- "Errors that look reasonable"

-- the origins of G59 and G59.1 differ: system 6 has X 600, system 7 has X 700
abbrev two_origins : List Length
two_origins = set (set unset 15 (record { 0 = pos 600 })) 18 (record { 0 = pos 700 })

-- "reading X#3 after an earlier setting on the line"
abbrev pub entry_table : Row
entry_table = row "G0 #3=15 X#3" fresh (set zeros 3 (pos 10000)) room
    0 1 (holding (xyz (pos 100000) (pos 0) (pos 0)) unset xyz0 0 170 900 210 540 (pos 0) (pos 0) 0 0 0) (set zeros 3 (pos 150000)) (begins (rapid_to (pos 100000) (pos 0) (pos 0)))

pub entry_table_holds : Kept entry_table
unfolding strip inside value_of rest_of expr_of items_of nearest residue near ranged decimal written number_of operation function parameter_of g_group m_group g_code m_code system_number g_codes m_codes block_of moves converted in_order fresh feed_step speed_step tool_step change_step spindle_step coolant_step plane_step units_step system_step distance_step origin_step offset_step target motion_step stop_step ready left arc_move plane_axes centre bad_arc commands unserved doubled missing idle wrong_word wrong_mode too_far disorder opens plain_mark answer_to
entry_table_holds = kept_row entry_table refl

-- "cutting G59.1 to 59"
abbrev pub own_origin : Row
own_origin = gives "G59.1 G0 X0" (holding xyz0 two_origins xyz0 800 170 900 210 540 (pos 0) (pos 0) 0 0 0)
    (holding (xyz (pos 700) (pos 0) (pos 0)) two_origins xyz0 0 170 900 210 591 (pos 0) (pos 0) 0 0 0) (rapid_to (pos 700) (pos 0) (pos 0) ∷ [])

pub own_origin_holds : Kept own_origin
unfolding strip inside value_of rest_of expr_of items_of nearest residue near ranged decimal written number_of operation function parameter_of g_group m_group g_code m_code system_number g_codes m_codes block_of moves converted in_order fresh feed_step speed_step tool_step change_step spindle_step coolant_step plane_step units_step system_step distance_step origin_step offset_step target motion_step stop_step ready left arc_move plane_axes centre bad_arc commands unserved doubled missing idle wrong_word wrong_mode too_far disorder opens plain_mark answer_to
own_origin_holds = kept_row own_origin refl

-- "taking F in units the same line selects"
abbrev pub units_before : Row
units_before = gives "G20 F10" fresh (holding xyz0 unset xyz0 800 170 900 200 540 (pos 1000000) (pos 0) 0 0 0) (feed_at (pos 1000000) ∷ [])

pub units_before_holds : Kept units_before
unfolding strip inside value_of rest_of expr_of items_of nearest residue near ranged decimal written number_of operation function parameter_of g_group m_group g_code m_code system_number g_codes m_codes block_of moves converted in_order fresh feed_step speed_step tool_step change_step spindle_step coolant_step plane_step units_step system_step distance_step origin_step offset_step target motion_step stop_step ready left arc_move plane_axes centre bad_arc commands unserved doubled missing idle wrong_word wrong_mode too_far disorder opens plain_mark answer_to
units_before_holds = kept_row units_before refl

-- "making G53 relative under G91"
abbrev pub machine_place : Row
machine_place = gives "G53 X1" (holding (xyz (pos 500) (pos 0) (pos 0)) unset xyz0 0 170 910 210 540 (pos 0) (pos 0) 0 0 0)
    (holding (xyz (pos 100000) (pos 0) (pos 0)) unset xyz0 0 170 910 210 540 (pos 0) (pos 0) 0 0 0) (rapid_to (pos 100000) (pos 0) (pos 0) ∷ [])

pub machine_place_holds : Kept machine_place
unfolding strip inside value_of rest_of expr_of items_of nearest residue near ranged decimal written number_of operation function parameter_of g_group m_group g_code m_code system_number g_codes m_codes block_of moves converted in_order fresh feed_step speed_step tool_step change_step spindle_step coolant_step plane_step units_step system_step distance_step origin_step offset_step target motion_step stop_step ready left arc_move plane_axes centre bad_arc commands unserved doubled missing idle wrong_word wrong_mode too_far disorder opens plain_mark answer_to
machine_place_holds = kept_row machine_place refl

-- "applying settings of a line later refused"
abbrev pub nothing_set : Row
nothing_set = refuses "#3=1 G4" fresh 10

pub nothing_set_holds : Kept nothing_set
unfolding strip inside value_of rest_of expr_of items_of nearest residue near ranged decimal written number_of operation function parameter_of g_group m_group g_code m_code system_number g_codes m_codes block_of moves converted in_order fresh feed_step speed_step tool_step change_step spindle_step coolant_step plane_step units_step system_step distance_step origin_step offset_step target motion_step stop_step ready left arc_move plane_axes centre bad_arc commands unserved doubled missing idle wrong_word wrong_mode too_far disorder opens plain_mark answer_to
nothing_set_holds = kept_row nothing_set refl
