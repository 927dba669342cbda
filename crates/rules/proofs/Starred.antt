-- The starred cases of document 01, "Either side of each line", as one table. `starred`: whatever the promise allows for each line is what its row says.
-- Assumes nothing.
use mathlib.Core.Path.{◌≡◌, refl, ap}
use mathlib.Core.List.{List, [], ◌∷◌, map}
use Prim.Native.Nat.{ℕ}
use lib.ListN.{set}
use lib.IntN.{pos}
use Rattle.grammar.specs.Derivation.{strip, inside}
use Rattle.grammar.proofs.Read.{value_of, rest_of, expr_of, items_of}
use Rattle.rules.specs.Numbers.{nearest, residue, near}
use Rattle.rules.specs.Meaning.{ranged, decimal, written, number_of, operation, function, parameter_of}
use Rattle.rules.specs.Codes.{g_group, m_group, g_code, m_code, system_number}
use Rattle.rules.specs.Block.{g_codes, m_codes, block_of, moves}
use Rattle.rules.specs.Reach.{converted, in_order, fresh}
use Rattle.rules.specs.Steps.{feed_step, speed_step, tool_step, change_step, spindle_step, coolant_step, plane_step, units_step, system_step, distance_step, origin_step, offset_step, target, motion_step, stop_step, ready, left}
use Rattle.rules.specs.Arcs.{arc_move, plane_axes, centre, bad_arc}
use Rattle.rules.specs.Commands.{commands}
use Rattle.rules.specs.Refusals.{unserved, doubled, missing, idle, wrong_word, wrong_mode, too_far}
use Rattle.rules.specs.Promise.{disorder, opens, plain_mark, answer_to}
use Rattle.rules.proofs.Rows.{Row, Kept, All, computed, said, kept_row, head_or, tail_of, neg, xyz, xyz0, holding, unset, zeros, room, begins, row}

-- a row, and which of the nine work systems is in force after it
infix 25 ◌inSystem◌
pub data Star : Type 0 where
  ◌inSystem◌ : Row → ℕ → Star

abbrev row_of : Star → Row
row_of (w inSystem n) = w

abbrev system_after : Star → ℕ
system_after (w inSystem n) = system_number w.after.rec.system

abbrev system_said : Star → ℕ
system_said (w inSystem n) = n

abbrev pub Shown : Star → Type 0
Shown (w inSystem n) = Kept w × (system_number w.after.rec.system ≡ n)

shown : (ss : List Star) → map (λ (s : Star). computed (row_of s)) ss ≡ map (λ (s : Star). said (row_of s)) ss → map system_after ss ≡ map system_said ss → All Shown ss
shown [] e q = tt
shown ((w inSystem n) ∷ ss) e q = ((kept_row w (ap (head_or (said w)) e), ap (head_or n) q), shown ss (ap tail_of e) (ap tail_of q))

-- fresh: line; record, table and output before; number, count, record, table and output after
abbrev pub stars : List Star
stars =
    (row "g0x +0. 12 34y 7" fresh zeros room
    0 1 (holding (xyz (pos 12340) (pos 700000) (pos 0)) unset xyz0 0 170 900 210 540 (pos 0) (pos 0) 0 0 0) zeros
    (begins (pos 8 ∷ pos 12340 ∷ pos 700000 ∷ pos 0 ∷ pos 0 ∷ pos 0 ∷ pos 0 ∷ pos 0 ∷ [])) inSystem 1)
    ∷ (row "#1=[2+3*4]" fresh zeros room 0 0 fresh (set zeros 1 (pos 140000)) room inSystem 1)
    ∷ (row "#1=[10-4-3]" fresh zeros room 0 0 fresh (set zeros 1 (pos 30000)) room inSystem 1)
    ∷ (row "#1=[2/3]" fresh zeros room 0 0 fresh (set zeros 1 (pos 6667)) room inSystem 1)
    ∷ (row "#1=[-0.5*0.0001]" fresh zeros room 0 0 fresh (set zeros 1 (neg 1)) room inSystem 1)
    ∷ (row "#1=[-7 MOD 3]" fresh zeros room 0 0 fresh (set zeros 1 (pos 20000)) room inSystem 1)
    ∷ (row "#1=FIX[-2.8]" fresh zeros room 0 0 fresh (set zeros 1 (neg 30000)) room inSystem 1)
    ∷ (row "#1=FUP[-2.8]" fresh zeros room 0 0 fresh (set zeros 1 (neg 20000)) room inSystem 1)
    ∷ (row "#1=ROUND[-2.5]" fresh zeros room 0 0 fresh (set zeros 1 (neg 30000)) room inSystem 1)
    ∷ (row "#3=15 #3=6" fresh zeros room 0 0 fresh (set zeros 3 (pos 60000)) room inSystem 1)
    ∷ (row "#4999=1" fresh zeros room 0 0 fresh (set zeros 4999 (pos 10000)) room inSystem 1)
    ∷ (row "#0=1" fresh zeros room 7 0 fresh zeros room inSystem 1)
    ∷ (row "#5000=1" fresh zeros room 7 0 fresh zeros room inSystem 1)
    ∷ (row "G59" fresh zeros room 0 0 (holding xyz0 unset xyz0 800 170 900 210 590 (pos 0) (pos 0) 0 0 0) zeros room inSystem 6)
    ∷ (row "G59.1" fresh zeros room 0 0 (holding xyz0 unset xyz0 800 170 900 210 591 (pos 0) (pos 0) 0 0 0) zeros room inSystem 7)
    ∷ []

pub starred : All Shown stars
unfolding strip inside value_of rest_of expr_of items_of nearest residue near ranged decimal written number_of operation function parameter_of g_group m_group g_code m_code system_number g_codes m_codes block_of moves converted in_order fresh feed_step speed_step tool_step change_step spindle_step coolant_step plane_step units_step system_step distance_step origin_step offset_step target motion_step stop_step ready left arc_move plane_axes centre bad_arc commands unserved doubled missing idle wrong_word wrong_mode too_far disorder opens plain_mark answer_to
starred = shown stars refl refl

-- "Fresh: zeros, G80 G17 G90 G21 G54"
pub fresh_is : fresh ≡ holding xyz0 unset xyz0 800 170 900 210 540 (pos 0) (pos 0) 0 0 0
unfolding fresh
fresh_is = refl
