-- Request 12 of document 02 on both sides: what a line reports as its work, and the limit of nesting. Whatever the promise allows for each line, from a fresh
-- record and a table of zeros, has the number and the work that its row says.
-- Assumes nothing.
use mathlib.Core.Path.{◌≡◌, refl, ap, ◌∙◌}
use mathlib.Core.Bool.{false}
use mathlib.Core.List.{List, [], ◌∷◌, ◌++◌, map}
use Prim.Native.Nat.{ℕ}
use Prim.Native.String.{String}
use lib.ListN.{replicate}
use Rattle.grammar.specs.Bytes.{byte, bytes}
use Rattle.grammar.specs.Derivation.{strip, inside}
use Rattle.grammar.proofs.Read.{value_of, rest_of, expr_of, items_of}
use Rattle.grammar.proofs.ByForm.{form_of}
use Rattle.rules.specs.Numbers.{nearest, residue, near}
use Rattle.rules.specs.Meaning.{ranged, decimal, written, number_of, operation, function, parameter_of}
use Rattle.rules.specs.Codes.{g_group, m_group, g_code, m_code, system_number}
use Rattle.rules.specs.Block.{g_codes, m_codes, block_of, moves}
use Rattle.rules.specs.Reach.{converted, in_order, fresh}
use Rattle.rules.specs.Steps.{feed_step, speed_step, tool_step, change_step, spindle_step, coolant_step, plane_step, units_step, system_step, distance_step, origin_step, offset_step, target, motion_step, stop_step, ready, left}
use Rattle.rules.specs.Arcs.{arc_move, plane_axes, centre, bad_arc}
use Rattle.rules.specs.Commands.{commands}
use Rattle.rules.specs.Refusals.{unserved, doubled, missing, idle, wrong_word, wrong_mode, too_far}
use Rattle.rules.specs.Promise.{After, Right, answer, number_of as numberFor, disorder, opens, plain_mark, answer_to}
use Rattle.rules.proofs.Demands.{by_model}
use Rattle.rules.proofs.Rows.{All, zeros, room, head_or, tail_of}

-- a line with its number and its work
pub record Report : Type 0 where
  pub line : List ℕ
  pub number : ℕ
  pub work : ℕ

abbrev told : After → List ℕ
told a = numberFor a.outcome.answer ∷ a.work ∷ []

abbrev said : Report → List ℕ
said w = w.number ∷ w.work ∷ []

abbrev pub Reported : Report → Type 0
Reported w = (a : After) → Right w.line false fresh zeros room a → told a ≡ said w

abbrev computed : Report → List ℕ
computed w = told (answer (form_of w.line) w.line false fresh zeros room)

reported : (ws : List Report) → map computed ws ≡ map said ws → All Reported ws
reported [] e = tt
reported (w ∷ ws) e = (λ a p. ap told (by_model w.line false fresh zeros room p) ∙ ap (head_or (said w)) e, reported ws (ap tail_of e))

-- a typed line that is accepted with so much work, or is refused
abbrev works : String → ℕ → Report
works text work = record { line = bytes text; number = 0; work = work }

abbrev refused : List ℕ → ℕ → Report
refused line number = record { line = line; number = number; work = 0 }

-- S and n brackets round a 1; S and n marks before it, with a table of zeros; a setting of entry 1 by n marks
abbrev brackets : ℕ → List ℕ
brackets n = byte "S" ∷ (replicate n (byte "[") ++ (byte "1" ∷ replicate n (byte "]")))

abbrev marks : ℕ → List ℕ
marks n = byte "S" ∷ (replicate n (byte "#") ++ (byte "1" ∷ []))

abbrev pub reports : List Report
reports =
    works "" 0
    ∷ works "N10 (S[1+2])" 0
    ∷ works "S1" 1
    ∷ works "S[1]" 2
    ∷ works "SABS[1]" 2
    ∷ works "S#1" 2
    ∷ works "S[1+2]" 4
    ∷ works "s [ 1 + 2 * # 3 ] f1" 8
    ∷ works "#1=2" 2
    ∷ works "#[1]=[2 mod 3]" 6
    ∷ record { line = brackets 24; number = 0; work = 25 }
    ∷ refused (brackets 25) 16
    -- 24 marks pass: what is wrong with them is entry 0
    ∷ refused (marks 24) 7
    ∷ refused (marks 25) 16
    -- a setting's first mark is aside
    ∷ refused (replicate 25 (byte "#") ++ bytes "1=2") 7
    ∷ refused (replicate 26 (byte "#") ++ bytes "1=2") 16
    -- after 3 and before 4, anywhere on the line
    ∷ refused (brackets 25 ++ bytes "X") 3
    ∷ refused (bytes "X1.23456" ++ brackets 25) 16
    ∷ refused (bytes "X[1/0]") 6
    ∷ []

pub work_reported : All Reported reports
unfolding strip inside value_of rest_of expr_of items_of nearest residue near ranged decimal written number_of operation function parameter_of g_group m_group g_code m_code system_number g_codes m_codes block_of moves converted in_order fresh feed_step speed_step tool_step change_step spindle_step coolant_step plane_step units_step system_step distance_step origin_step offset_step target motion_step stop_step ready left arc_move plane_axes centre bad_arc commands unserved doubled missing idle wrong_word wrong_mode too_far disorder opens plain_mark answer_to
work_reported = reported reports refl
