-- The orders of a line, in document 01's order, and what writing them gives.
-- Assumes nothing.
use Rattle.std.specs.Prelude.{cond, List, [], ◌∷◌, ◌++◌, ℕ, ◌*◌, ltb, pos, length, Option, None, Some, option_map, option_to_list}
use Rattle.std.specs.Bool.{then_some}
use Rattle.rules.specs.Block.{amount, dwells}
use Rattle.rules.specs.Steps.{spindle_of, coolant_of}
use Rattle.rules.specs.Commands.{command}
use Rattle.rules.specs.declared.Block.{Block}
use Rattle.rules.specs.declared.Length.{Length}
use Rattle.rules.specs.declared.Value.{Value}
use Rattle.rules.specs.declared.Command.{Command}

-- the commands asked for, in their order
abbrev pub asked : List (Option Command) → List Command
asked [] = []
asked (o ∷ os) = option_to_list o ++ asked os

-- F, S, T, M6, spindle, coolant, G4, the move, stop; the move is handed in
unfoldable pub orders_of : Block → Length → Value → ℕ → Option Command → List (Option Command)
orders_of b feed speed tool moving =
    option_map (λ _. command 1 (feed.0 ∷ [])) b.f
    ∷ option_map (λ _. command 2 (speed.0 ∷ [])) b.s
    ∷ option_map (λ _. command 3 (pos tool ∷ [])) b.t
    ∷ option_map (λ _. command 4 []) b.change
    ∷ option_map (λ m. command 5 (pos (spindle_of m) ∷ [])) b.spindle
    ∷ option_map (λ m. command 6 (pos (coolant_of m) ∷ [])) b.coolant
    ∷ then_some (dwells b) (command 7 ((amount b.p).0 ∷ []))
    ∷ moving
    ∷ option_map (λ m. command 11 (pos m ∷ [])) b.stop
    ∷ []

-- number 15: "output shorter than eight times the commands"
abbrev pub written_by : List Command → ℕ → Option ℕ
written_by cs room = cond (ltb room (8 * length cs)) None (Some (length cs))
