-- The commands of an accepted line, as a list.
-- Assumes nothing.
use Rattle.std.specs.Prelude.{Bool, cond, List, [], ◌∷◌, ◌++◌, map, ℕ, zero, suc, ◌/◌, eqb, ℤ, pos, option_map, option_to_list}
use Rattle.std.specs.Prelude.{Option}
use Rattle.rules.specs.Block.{amount, dwells, moves}
use Rattle.rules.specs.Steps.{spindle_of, coolant_of, target, motion_of}
use Rattle.rules.specs.Arcs.{arc_move, centre}
use Rattle.rules.specs.declared.Length.{Length}
use Rattle.rules.specs.declared.Command.{Command}
use Rattle.rules.specs.declared.Block.{Block}
use Rattle.rules.specs.declared.Record.{Record}

-- filled up with zeros, or cut, to n numbers
abbrev pub padded : ℕ → List ℤ → List ℤ
padded zero zs = []
padded (suc n) [] = pos 0 ∷ padded n []
padded (suc n) (z ∷ zs) = z ∷ padded n zs

-- "eight numbers each, the kind first, unused ones 0"
abbrev pub command : ℕ → List ℤ → Command
command kind fields = record { kind = kind; fields = padded 7 fields }

-- a command's eight numbers
abbrev pub eight : Command → List ℤ
eight c = pos c.kind ∷ c.fields

-- a command that comes only where the line asks for it
abbrev pub only : Bool → Command → List Command
only b c = cond b (c ∷ []) []

-- a command that comes only where the line has the word or code, and that tells of it
abbrev pub of_word : {A : Type 0} → (A → Command) → Option A → List Command
of_word c w = option_to_list (option_map c w)

-- lengths as numbers, "in machine counts"
abbrev pub numbers : List Length → List ℤ
numbers ls = map (λ (l : Length). l.0) ls

-- "8 rapid X Y Z; 9 feed move X Y Z; 10 arc: 2 or 3, plane 17–19, X Y Z, two centre numbers in axis order X, Y, Z"
abbrev pub move_command : Block → Record → Command
move_command b r =
    cond (arc_move b r) (command 10 (pos (motion_of b r / 10) ∷ pos (r.plane / 10) ∷ numbers (target b r) ++ numbers (centre b r)))
    (command (cond (eqb (motion_of b r) 0) 8 9) (numbers (target b r)))

-- the list, in the order of the steps; r is the record as the motion step finds it. "Kinds 1–6 come only where the line has the word or code"
unfoldable pub commands : Block → Record → List Command
commands b r =
    of_word (λ _. command 1 (r.feed.0 ∷ [])) b.f
    ++ of_word (λ _. command 2 (r.speed.0 ∷ [])) b.s
    ++ of_word (λ _. command 3 (pos r.tool ∷ [])) b.t
    ++ of_word (λ _. command 4 []) b.change
    ++ of_word (λ m. command 5 (pos (spindle_of m) ∷ [])) b.spindle
    ++ of_word (λ m. command 6 (pos (coolant_of m) ∷ [])) b.coolant
    ++ only (dwells b) (command 7 ((amount b.p).0 ∷ []))
    ++ only (moves b) (move_command b r)
    ++ of_word (λ m. command 11 (pos m ∷ [])) b.stop

-- the commands, one after the other
abbrev pub written : List Command → List ℤ
written [] = []
written (c ∷ cs) = eight c ++ written cs
