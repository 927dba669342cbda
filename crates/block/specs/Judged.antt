-- Numbers 10 to 15 in the parts that are judged one after the other.
-- Assumes nothing.
use Rattle.std.specs.Prelude.{Option, None, Some, Bool, false, not, ◌&&◌, ◌||◌, List, [], ◌∷◌, ◌++◌, map, ℕ, ◌*◌, eqb, ltb, length}
use Rattle.rules.specs.Reach.{◌less◌, at, in_reach}
use Rattle.rules.specs.Arcs.{arc_move, plane_axes, slack, bad_arc}
use Rattle.rules.specs.Commands.{commands}
use Rattle.rules.specs.Refusals.{Case, ◌when◌, wrong_mode, too_far}
use Rattle.rules.specs.declared.Length.{Length}
use Rattle.rules.specs.declared.Block.{Block}
use Rattle.rules.specs.declared.Record.{Record}
use Rattle.arcs.specs.Ways.{summed, too_unequal}
use Rattle.checks.specs.Modes.{early}

-- 14: the ways from a centre to a place, axis by axis, and what is wrong with an arc by its two ways
abbrev pub ways : List Length → List Length → List Length
ways [] cs = []
ways (p ∷ ps) [] = []
ways (p ∷ ps) (c ∷ cs) = (p less c) ∷ ways ps cs

abbrev pub bad_ways : List Length → List Length → List Length → ℕ → ℕ → Bool
bad_ways here to middle plane units =
    eqb (summed (ways (map (at here) (plane_axes plane)) middle)) 0
    || too_unequal (ways (map (at here) (plane_axes plane)) middle) (ways (map (at to) (plane_axes plane)) middle) (slack units)

-- lengths that are not all in reach, where there are any
abbrev pub beyond : Option (List Length) → Bool
beyond None = false
beyond (Some ls) = not (in_reach ls)

-- numbers 12 to 14, by the record as the motion step finds it
abbrev pub late : Block → Record → List Case
late b m =
    (12 when wrong_mode b m)
    ∷ (13 when too_far b m)
    ∷ (14 when (arc_move b m && bad_arc b m)) ∷ []

-- numbers 10 to 15: what `refusals` has after numbers 8 and 9
abbrev pub remaining : Block → Record → ℕ → List Case
remaining b m room = early b m ++ late b m ++ (15 when ltb room (8 * length (commands b m))) ∷ []
