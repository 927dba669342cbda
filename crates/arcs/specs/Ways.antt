-- A way from an arc's centre, given by its lengths on the axes of the plane.
-- Assumes nothing.
use Rattle.std.specs.Prelude.{Bool, true, not, ◌&&◌, ◌||◌, List, [], ◌∷◌, ℕ, ◌+◌}
use Rattle.rules.specs.Numbers.{within}
use Rattle.rules.specs.Arcs.{square, unequal}
use Rattle.rules.specs.declared.Length.{Length}

-- "the summed squares"
abbrev pub summed : List Length → ℕ
summed [] = 0
summed (l ∷ ls) = square l.0 + summed ls

-- on no axis longer than from one end of the reach to the other
abbrev pub measurable : List Length → Bool
measurable [] = true
measurable (l ∷ ls) = within 2000000000 l.0 && measurable ls

-- "radii too unequal": their true lengths differ by more than the slack, or a way is longer than any between two places in reach
unfoldable pub too_unequal : List Length → List Length → ℕ → Bool
too_unequal start end slack = not (measurable start && measurable end) || unequal slack (summed start) (summed end)
