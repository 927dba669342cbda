-- Places in reach, one length after the other.
-- Assumes nothing.
use mathlib.Core.Path.{◌≡◌, refl, ap}
use mathlib.Core.Bool.{◌&&◌}
use mathlib.Core.List.{List, [], ◌∷◌}
use Rattle.std.specs.List.{list_all}
use Rattle.rules.specs.Numbers.{within}
use Rattle.rules.specs.Reach.{in_reach}
use Rattle.rules.specs.declared.Length.{Length}

pub all_is : (places : List Length) → list_all (λ (l : Length). within 1000000000 l.0) places ≡ in_reach places
all_is [] = refl
all_is (l ∷ ls) = ap (λ b. within 1000000000 l.0 && b) (all_is ls)
