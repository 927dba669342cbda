-- Ways of two lengths: their parts, their squares, and what rules says of them.
-- Assumes nothing.
use mathlib.Core.Path.{◌≡◌, refl, ap}
use mathlib.Core.Bool.{true}
use mathlib.Core.List.{List, [], ◌∷◌, map}
use Prim.Native.Nat.{ℕ, ◌+◌}
use lib.IntN.{nat_abs}
use borrow.Author.Tests.{le-leb}
use Rattle.laws.proofs.Ints.{Within, within_diff}
use Rattle.rules.specs.Reach.{at, ◌less◌}
use Rattle.rules.specs.Arcs.{square, squares, centre_at}
use Rattle.rules.specs.declared.Length.{Length}
use Rattle.rules.specs.declared.Block.{Block}
use Rattle.rules.specs.declared.Record.{Record}
use Rattle.arcs.specs.Ways.{summed, measurable}

-- the summed squares of rules are those of the ways from the centre
pub summed_squares : (b : Block) (r : Record) (place : List Length) (axes : List ℕ) → squares b r place axes ≡ summed (map (λ (i : ℕ). at place i less centre_at b r i) axes)
summed_squares b r place [] = refl
summed_squares b r place (i ∷ is) = ap (λ (n : ℕ). square (at place i less centre_at b r i).0 + n) (summed_squares b r place is)

-- between two places in reach every way is measurable
pub measurable_ways : (place centre : ℕ → Length) → ((i : ℕ) → Within 1000000000 (place i).0) → ((i : ℕ) → Within 1000000000 (centre i).0) → (axes : List ℕ)
    → measurable (map (λ (i : ℕ). place i less centre i) axes) ≡ true
measurable_ways place centre p q [] = refl
measurable_ways place centre p q (i ∷ is) =
    rw (le-leb (nat_abs (place i less centre i).0) 2000000000 (within_diff (p i) (q i)).size) (measurable_ways place centre p q is)
