-- The fields that a kind uses, by the tests that the code makes.
-- Assumes nothing.
use mathlib.Core.Path.{◌≡◌}
use Prim.Native.Nat.{ℕ, ◌≤◌}
use native.Mathlib.Omega.{arith}
use native.Mathlib.Decide.{ℕ_discrete}
use borrow.Author.Tests.{ne_eqb}
use Rattle.rules.specs.Frames.{fields_used}

-- no other number lies between 8 and 9
pub three : (k : ℕ) → 8 ≤ k → k ≤ 9 → fields_used k ≡ 3
unfolding fields_used
three k low high = which (ℕ_discrete k 8)
  where
    which : Dec (k ≡ 8) → fields_used k ≡ 3
    which (yes e) = rw e
    which (no e) = let nine : k ≡ 9 = omega arith in rw nine

pub one : (k : ℕ) → (k ≡ 4 → ⊥) → (k ≡ 8 → ⊥) → (k ≡ 9 → ⊥) → (k ≡ 10 → ⊥) → fields_used k ≡ 1
unfolding fields_used
one k a b c d = simp (ne_eqb k 4 a, ne_eqb k 8 b, ne_eqb k 9 c, ne_eqb k 10 d)
