-- What a number stands for, by the tests that code makes of it.
-- Assumes nothing.
use mathlib.Core.Path.{◌≡◌}
use mathlib.Core.Bool.{false}
use Prim.Native.Nat.{ℕ, ◌-◌, ◌≤◌, ◌<◌}
use native.Mathlib.Omega.{arith}
use native.Mathlib.Decide.{dec_le}
use native.Mathlib.Nat.{lt_of_not-le}
use borrow.Author.Tests.{le-leb, lt-leb, ne_eqb}
use Rattle.parameters.specs.Places.{lies, stands_for, origin_at}
use Rattle.parameters.specs.declared.places.Place.TheVariants.{Entry as entry, Offset as offset, System as system, Passed as passed}

lies_not : (low high n : ℕ) → (low ≤ n → n ≤ high → ⊥) → lies low high n ≡ false
lies_not low high n f = elim (dec_le low n) [
  | yes h ↦ elim (dec_le n high) [ yes k ↦ absurd (f h k) | no k ↦ (let l : high < n = lt_of_not-le k in rw (le-leb low n h, lt-leb n high l)) ]
  | no h ↦ (let l : n < low = lt_of_not-le h in rw (lt-leb low n l))
]

module _ (n : ℕ) where
  pub entry_there : 1 ≤ n → n ≤ 4999 → entry n ≡ stands_for n
  unfolding stands_for
  entry_there h l = rw (le-leb 1 n h, le-leb n 4999 l)

  pub offset_there : 5211 ≤ n → n ≤ 5213 → offset (n - 5211) ≡ stands_for n
  unfolding stands_for
  offset_there h l = rw (le-leb 1 n (omega arith), lt-leb n 4999 (omega arith), le-leb 5211 n h, le-leb n 5213 l)

  pub system_there : n ≡ 5220 → system ≡ stands_for n
  unfolding stands_for
  system_there e = rw e

  pub origin_there : 5221 ≤ n → n ≤ 5383 → origin_at (n - 5221) ≡ stands_for n
  unfolding stands_for
  origin_there h l = rw (le-leb 1 n (omega arith), lt-leb n 4999 (omega arith), le-leb 5211 n (omega arith), lt-leb n 5213 (omega arith), ne_eqb n 5220 (λ e. omega arith), le-leb 5221 n h, le-leb n 5383 l)

  -- and none of these
  pub none_there : (1 ≤ n → n ≤ 4999 → ⊥) → (5211 ≤ n → n ≤ 5213 → ⊥) → (n ≡ 5220 → ⊥) → (5221 ≤ n → n ≤ 5383 → ⊥) → passed ≡ stands_for n
  unfolding stands_for
  none_there a b c d = rw (lies_not 1 4999 n a, lies_not 5211 5213 n b, ne_eqb n 5220 c, lies_not 5221 5383 n d)
