-- A mask as a set of keys: it has a one for each different key that was put in.
-- Assumes nothing.
use mathlib.Core.Path.{◌≡◌, refl, sym, ap, ap₂, ◌∙◌}
use mathlib.Core.Bool.{Bool, true, false, cond, ◌||◌}
use mathlib.Core.List.{List, [], ◌∷◌}
use Prim.Native.Nat.{ℕ, zero, suc, ◌+◌, ◌*◌, ◌/◌, ◌%◌, ◌^◌, ◌≤◌, ◌<◌, max}
use native.Mathlib.Nat.{pow-suc, max-zero, max-eq_right, one-mul}
use native.Mathlib.Omega.{arith}
use lib.Dec.{eqb, ltb, eqb-suc-suc, eqb-zero-suc, eqb-suc-zero, lit<}
use lib.Bits.{bit_or, or_step, or_zero_r}
use lib.Count.{ones, ones_step}
use lib.Pow.{shl_exact, shr-shr}
use native.Mathlib.Numerals.{one-add}
use lib.ListN.{length}
use borrow.Author.Tests.{eqb-true, eqb-false}
use Rattle.grammar.specs.Bytes.{among}
use Rattle.rules.specs.Block.{twice}
use Rattle.rules.proofs.Order.{different, twice_is}
use Rattle.summary.specs.Keys.{seen}

-- bit k of m, as 0 or 1
abbrev bit : ℕ → ℕ → ℕ
bit m zero = m % 2
bit m (suc k) = bit (m / 2) k

bit_lt : (m k : ℕ) → bit m k < 2
bit_lt m zero = omega arith
bit_lt m (suc k) = bit_lt (m / 2) k

-- m with bit k set
abbrev put : ℕ → ℕ → ℕ
put m zero = m / 2 * 2 + 1
put m (suc k) = put (m / 2) k * 2 + m % 2

pow_half : (k : ℕ) → 2 ^ suc k / 2 ≡ 2 ^ k
pow_half k = rw pow-suc (omega arith)

pow_even : (k : ℕ) → 2 ^ suc k % 2 ≡ 0
pow_even k = rw pow-suc (omega arith)

max_one : (a : ℕ) → a < 2 → max a 1 ≡ 1
max_one a h = max-eq_right (omega arith)

or_put : (m k : ℕ) → bit_or m (2 ^ k) ≡ put m k
or_put m zero = or_step m 1 ∙ rw (or_zero_r (m / 2), max_one (m % 2) (omega arith)) refl
or_put m (suc k) = or_step m (2 ^ suc k) ∙ rw (pow_half k, pow_even k, max-zero (m % 2), or_put (m / 2) k) refl

first_half : (m : ℕ) → put m zero / 2 ≡ m / 2
first_half m = omega arith

first_odd : (m : ℕ) → put m zero % 2 ≡ 1
first_odd m = omega arith

put_half : (m k : ℕ) → put m (suc k) / 2 ≡ put (m / 2) k
put_half m k = omega arith

put_odd : (m k : ℕ) → put m (suc k) % 2 ≡ m % 2
put_odd m k = omega arith

-- two bits may be set in either order
put_swap : (m j k : ℕ) → put (put m j) k ≡ put (put m k) j
put_swap m zero zero = refl
put_swap m zero (suc k) = rw (first_half m, first_odd m, put_half m k) refl
put_swap m (suc j) zero = rw (first_half m, first_odd m, put_half m j) refl
put_swap m (suc j) (suc k) = rw (put_half m j, put_odd m j, put_half m k, put_odd m k, put_swap (m / 2) j k) refl

-- one digit more is set, but for the one that was
ones_put : (m k : ℕ) → ones (put m k) + bit m k ≡ ones m + 1
ones_put m zero =
    let a : ones (put m zero) ≡ 1 + ones (m / 2) = ones_step (put m zero) ∙ ap₂ (λ (x y : ℕ). x + ones y) (first_odd m) (first_half m) in
    omega (arith, ones_step m)
ones_put m (suc k) =
    let a : ones (put m (suc k)) ≡ m % 2 + ones (put (m / 2) k) = ones_step (put m (suc k)) ∙ ap₂ (λ (x y : ℕ). x + ones y) (put_odd m k) (put_half m k) in
    omega (arith, ones_step m, ones_put (m / 2) k)

-- bit k of m is set
abbrev has : ℕ → ℕ → Bool
has m k = eqb (bit m k) 1

has_put : (m k j : ℕ) → has (put m k) j ≡ (eqb j k || has m j)
has_put m zero zero = rw (first_odd m) refl
has_put m zero (suc j) = rw (first_half m, eqb-suc-zero j) refl
has_put m (suc k) zero = rw (put_odd m k, eqb-zero-suc k) refl
has_put m (suc k) (suc j) = rw (put_half m k, eqb-suc-suc j k) (has_put (m / 2) k j)

has_none : (k : ℕ) → has 0 k ≡ false
has_none k = ap (λ (b : ℕ). eqb b 1) (zeros k)
  where
    zeros : (k : ℕ) → bit 0 k ≡ 0
    zeros zero = refl
    zeros (suc k) = zeros k

-- bit k, as the code shifts it down
bit_is : (m k : ℕ) → m / 2 ^ k % 2 ≡ bit m k
bit_is m zero = omega arith
bit_is m (suc k) = rw (← one-add k, ← shr-shr m 1 k) (bit_is (m / 2) k)

seen_has : (m k : ℕ) → seen m k ≡ has m k
seen_has m k = ap (λ (b : ℕ). eqb b 1) (bit_is m k)

pub seen_none : (k : ℕ) → seen 0 k ≡ false
seen_none k = seen_has 0 k ∙ has_none k

pub seen_more : (m k j : ℕ) → seen (bit_or m (2 ^ k)) j ≡ (eqb j k || seen m j)
seen_more m k j = rw (or_put m k, seen_has (put m k) j, seen_has m j) (has_put m k j)

-- a mask after a list of keys: one bit more for each, in turn
abbrev pub marked : ℕ → List ℕ → ℕ
marked m [] = m
marked m (k ∷ ks) = marked (bit_or m (2 ^ k)) ks

marked_put : (m k : ℕ) (ks : List ℕ) → marked (put m k) ks ≡ put (marked m ks) k
marked_put m k [] = refl
marked_put m k (x ∷ xs) = rw (or_put (put m k) x, or_put m x, put_swap m k x) (marked_put (put m x) k xs)

mask : List ℕ → ℕ
mask ks = marked 0 ks

mask_step : (k : ℕ) (ks : List ℕ) → mask (k ∷ ks) ≡ put (mask ks) k
unfolding mask
mask_step k ks = rw (or_put 0 k) (marked_put 0 k ks)

has_mask : (j : ℕ) (ks : List ℕ) → has (mask ks) j ≡ among j ks
unfolding mask
has_mask j [] = has_none j
has_mask j (k ∷ ks) = ap (λ (m : ℕ). has m j) (mask_step k ks) ∙ has_put (mask ks) k j ∙ ap (λ (b : Bool). eqb j k || b) (has_mask j ks)

pub seen_marked : (j : ℕ) (ks : List ℕ) → seen (marked 0 ks) j ≡ among j ks
unfolding mask
seen_marked j ks = seen_has (marked 0 ks) j ∙ has_mask j ks

-- the count of ones is the number of different keys
pub ones_different : (ks : List ℕ) → ones (marked 0 ks) ≡ length (different ks)
unfolding mask ones
ones_different [] = refl
ones_different (k ∷ ks) = ap ones (mask_step k ks) ∙ go (among k ks) (has_mask k ks) (ones_different ks)
  where
    go : (b : Bool) → has (mask ks) k ≡ b → ones (mask ks) ≡ length (different ks) → ones (put (mask ks) k) ≡ length (cond b (different ks) (k ∷ different ks))
    go true e h = omega (arith, ones_put (mask ks) k, eqb-true (bit (mask ks) k) 1 e)
    go false e h = omega (arith, ones_put (mask ks) k, bit_lt (mask ks) k, eqb-false (bit (mask ks) k) 1 e)

-- there are at most as many as keys, and fewer exactly where a key stands twice
pub ones_at_most : (ks : List ℕ) → ones (marked 0 ks) ≤ length ks
unfolding mask ones
ones_at_most [] = omega arith
ones_at_most (k ∷ ks) = omega (arith, ap ones (mask_step k ks), ones_put (mask ks) k, ones_at_most ks)

pub fewer_ones : (ks : List ℕ) → ltb (ones (marked 0 ks)) (length ks) ≡ twice ks
fewer_ones ks = rw (ones_different ks) (sym (twice_is ks))

-- the bit that the code shifts to a key's place
pub shifted : (k : ℕ) → k < 64 → (1 * 2 ^ k) % 2 ^ 64 ≡ 2 ^ k
shifted k h = shl_exact {a = 1} 1 k 64 (lit< tt) (omega arith) ∙ one-mul (2 ^ k)
