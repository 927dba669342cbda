-- The operations by sign and size: what the functions of src/ compute is what `rules` says. All that is rounded goes through `nearest_by`, the one
-- rounding law, at its own divisor.
-- Assumes nothing.
use mathlib.Core.Path.{◌≡◌, refl, sym, ap, ◌∙◌}
use mathlib.Core.Bool.{Bool, true, false, not}
use Prim.Native.Nat.{ℕ, zero, suc, ◌+◌, ◌-◌, ◌*◌, ◌%◌, ◌≤◌, ◌<◌}
use native.Mathlib.Omega.{arith}
use native.Mathlib.Nat as N
use lib.IntN.{ℤ, pos, neg_ℤ, nat_abs, ◌-ℤ◌, ◌*ℤ◌}
use borrow.Author.Tests.{eq-eqb, ne_eqb}
use Rattle.laws.proofs.Ints.{up_neg, dn_neg, diff_is, eq_parts}
use Rattle.rules.specs.Numbers.{minus, signed, differ, nearest, residue, residue_size, down, upward, rounded}
use Rattle.rules.specs.Meaning.{ranged, divided}
use Rattle.std.specs.Prelude.{Err}
use Rattle.rules.specs.declared.Refusal.TheVariants.{ZeroDivisor}
use Rattle.rules.proofs.Signs.{signed_abs}
use Rattle.rules.proofs.Nearest.{product_signed, nearest_by}
use Rattle.value.specs.Guarded.{nearest_size}
use Rattle.value.proofs.Sizes.{differ_false, nearest_signed, steps_by}
use Rattle.arithmetic.specs.Guarded.{down_size}

-- ---- to the nearest
product_by : (a b : ℤ) → nearest (a *ℤ b) (pos 10000) ≡ signed (differ (minus a) (minus b)) (nearest_size (nat_abs a * nat_abs b) 10000)
product_by a b = rw (product_signed a b) (nearest_signed (differ (minus a) (minus b)) (nat_abs a * nat_abs b) 10000)

quotient_by : (a b : ℤ) → nearest (a *ℤ pos 10000) b ≡ signed (differ (minus a) (minus b)) (nearest_size (nat_abs a * 10000) (nat_abs b))
quotient_by a b = rw (product_signed a (pos 10000), differ_false (minus a)) (nearest_by (minus a) (nat_abs a * 10000) b)

-- a divisor of size m
pub no_divisor : (b q : ℤ) {m : ℕ} → m ≡ nat_abs b → m ≡ 0 → Err ZeroDivisor ≡ divided b q
no_divisor b q size e = rw (eq-eqb (nat_abs b) 0 (sym size ∙ e))

divisor : (b q : ℤ) {m : ℕ} → m ≡ nat_abs b → (m ≡ 0 → ⊥) → divided b q ≡ ranged q
divisor b q size h = rw (ne_eqb (nat_abs b) 0 (λ e. h (size ∙ e)))

-- the same from what the calls say: n and m are the sizes of a and b, s and t their signs
module _ (a b : ℤ) {n m : ℕ} {s t : Bool} (size : n ≡ nat_abs a) (other : m ≡ nat_abs b) (sign : s ≡ minus a) (beside : t ≡ minus b) where
  pub product_is : {q : ℕ} → q ≡ nearest_size (n * m) 10000 → ranged (signed (differ s t) q) ≡ ranged (nearest (a *ℤ b) (pos 10000))
  product_is e = ap ranged (rw (e, size, other, sign, beside) (sym (product_by a b)))

  pub quotient_is : {q : ℕ} → q ≡ nearest_size (n * 10000) m → (m ≡ 0 → ⊥) → ranged (signed (differ s t) q) ≡ divided b (nearest (a *ℤ pos 10000) b)
  quotient_is e h = ap ranged (rw (e, size, other, sign, beside) (sym (quotient_by a b))) ∙ sym (divisor b (nearest (a *ℤ pos 10000) b) other h)

pub rounded_by : (a : ℤ) → rounded a ≡ signed (minus a) (nearest_size (nat_abs a) 10000 * 10000)
rounded_by a = steps_by a 10000

-- ---- what is left over
pub modulo_is : (a b : ℤ) {n m q : ℕ} {s : Bool} → n ≡ nat_abs a → m ≡ nat_abs b → s ≡ minus a → q ≡ residue_size s n m → (m ≡ 0 → ⊥)
    → ranged (signed false q) ≡ divided b (residue a b)
unfolding residue
modulo_is a b size other sign e h = rw (e, size, other, sign) (sym (divisor b (residue a b) other h))

pub residue_le : (n : ℕ) → n % 10000 ≤ n
residue_le n = N.mod-le n 10000

pub residue_small : (s : Bool) (n : ℕ) → residue_size s n 10000 < 10000
residue_small true n = N.mod-lt (10000 - n % 10000) (omega arith)
residue_small false n = N.mod-lt n (omega arith)

-- ---- down and up to whole units
down_size_holds : (s : Bool) (n : ℕ) → signed s n -ℤ pos (residue_size s n 10000) ≡ signed s (down_size s n)
down_size_holds true n =
    let r = residue_size true n 10000 in
    eq_parts (neg_ℤ (pos n) -ℤ pos r) (neg_ℤ (pos (n + r)))
    (omega (arith, diff_is (neg_ℤ (pos n)) (pos r), up_neg (pos n), dn_neg (pos n), up_neg (pos (n + r)), dn_neg (pos (n + r))))
down_size_holds false n =
    let r = n % 10000 in
    eq_parts (pos n -ℤ pos r) (pos (n - r)) (omega (arith, diff_is (pos n) (pos r), residue_le n))

-- the residue of a size 0 does not depend on the sign
residue_sign : (s : Bool) (n : ℕ) → residue (signed s n) (pos 10000) ≡ pos (residue_size s n 10000)
unfolding residue
residue_sign false n = refl
residue_sign true zero = refl
residue_sign true (suc n) = refl

down_signed : (s : Bool) (n : ℕ) → down (signed s n) ≡ signed s (down_size s n)
down_signed s n = ap (λ (z : ℤ). signed s n -ℤ z) (residue_sign s n) ∙ down_size_holds s n

neg_signed : (s : Bool) (n : ℕ) → neg_ℤ (signed s n) ≡ signed (not s) n
neg_signed true zero = refl
neg_signed true (suc n) = refl
neg_signed false n = refl

not_not : (s : Bool) → not (not s) ≡ s
not_not true = refl
not_not false = refl

pub down_by : (a : ℤ) → down a ≡ signed (minus a) (down_size (minus a) (nat_abs a))
down_by a = ap down (sym (signed_abs a)) ∙ down_signed (minus a) (nat_abs a)

pub upward_by : (a : ℤ) → upward a ≡ signed (minus a) (down_size (not (minus a)) (nat_abs a))
upward_by a =
    ap upward (sym (signed_abs a)) ∙ ap (λ (z : ℤ). neg_ℤ (down z)) (neg_signed (minus a) (nat_abs a))
    ∙ ap neg_ℤ (down_signed (not (minus a)) (nat_abs a)) ∙ neg_signed (not (minus a)) (down_size (not (minus a)) (nat_abs a))
    ∙ ap (λ (t : Bool). signed t (down_size (not (minus a)) (nat_abs a))) (not_not (minus a))
