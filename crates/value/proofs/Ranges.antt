-- What the tests of src/ tell of a value: its range, and the parameter that it names.
-- Assumes nothing.
use mathlib.Core.Path.{◌≡◌, refl, ap, ◌∙◌}
use mathlib.Core.Bool.{Bool, true, false, cond, ◌&&◌}
use Prim.Native.Nat.{ℕ, zero, suc, ◌≤◌, ◌<◌}
use native.Mathlib.Omega.{arith}
use lib.Dec.{T, leb}
use lib.IntN.{ℤ, pos, negsuc, nat_abs}
use lib.Signed.{lt_z, non_neg}
use mir.Syntax.{w64}
use mir.Val.{SFits, Fits}
use borrow.Author.Tests.{le-leb, lt-leb, leb-true}
use Rattle.laws.proofs.Ints.{back, lt_yes, lt_no, cast_fits}
use Rattle.rules.specs.Numbers.{signed, in_range, whole, between, counted}
use Rattle.rules.specs.Meaning.{ranged, parameter_of}
use Rattle.std.specs.Prelude.{Option, Some, None, Ok, Err}
use Rattle.rules.specs.declared.Refusal.TheVariants.{OutOfRange}
use Rattle.rules.proofs.Signs.{abs_signed}
use Rattle.value.specs.Guarded.{Ranged}
use Rattle.value.proofs.Bits.{bits}

-- ---- in range, or not
pub in_range_holds : (z : ℤ) → nat_abs z ≤ 999999999 → ranged z ≡ Ok (record { 0 = z })
unfolding ranged
in_range_holds z h = rw (le-leb (nat_abs z) 999999999 h)

pub beyond : (z : ℤ) → 999999999 < nat_abs z → ranged z ≡ Err OutOfRange
unfolding ranged
beyond z h = rw (lt-leb (nat_abs z) 999999999 h)

pub inside : (z : ℤ) → in_range z ≡ true → Ranged z
inside z e = record { size = leb-true (nat_abs z) 999999999 e }

pub signed_in : (s : Bool) {n : ℕ} → n ≤ 999999999 → ranged (signed s n) ≡ Ok (record { 0 = signed s n })
signed_in s {n} h = in_range_holds (signed s n) (rw (abs_signed s n) h)

pub signed_out : (s : Bool) {n : ℕ} → 999999999 < n → ranged (signed s n) ≡ Err OutOfRange
signed_out s {n} h = beyond (signed s n) (rw (abs_signed s n) h)

-- ---- the parameter that a value names
no_right : (a : Bool) → a && false ≡ false
no_right true = refl
no_right false = refl

-- a whole number as a parameter's number
abbrev named : Option ℤ → Option ℕ
named w = cond (between 1 4999 w) (Some (counted w)) None

named_by : (z : ℤ) {w : Option ℤ} → w ≡ whole z → named w ≡ parameter_of z
unfolding parameter_of
named_by z e = ap named e

low : (n : ℤ) → lt_z n (pos 1) ≡ true → None ≡ named (Some n)
low (pos zero) t = refl
low (pos (suc n)) t = absurd (omega (arith, lt_yes (pos (suc n)) (pos 1) t))
low (negsuc n) t = refl

high : (n : ℤ) → lt_z (pos 4999) n ≡ true → None ≡ named (Some n)
high (pos n) t = rw (lt-leb n 4999 (omega (arith, lt_yes (pos 4999) (pos n) t)), no_right (leb 1 n))
high (negsuc n) t = refl

between_them : (n : ℤ) → lt_z n (pos 1) ≡ false → lt_z (pos 4999) n ≡ false → Some (nat_abs n) ≡ named (Some n)
between_them (pos n) t u = rw (le-leb 1 n (omega (arith, lt_no (pos n) (pos 1) t)), le-leb n 4999 (omega (arith, lt_no (pos 4999) (pos n) u)))
between_them (negsuc n) t u = absurd (omega (arith, lt_no (negsuc n) (pos 1) t))

number_fits : (n : ℤ) → lt_z n (pos 1) ≡ false → lt_z (pos 4999) n ≡ false → T (non_neg n) × Fits w64 (nat_abs n)
number_fits (pos n) t u = cast_fits (pos n) (omega arith) (omega (arith, lt_no (pos 4999) (pos n) u))
number_fits (negsuc n) t u = absurd (omega (arith, lt_no (negsuc n) (pos 1) t))

-- a value z that counts as the whole number n, of 64 bits
pub record CountsAs (z n : ℤ) : Type 0 where
  pub fits : SFits w64 n
  pub is : Some n ≡ whole z

module _ {z n : ℤ} (w : CountsAs z n) where
  at_n : bits n ≡ n
  at_n = back n w.fits

  pub below_first : lt_z (bits n) (pos 1) ≡ true → None ≡ parameter_of z
  below_first t = low n (simp at_n at t) ∙ named_by z w.is

  pub above_last : lt_z (pos 4999) (bits n) ≡ true → None ≡ parameter_of z
  above_last t = high n (simp at_n at t) ∙ named_by z w.is

  pub a_parameter : lt_z (bits n) (pos 1) ≡ false → lt_z (pos 4999) (bits n) ≡ false → Some (nat_abs (bits n)) ≡ parameter_of z
  a_parameter t u = simp at_n (between_them n (simp at_n at t) (simp at_n at u) ∙ named_by z w.is)

  pub index_fits : lt_z (bits n) (pos 1) ≡ false → lt_z (pos 4999) (bits n) ≡ false → T (non_neg (bits n)) × Fits w64 (nat_abs (bits n))
  index_fits t u = simp at_n (number_fits n (simp at_n at t) (simp at_n at u))

pub no_parameter : (z : ℤ) → None ≡ whole z → None ≡ parameter_of z
no_parameter z e = named_by z e
