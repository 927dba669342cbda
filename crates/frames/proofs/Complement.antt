-- A number in two's complement, from the machine's: below zero -1 - z is what stands under `negsuc`.
-- Assumes nothing.
use mathlib.Core.Path.{◌≡◌, refl, ap, sym, subst, ◌∙◌}
use mathlib.Core.Bool.{true, false}
use Prim.Native.Nat.{ℕ, suc, ◌-◌, ◌%◌, ◌<◌, ◌^◌}
use native.Mathlib.Omega.{arith}
use borrow.Author.Tests.{le-ltb, ltb-true}
use borrow.Author.Rules.{sfits_of}
use lib.Dec.{T}
use lib.IntN.{ℤ, pos, negsuc, nat_abs, ◌-ℤ◌}
use lib.Signed.{lt_z, mag, non_neg}
use mir.Syntax.{w64}
use mir.Val.{SFits, Fits, to_z, of_z, hbits}
use mir.Facts.{to_z-of_z}
use Rattle.rules.specs.Frames.{complement}

turned : (k : ℕ) → negsuc 0 -ℤ negsuc k ≡ pos k
turned k =
    let e : suc k - 1 ≡ k = omega arith in
    simp (le-ltb (suc k) 1 (omega arith)) (ap pos e)

never : (k : ℕ) → lt_z (pos k) (pos 0) ≡ true → ⊥
never k h = let g : k < 0 = ltb-true k 0 h in omega arith

turn : (z : ℤ) → lt_z z (pos 0) ≡ true → negsuc 0 -ℤ z ≡ pos (mag z)
turn (pos k) h = absurd (never k h)
turn (negsuc k) h = turned k

plain : (z : ℤ) → lt_z z (pos 0) ≡ false → z ≡ pos (mag z)
plain (pos k) h = refl
plain (negsuc k) h = cc

below_zero : (z : ℤ) → lt_z z (pos 0) ≡ true → 1099511627775 - mag z % 1099511627776 ≡ complement z
below_zero (pos k) h = absurd (never k h)
below_zero (negsuc k) h = refl

from_zero : (z : ℤ) → lt_z z (pos 0) ≡ false → mag z % 1099511627776 ≡ complement z
from_zero (pos k) h = refl
from_zero (negsuc k) h = cc

casts : (y : ℤ) (k : ℕ) → y ≡ pos k → SFits w64 (pos k) → T (non_neg y) × Fits w64 (nat_abs y)
casts y k e f = subst (λ (x : ℤ). T (non_neg x) × Fits w64 (nat_abs x)) (sym e) (tt, record { fits = omega (arith, f.sfits) })

-- z as the machine holds it
module _ (z : ℤ) (fits : SFits w64 z) where
  same : to_z w64 (of_z w64 z) ≡ z
  same = to_z-of_z fits

  module _ (h : lt_z (to_z w64 (of_z w64 z)) (pos 0) ≡ true) where
    down : negsuc 0 -ℤ to_z w64 (of_z w64 z) ≡ pos (mag z)
    down = ap (λ (y : ℤ). negsuc 0 -ℤ y) same ∙ turn z (rw same at h)

    pub down_fits : SFits w64 (negsuc 0 -ℤ to_z w64 (of_z w64 z))
    down_fits = subst (SFits w64) (sym down) (record { sfits = fits.sfits })

    down_back : to_z w64 (of_z w64 (negsuc 0 -ℤ to_z w64 (of_z w64 z))) ≡ pos (mag z)
    down_back = to_z-of_z down_fits ∙ down

    pub down_casts : T (non_neg (to_z w64 (of_z w64 (negsuc 0 -ℤ to_z w64 (of_z w64 z))))) × Fits w64 (nat_abs (to_z w64 (of_z w64 (negsuc 0 -ℤ to_z w64 (of_z w64 z)))))
    down_casts = casts _ _ down_back (record { sfits = fits.sfits })

    pub down_complement : 1099511627775 - nat_abs (to_z w64 (of_z w64 (negsuc 0 -ℤ to_z w64 (of_z w64 z)))) % 1099511627776 ≡ complement z
    down_complement = ap (λ (y : ℤ). 1099511627775 - nat_abs y % 1099511627776) down_back ∙ below_zero z (rw same at h)

  module _ (h : lt_z (to_z w64 (of_z w64 z)) (pos 0) ≡ false) where
    up : to_z w64 (of_z w64 z) ≡ pos (mag z)
    up = same ∙ plain z (rw same at h)

    pub up_casts : T (non_neg (to_z w64 (of_z w64 z))) × Fits w64 (nat_abs (to_z w64 (of_z w64 z)))
    up_casts = casts _ _ up (record { sfits = fits.sfits })

    pub up_complement : nat_abs (to_z w64 (of_z w64 z)) % 1099511627776 ≡ complement z
    up_complement = ap (λ (y : ℤ). nat_abs y % 1099511627776) up ∙ from_zero z (rw same at h)

-- of a number that was read from a slice
pub read_complement : {k : ℕ} (z : ℤ) → mag z < 2 ^ hbits w64 → k ≡ complement (to_z w64 (of_z w64 z)) → k ≡ complement z
read_complement z f h = h ∙ ap complement (to_z-of_z {w = w64} {z = z} (sfits_of f))
