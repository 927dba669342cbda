-- A number by its sign and size.
-- Assumes nothing.
use mathlib.Core.Path.{◌≡◌, refl}
use mathlib.Core.Bool.{Bool, true, false}
use Prim.Native.Nat.{ℕ, zero, suc}
use lib.IntN.{ℤ, pos, negsuc, nat_abs}
use Rattle.rules.specs.Numbers.{minus, signed}

pub abs_signed : (s : Bool) (n : ℕ) → nat_abs (signed s n) ≡ n
abs_signed true zero = refl
abs_signed true (suc n) = refl
abs_signed false n = refl

pub signed_abs : (z : ℤ) → signed (minus z) (nat_abs z) ≡ z
signed_abs (pos n) = refl
signed_abs (negsuc n) = refl
