-- Sums and differences of lengths, and the conversion. For numbers within bounds nothing shows of the farthest lengths.
-- Assumes nothing.
use mathlib.Core.Path.{◌≡◌}
use mathlib.Core.Bool.{Bool, true, false, cond}
use Prim.Native.Nat.{ℕ, ◌≤◌}
use native.Mathlib.Omega.{arith}
use lib.Dec.{eqb}
use lib.IntN.{ℤ, pos, negsuc, nat_abs, ◌*ℤ◌}
use mir.Syntax.{w64}
use mir.Val.{SFits}
use borrow.Author.Tests.{le-leb}
use Rattle.std.proofs.lemmas.Bool.Decides.{nat_tests}
use Rattle.std.specs.Int.{int_max, saturate_signed}
use Rattle.laws.proofs.Ints.{Within, within_product, within_pos, within_le}
use Rattle.rules.specs.Reach.{counts, converted}
use Rattle.rules.specs.declared.Value.{Value}
use Rattle.value.specs.Guarded.{Ranged}
use Rattle.lengths.specs.Saturated.{most, saturated, conversion}

-- ---- sums and differences: the machine's own saturation, whose lowest number alone is beyond the farthest length
pub brought_in : (z : ℤ) → SFits w64 z → counts (int_max z (negsuc 9223372036854775806)) ≡ saturated z
unfolding saturated
brought_in (pos n) f = let h : n ≤ most = omega (arith, f.sfits) in rw (le-leb n most h)
brought_in (negsuc n) f = grind (arith, nat_tests)

pub saturated_twice : (z : ℤ) → saturated (saturate_signed w64 z) ≡ saturated z
unfolding saturated
saturated_twice (pos n) = grind (arith, nat_tests)
saturated_twice (negsuc n) = grind (arith, nat_tests)

-- so many counts, where the machine holds them
pub saturated_is : {z : ℤ} → Within most z → saturated z ≡ counts z
unfolding saturated
saturated_is {z} p = rw (le-leb (nat_abs z) most p.size)

-- ---- the conversion of a value in range
pub conversion_is : (units : ℕ) (v : Value) → Ranged v.0 → conversion units v ≡ converted units v
unfolding conversion
conversion_is units v r = rw (le-leb (nat_abs v.0) 999999999 r.size)

-- 99,999.9999 inches at most
pub converted_within : (units : ℕ) (v : Value) → Ranged v.0 → Within 253999999746 (converted units v).0
unfolding converted
converted_within units v r = go (eqb units 200)
  where
    go : (c : Bool) → Within 253999999746 (v.0 *ℤ pos (cond c 254 10))
    go true = within_product r (within_pos 254)
    go false = within_le (omega arith) (within_product r (within_pos 10))
