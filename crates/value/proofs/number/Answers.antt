use Rattle.laws.proofs.Ints.{mul_bound}
use Rattle.rules.proofs.Fifth.{few_decimals}
use Rattle.value.proofs.Written.{too_large, five_decimals, cut_to_five, place_high}
use mathlib.Core.Path.{sym, ◌∙◌}
use native.Mathlib.Omega.{arith}
use Prim.Native.Nat.{◌≤◌}
use Rattle.value.proofs.number.Goals as goal

pub returns-then-decimals-gt4 : goal.returns-then-decimals-gt4
returns-then-decimals-gt4 c =
    let args = c.args in
    c.ranged_signed.ensures
    ∙ rw (c.rounded.ensures, c.up_to_fifth.ensures)
    (sym (cut_to_five args.negative args.digits args.decimals c.if-decimals-gt4.true ∙ five_decimals args.negative _))

pub returns-then-digits-gt999999999 : goal.returns-then-digits-gt999999999
returns-then-digits-gt999999999 c = sym (too_large _ _ _ c.if-decimals-gt4.false c.if-digits-gt999999999.true)

pub overflow_mul-digits : goal.overflow_mul-digits
overflow_mul-digits c =
    let args = c.args in
    let place : c.last_place.result ≤ 10000 = rw c.last_place.ensures (place_high args.decimals) in
    omega (arith, mul_bound args.digits c.last_place.result 999999999 10000 c.if-digits-gt999999999.false place)

pub returns : goal.returns
returns c =
    c.ranged_signed-2.ensures ∙ rw c.last_place.ensures (sym (few_decimals _ _ _ c.if-decimals-gt4.false))
