-- `arithmetic::operations::product` meets its contract: sizes are multiplied and rounded, signs compared (`product_is`).
-- Assumes nothing.
use mathlib.Core.Path.{◌∙◌}
use Rattle.laws.proofs.Ints.{mul_bound}
use native.Mathlib.Omega.{arith}
use Rattle.arithmetic.proofs.Sizes.{product_is}
use Rattle.arithmetic.proofs.operations.product.Goals as goal

pub overflow_mul-size : goal.overflow_mul-size
overflow_mul-size c =
    omega (arith, mul_bound c.size.result c.size-2.result 999999999 999999999 (omega arith) (omega arith))

pub returns : goal.returns
returns c =
    c.ranged_signed.ensures
    ∙ product_is c.args.a.value.0 c.args.b.value.0 c.size.ensures c.size-2.ensures
    c.is_below_zero.ensures c.is_below_zero-2.ensures c.rounded.ensures
