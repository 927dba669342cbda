-- `arithmetic::operations::quotient` meets its contract: sizes are divided and rounded, signs compared (`quotient_is`).
-- Assumes nothing.
use mathlib.Core.Path.{◌∙◌}
use Rattle.arithmetic.proofs.Sizes.{quotient_is, no_divisor}
use Rattle.arithmetic.proofs.operations.quotient.Goals as goal

pub returns-then-d-eq0 : goal.returns-then-d-eq0
returns-then-d-eq0 c = no_divisor c.args.b.value.0 _ c.size-d.ensures c.if-d-eq0.true

pub returns : goal.returns
returns c =
    c.ranged_signed.ensures
    ∙ quotient_is c.args.a.value.0 c.args.b.value.0 c.size.ensures c.size-d.ensures
    c.is_below_zero.ensures c.is_below_zero-2.ensures c.rounded.ensures c.if-d-eq0.false
