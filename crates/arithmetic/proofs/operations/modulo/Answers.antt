-- `arithmetic::operations::modulo` meets its contract: what the sizes leave over, by the sign of the dividend (`modulo_is`).
-- Assumes nothing.
use mathlib.Core.Path.{◌∙◌}
use Rattle.arithmetic.proofs.Sizes.{modulo_is, no_divisor}
use Rattle.arithmetic.proofs.operations.modulo.Goals as goal

pub returns-then-d-eq0 : goal.returns-then-d-eq0
returns-then-d-eq0 c = no_divisor c.args.b.value.0 _ c.size-d.ensures c.if-d-eq0.true

pub returns : goal.returns
returns c =
    c.ranged_signed.ensures
    ∙ modulo_is c.args.a.value.0 c.args.b.value.0 c.size.ensures c.size-d.ensures
    c.is_below_zero-negative.ensures c.left_over.ensures c.if-d-eq0.false
