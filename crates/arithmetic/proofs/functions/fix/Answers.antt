-- `arithmetic::functions::fix` meets its contract: a value of its sign and of its size taken down (`down_by`).
-- Assumes nothing.
use Rattle.arithmetic.proofs.Sizes.{down_by}
use mathlib.Core.Path.{◌∙◌}
use Rattle.arithmetic.proofs.functions.fix.Goals as goal

pub returns : goal.returns
returns c =
    c.ranged_signed.ensures
    ∙ simp (c.down_to.ensures, c.is_below_zero-negative.ensures, c.size.ensures, down_by c.args.a.value.0)
