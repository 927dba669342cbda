-- `arithmetic::functions::fup` meets its contract: up is down for the negative (`upward_by`).
-- Assumes nothing.
use Rattle.arithmetic.proofs.Sizes.{upward_by}
use mathlib.Core.Path.{◌∙◌}
use Rattle.arithmetic.proofs.functions.fup.Goals as goal

pub returns : goal.returns
returns c =
    c.ranged_signed.ensures
    ∙ simp (c.down_to.ensures, c.is_below_zero-negative.ensures, c.size.ensures, upward_by c.args.a.value.0)
