-- `arithmetic::functions::round` meets its contract: units by the size rounded to the nearest (`rounded_by`).
-- Assumes nothing.
use Rattle.arithmetic.proofs.Sizes.{rounded_by}
use mathlib.Core.Path.{◌∙◌}
use Rattle.arithmetic.proofs.functions.round.Goals as goal

pub returns : goal.returns
returns c =
    c.ranged_signed.ensures
    ∙ simp (c.rounded.ensures, c.is_below_zero.ensures, c.size.ensures, rounded_by c.args.a.value.0)
