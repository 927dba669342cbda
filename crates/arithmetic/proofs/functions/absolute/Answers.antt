-- `arithmetic::functions::absolute` meets its contract: the size without the sign.
-- Assumes nothing.
use mathlib.Core.Path.{◌∙◌}
use Rattle.arithmetic.proofs.functions.absolute.Goals as goal

pub returns : goal.returns
returns c = c.ranged_signed.ensures ∙ rw c.size.ensures
