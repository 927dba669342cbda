-- `arithmetic::checked` meets its contract: a value passes if it is in range, a refusal as it is.
-- Assumes nothing.
use mathlib.Core.Path.{◌∙◌}
use Rattle.arithmetic.proofs.checked.Goals as goal

pub returns : goal.returns
returns c = c.ranged.ensures ∙ rw c.in_ok-v.was
