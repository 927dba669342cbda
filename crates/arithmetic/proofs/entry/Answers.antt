-- `arithmetic::entry` meets its contract: the entry of a number, or no parameter.
-- Assumes nothing.
use mathlib.Core.Path.{◌∙◌}
use Rattle.arithmetic.proofs.entry.Goals as goal

pub returns-in-Some : goal.returns-in-Some
returns-in-Some c = c.entry_at.ensures ∙ rw c.in-Some.is
