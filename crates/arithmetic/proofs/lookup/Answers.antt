-- `arithmetic::lookup` meets its contract: the entry of the parameter that a value in range names.
-- Assumes nothing.
use mathlib.Core.Path.{sym, ◌∙◌}
use Rattle.arithmetic.proofs.lookup.Goals as goal

pub returns : goal.returns
returns c = c.entry.ensures ∙ rw (c.parameter.ensures, sym c.checked.ensures ∙ c.in_ok-x.was)
