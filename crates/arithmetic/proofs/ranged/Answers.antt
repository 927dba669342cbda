-- `arithmetic::ranged` meets its contract: the test of the range is the one that the rules make.
-- Assumes nothing.
use mathlib.Core.Path.{sym, ◌∙◌}
use Rattle.rules.specs.Meaning.{ranged}
use Rattle.arithmetic.proofs.ranged.Goals as goal

pub returns-then-in_range : goal.returns-then-in_range
unfolding ranged
returns-then-in_range c = rw (sym c.in_range.ensures ∙ c.if-in_range.true)

pub returns-else-in_range : goal.returns-else-in_range
unfolding ranged
returns-else-in_range c = rw (sym c.in_range.ensures ∙ c.if-in_range.false)
