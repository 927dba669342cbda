-- `arithmetic::functions::function` meets its contract: case by case of the function.
-- Assumes nothing.
use mathlib.Core.Path.{◌∙◌}
use Rattle.rules.specs.Meaning.{function}
use Rattle.arithmetic.proofs.functions.function.Goals as goal

pub returns-in-Abs : goal.returns-in-Abs
unfolding function
returns-in-Abs c = c.absolute.ensures ∙ rw c.in-Abs.is

pub returns-in-Fix : goal.returns-in-Fix
unfolding function
returns-in-Fix c = c.fix.ensures ∙ rw c.in-Fix.is

pub returns-in-Fup : goal.returns-in-Fup
unfolding function
returns-in-Fup c = c.fup.ensures ∙ rw c.in-Fup.is

pub returns-in-Round : goal.returns-in-Round
unfolding function
returns-in-Round c = c.round.ensures ∙ rw c.in-Round.is
