-- `arithmetic::apply` meets its contract: a value that passed the guard is in range, as `function` asks.
-- Assumes nothing.
use mathlib.Core.Path.{sym, ◌∙◌}
use Rattle.arithmetic.proofs.Kept.{good_kept}
use Rattle.arithmetic.proofs.apply.Goals as goal

pub invariant_of-function : goal.invariant_of-function
invariant_of-function c = record { in_range = good_kept c.args.a c.in_ok-x.x (sym c.checked.ensures ∙ c.in_ok-x.was) }

pub returns : goal.returns
returns c = c.function.ensures ∙ rw (sym c.checked.ensures ∙ c.in_ok-x.was)
