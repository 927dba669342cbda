-- `control::misformed` meets its contract.
-- Assumes nothing.
use mathlib.Core.Path.{sym, ◌∙◌}
use Rattle.control.proofs.misformed.Goals as goal

pub returns-then-not-in_order : goal.returns-then-not-in_order
returns-then-not-in_order c = rw (sym c.in_order.ensures ∙ c.if-not-in_order.true) c.unchanged.ensures

pub returns : goal.returns
returns c = rw (sym c.in_order.ensures ∙ c.if-not-in_order.false)
