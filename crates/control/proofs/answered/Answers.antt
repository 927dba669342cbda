-- `control::answered` meets its contract.
-- Assumes nothing.
use mathlib.Core.Path.{sym, ◌∙◌}
use Rattle.control.proofs.answered.Goals as goal

pub returns-then-in_order : goal.returns-then-in_order
returns-then-in_order c = rw (sym c.in_order.ensures ∙ c.if-in_order.true) c.unchanged.ensures

pub returns : goal.returns
returns c = rw (sym c.in_order.ensures ∙ c.if-in_order.false) c.unchanged-2.ensures
