-- `record::in_order` meets its contract.
-- Assumes nothing.
use Rattle.std.proofs.Common.{arith}
use Rattle.std.proofs.lemmas.Grind.{common_steps}
use Rattle.rules.specs.Reach.{in_order}
use Rattle.record.proofs.in_order.Goals as goal

pub returns-then-quantities_in_range : goal.returns-then-quantities_in_range
unfolding in_order
returns-then-quantities_in_range c = grind (arith, common_steps)

pub returns-else-quantities_in_range : goal.returns-else-quantities_in_range
unfolding in_order
returns-else-quantities_in_range c = grind (arith, common_steps)
