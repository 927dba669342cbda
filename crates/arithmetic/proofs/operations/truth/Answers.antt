-- `arithmetic::operations::truth` meets its contract: 1 and 0 are in range.
-- Assumes nothing.
use Rattle.rules.specs.Meaning.{ranged}
use Rattle.arithmetic.proofs.operations.truth.Goals as goal

pub returns-then-t : goal.returns-then-t
unfolding ranged
returns-then-t c = rw c.if-t.true

pub returns-else-t : goal.returns-else-t
unfolding ranged
returns-else-t c = rw c.if-t.false
