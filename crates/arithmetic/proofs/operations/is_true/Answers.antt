-- `arithmetic::operations::is_true` meets its contract: a value is not zero where its size is not.
-- Assumes nothing.
use Rattle.arithmetic.proofs.operations.is_true.Goals as goal

pub returns : goal.returns
returns c = rw c.size.ensures
