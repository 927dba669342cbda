-- `control::interpret` meets its contract: spaces of its own make no difference.
-- Assumes nothing.
use Rattle.control.proofs.interpret.Goals as goal

pub returns : goal.returns
returns c = c.interpret_in.ensures.0
