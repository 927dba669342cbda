-- `block::motion::long` meets its contract.
-- Assumes nothing.
use mathlib.Core.Path.{◌∙◌}
use Rattle.lengths.proofs.Lengths.{conversion_is}
use Rattle.block.proofs.motion.long.Goals as goal

pub returns : goal.returns
returns c = c.convert.ensures ∙ conversion_is c.args.units c.args.v (record { size = c.requires })
