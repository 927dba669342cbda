-- `frames::packed_digits` meets its contract.
-- Assumes nothing.
use Rattle.frames.proofs.Packed.{packed_is}
use Rattle.frames.proofs.packed_digits.Goals as goal

pub returns : goal.returns
returns c = packed_is c.args.number
