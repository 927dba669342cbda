-- `lengths::held` meets its contract.
-- Assumes nothing.
use Rattle.std.proofs.lemmas.Int.{to_z-of_z}
use Rattle.std.proofs.Common.{arith}
use Rattle.lengths.proofs.Lengths.{brought_in}
use Rattle.lengths.proofs.held.Goals as goal

pub returns : goal.returns
returns c = grind (arith, to_z-of_z, brought_in)
