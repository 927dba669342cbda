-- `lengths::add` meets its contract.
-- Assumes nothing.
use Rattle.std.proofs.lemmas.Int.{to_z-of_z}
use Rattle.std.proofs.Common.{arith}
use Rattle.lengths.proofs.Lengths.{saturated_twice}
use Rattle.lengths.proofs.add.Goals as goal

pub returns : goal.returns
returns c = grind (arith, to_z-of_z, saturated_twice)
