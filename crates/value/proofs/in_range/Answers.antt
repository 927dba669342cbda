-- `value::in_range` meets its contract: the number that a value holds is read back as it is, and its size compared.
-- Assumes nothing.
use Rattle.laws.proofs.Ints.{back}
use Rattle.value.proofs.in_range.Goals as goal

pub returns : goal.returns
returns c = rw (c.size_of.ensures, back _ (record { sfits = c.struct_told-1.given.0.1 }))
