-- `arithmetic::size` meets its contract: the number that a value holds is read back as it is.
-- Assumes nothing.
use Rattle.laws.proofs.Ints.{back}
use mathlib.Core.Path.{◌∙◌}
use Rattle.arithmetic.proofs.size.Goals as goal

pub returns : goal.returns
returns c = c.size_of.ensures ∙ simp (back c.args.v.0 (record { sfits = c.struct_told-1.given.0.1 }))
