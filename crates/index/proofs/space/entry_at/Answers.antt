-- `index::space::entry_at` meets its contract.
-- Assumes nothing.
use mathlib.Core.Path.{sym}
use Rattle.index.proofs.Numbers.{held_at}
use Rattle.index.proofs.space.entry_at.Goals as goal

pub returns : goal.returns
returns c = sym (held_at c.args.numbers.now c.args.i c.requires)
