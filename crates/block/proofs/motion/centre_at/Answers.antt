-- `block::motion::centre_at` meets its contract.
-- Assumes nothing.
use mathlib.Core.Path.{◌∙◌}
use Rattle.rules.specs.Block.{amount}
use Rattle.rules.specs.Reach.{converted, at}
use Rattle.checks.specs.Modes.{word_at}
use Rattle.block.proofs.Sums.{word_short, from_here}
use Rattle.block.proofs.motion.centre_at.Goals as goal

pub returns : goal.returns
returns c =
    let v = amount (word_at c.args.offsets c.args.i) in
    c.add.ensures ∙ rw (c.long.ensures, c.unwrap_or.ensures) (from_here (at c.args.here c.args.i) (converted c.args.units v) (c.requires.under c.args.i) (word_short c.args.units v (c.requires.worded c.args.i)))
