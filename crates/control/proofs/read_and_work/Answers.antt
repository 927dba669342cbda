-- `control::read_and_work` meets its contract: what the reader leaves is worked as the rules say.
-- Assumes nothing.
use Rattle.control.proofs.Keeping.{kept_read, kept_unread, lends_read}
use Rattle.control.proofs.read_and_work.Goals as goal

pub returns-in-Ok : goal.returns-in-Ok
returns-in-Ok c = (
  kept_read c.args.line.now c.args.switch c.args.rec c.args.table.now c.args.out.now c.requires.0 c.requires.1 c.requires.2 c.args.spaces.now c.requires.3 c.requires.4 c.requires.5 c.requires.6 (rw c.in-Ok.is at c.read.ensures) c.finish.ensures.0 c.finish.ensures.1 c.finish.ensures.2 c.finish.ensures.3,
  lends_read c.args.line.now c.args.switch c.args.table.now c.args.spaces.now c.requires.0 c.requires.1 c.requires.2 c.read.ensures,
)

pub returns-in-Err : goal.returns-in-Err
returns-in-Err c = (
  kept_unread c.args.line.now c.args.switch c.args.rec c.args.table.now c.args.out.now c.requires.0 c.requires.1 c.requires.2 c.args.spaces.now c.requires.3 c.requires.4 c.requires.5 c.requires.6 (rw c.in-Err.is at c.read.ensures) c.unworked.ensures,
  lends_read c.args.line.now c.args.switch c.args.table.now c.args.spaces.now c.requires.0 c.requires.1 c.requires.2 c.read.ensures,
)
