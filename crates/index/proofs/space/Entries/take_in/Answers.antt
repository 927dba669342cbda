-- `index::space::Entries::take_in` meets its contract.
-- Assumes nothing.
use lib.ListN.{length, drop}
use Rattle.index.proofs.Numbers.{kept_front}
use Rattle.index.proofs.space.Entries.take_in.Goals as goal

pub returns : goal.returns
returns c = rw (c.copy_from_slice.ensures.after, c.count_in-self-inside.ensures) (kept_front c.args.numbers.now (drop (length c.args.numbers.now) c.self.inside.space))
