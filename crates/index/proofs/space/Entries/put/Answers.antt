-- `index::space::Entries::put` meets its contract: an entry is written over, taken out, or put in.
-- Assumes nothing.
use mathlib.Core.Path.{◌∙◌}
use Rattle.index.proofs.Holding.{spot_low, put_over, put_in, put_out, put_none}
use Rattle.index.proofs.space.Entries.put.Goals as goal

pub returns-in-Ok-Some : goal.returns-in-Ok-Some
returns-in-Ok-Some c = rw c.in-Ok-Some.is-1 (c.write.ensures ∙ put_over c.args.self.now c.args.n (rw c.held.ensures.entries at c.in-Ok-Some.ensures) c.in-Ok-Some.place)

pub returns-in-Ok-None : goal.returns-in-Ok-None
returns-in-Ok-None c = rw c.in-Ok-None.is-1 (c.remove.ensures ∙ put_out c.args.self.now c.args.n (rw c.held.ensures.entries at c.in-Ok-None.ensures))

pub insert-requires : goal.insert-requires
insert-requires c = (spot_low c.args.self.now c.args.n (rw c.held.ensures.entries at c.in-Err-Some.ensures), c.requires)

pub returns-in-Err-Some : goal.returns-in-Err-Some
returns-in-Err-Some c = rw c.in-Err-Some.is-1 (c.insert.ensures ∙ put_in c.args.self.now c.args.n (rw c.held.ensures.entries at c.in-Err-Some.ensures) c.in-Err-Some.place)

pub returns-in-Err-None : goal.returns-in-Err-None
returns-in-Err-None c = rw c.in-Err-None.is-1 (put_none c.args.self.now c.args.n (rw c.held.ensures.entries at c.in-Err-None.ensures))
