-- `mend::whole::enter` meets its contract.
-- Assumes nothing.
use native.Mathlib.Omega.{arith}
use Rattle.mend.proofs.Listing.{no_entry, an_entry}
use Rattle.mend.proofs.whole.enter.Goals as goal

pub returns-then-list-used-lt3 : goal.returns-then-list-used-lt3
returns-then-list-used-lt3 c = no_entry c.args.list.now c.args.used c.args.line c.args.entry.byte c.args.entry.which (omega arith)

pub returns : goal.returns
returns c = an_entry c.args.list.now c.args.used c.args.line c.args.entry.byte c.args.entry.which (omega arith) c.lay.result c.lay.new.out c.lay.ensures.0 c.lay.ensures.1
