-- `mend::whole::lay` meets its contract.
-- Assumes nothing.
use native.Mathlib.Omega.{arith}
use Rattle.mend.proofs.Laying.{laid_more}
use Rattle.mend.proofs.whole.lay.Goals as goal

pub loop-i-preserved : goal.loop-i-preserved
loop-i-preserved g c = rw c.loop-i.invariant (laid_more c.args.out.now c.args.items.now c.args.from c.loop-i.i c.index-items-i.result (omega arith) (omega arith) c.index-items-i.is)
