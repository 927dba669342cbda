use Rattle.std.proofs.Common.{rules}
use Rattle.streams.proofs.Filling.{filled_on}
use Rattle.cases.proofs.read_full.Goals as goal

pub loop-held-preserved : goal.loop-held-preserved
loop-held-preserved g c =
    let l = c.loop-held in
    (search rules, filled_on _ _ _ l.bytes c.read.new.buf _ l.held c.in-Ok.many l.invariant.0 c.in-Ok.ensures.bound.0 l.invariant.1 c.in-Ok.ensures.bytes.0)
