use Rattle.std.proofs.Common.{rules}
use Rattle.streams.proofs.Filling.{filled_on}
use Rattle.streams.proofs.reading.read_whole.Goals as goal

pub loop-filled-preserved : goal.loop-filled-preserved
loop-filled-preserved g c =
    let l = c.loop-filled in
    (search rules, filled_on _ _ _ l.bytes c.next_piece.new.bytes _ l.filled c.in_ok-many.many l.invariant.0 c.in_ok-many.ensures.0.0 l.invariant.1 c.in_ok-many.ensures.1.0)
