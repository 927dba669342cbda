-- `index::building::gather` meets its contract: the lines to come and the entries so far make the index of the text.
-- Assumes nothing.
use Prim.Native.Nat.{◌≤◌}
use lib.ListN.{length}
use Rattle.texts.specs.Walk.{pieces_in}
use Rattle.index.proofs.Gathering.{OnTo}
use Rattle.index.proofs.building.gather.Given as goal

abbrev pub invariant-loop-piece : goal.invariant-loop-piece
invariant-loop-piece l = record {
  can : (goal.iterator-loop-piece).can_next l.piece-iterator;
  ends : (goal.iterator-loop-piece).is_finite l.piece-iterator;
  few : length l.entries ≤ 2000;
  onto : OnTo l.text.bytes.now l.entries l.line l.start (pieces_in l.piece-iterator);
}
