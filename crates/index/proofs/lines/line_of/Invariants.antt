-- `index::lines::line_of` meets its contract: so many lines are left to line k.
-- Assumes nothing.
use Rattle.texts.specs.Walk.{pieces_in}
use Rattle.index.proofs.Walking.{OnTheWay}
use Rattle.index.proofs.lines.line_of.Given as goal

abbrev pub invariant-loop-piece : goal.invariant-loop-piece
invariant-loop-piece l = record {
  can : (goal.iterator-loop-piece).can_next l.piece-iterator;
  ends : (goal.iterator-loop-piece).is_finite l.piece-iterator;
  way : OnTheWay l.text l.k l.left l.start (pieces_in l.piece-iterator);
}
