-- `mend::whole::put_lines` meets its contract: putting the rest of the text comes to what putting all of it comes to.
-- Assumes nothing.
use Rattle.texts.specs.Walk.{pieces_in}
use Rattle.mend.proofs.AllPut.{Put}
use Rattle.mend.proofs.whole.put_lines.Given as goal

abbrev pub invariant-loop-piece : goal.invariant-loop-piece
invariant-loop-piece l = record {
  can : (goal.iterator-loop-piece).can_next l.piece-iterator;
  ends : (goal.iterator-loop-piece).is_finite l.piece-iterator;
  put : Put l.text l.initial.out l.initial.list l.held (pieces_in l.piece-iterator) l.out l.list;
}
