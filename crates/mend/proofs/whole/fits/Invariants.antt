-- `mend::whole::fits` meets its contract: the bytes of the lines before those that are left are taken from the room.
-- Assumes nothing.
use Rattle.texts.specs.Walk.{pieces_in}
use Rattle.mend.proofs.Fitting.{Still}
use Rattle.mend.proofs.whole.fits.Given as goal

abbrev pub invariant-loop-piece : goal.invariant-loop-piece
invariant-loop-piece l = record {
  can : (goal.iterator-loop-piece).can_next l.piece-iterator;
  ends : (goal.iterator-loop-piece).is_finite l.piece-iterator;
  still : Still l.text l.room (pieces_in l.piece-iterator) l.left;
}
