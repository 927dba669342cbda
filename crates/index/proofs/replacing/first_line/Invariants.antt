-- `index::replacing::first_line` meets its contract: the first line from a place on is the first from the beginning.
-- Assumes nothing.
use mathlib.Core.Path.{◌≡◌}
use lib.ListN.{drop}
use Rattle.texts.specs.Ends.{pieces}
use Rattle.texts.specs.Walk.{pieces_in}
use Rattle.texts.proofs.Rightness.{model}
use Rattle.index.specs.Index.{first_from}
use Rattle.index.proofs.Walking.{Onward}
use Rattle.index.proofs.replacing.first_line.Given as goal

abbrev pub invariant-loop-piece : goal.invariant-loop-piece
invariant-loop-piece l = record {
  can : (goal.iterator-loop-piece).can_next l.piece-iterator;
  ends : (goal.iterator-loop-piece).is_finite l.piece-iterator;
  onward : Onward l.text.bytes.now l.line l.start (pieces_in l.piece-iterator);
  first : first_from model l.n l.line l.start (pieces_in l.piece-iterator) ≡ first_from model l.n l.k l.from (pieces (drop l.from l.text.bytes.now));
}
