-- `index::replacing::first_line` meets its contract: the first line from a place on is the first from the beginning.
-- Assumes nothing.
use mathlib.Core.Path.{◌≡◌, refl, ap, ◌∙◌}
use lib.ListN.{drop}
use Rattle.texts.specs.Ends.{pieces}
use Rattle.texts.specs.Walk.{piece_of, pieces_in}
use Rattle.texts.proofs.Spanning.{rest_is}
use Rattle.texts.proofs.Rightness.{model_tells}
use Rattle.index.proofs.Bearing.{borne_read}
use Rattle.index.proofs.Gathering.{bears_eq, first_here, first_on}
use Rattle.index.proofs.Walking.{onward_from, onward_next}
use Rattle.index.proofs.replacing.first_line.Goals as goal

pub loop-piece-init : goal.loop-piece-init
loop-piece-init c =
    let e : pieces_in c.into_iter-piece-iterator.result ≡ pieces (drop c.args.from c.args.text.bytes.now) = ap pieces_in c.into_iter-piece-iterator.ensures.into_iter_gives ∙ ap pieces (rest_is c.args.text.bytes.now c.args.from) in
    record { can = tt; ends = tt; onward = rw e (onward_from c.args.text.bytes.now c.args.k c.args.from c.requires.0 c.requires.1); first = rw e refl }

pub returns-then-eq : goal.returns-then-eq
returns-then-eq c =
    first_here c.args.n c.loop-piece.line c.loop-piece.start (piece_of c.in-Some.piece) (pieces_in c.next.new.self) (borne_read model_tells c.line_number.ensures) (c.eq.ensures ∙ bears_eq c.line_number.result c.args.n) c.if-eq.true
    ∙ (rw c.in-Some.ensures.steps at c.loop-piece.invariant.first)

pub loop-piece-preserved : goal.loop-piece-preserved
loop-piece-preserved c = record {
  can = tt;
  ends = tt;
  onward = onward_next (rw c.in-Some.ensures.steps at c.loop-piece.invariant.onward);
  first =
      first_on c.args.n c.loop-piece.line c.loop-piece.start (piece_of c.in-Some.piece) (pieces_in c.next.new.self) (borne_read model_tells c.line_number.ensures) (c.eq.ensures ∙ bears_eq c.line_number.result c.args.n) c.if-eq.false
      ∙ (rw c.in-Some.ensures.steps at c.loop-piece.invariant.first);
}
