-- `index::building::gather` meets its contract: the lines to come and the entries so far make the index of the text.
-- Assumes nothing.
use Prim.Native.Nat.{◌+◌, ◌<◌}
use native.Mathlib.Omega.{arith}
use lib.ListN.{length}
use Rattle.texts.specs.Walk.{piece_of, pieces_in}
use Rattle.texts.proofs.Rightness.{model_tells}
use Rattle.index.specs.Index.{size}
use Rattle.index.proofs.Bearing.{borne_read}
use Rattle.index.proofs.Gathering.{OnTo, none_gathered, one_gathered, few_gathered}
use Rattle.index.proofs.building.gather.Goals as goal

pub loop-piece-init : goal.loop-piece-init
loop-piece-init c = record { can = tt; ends = tt; few = rw c.requires (omega arith); onto = rw (c.requires, c.into_iter-piece-iterator.ensures.into_iter_gives) (none_gathered c.args.text.bytes.now) }

pub returns-then-len-gt2000 : goal.returns-then-len-gt2000
returns-then-len-gt2000 c =
    let q : OnTo c.args.text.bytes.now c.note.new.entries (c.loop-piece.line + 1) (c.loop-piece.start + size (piece_of c.in-Some.piece)) (pieces_in c.next.new.self) =
    rw c.note.ensures (one_gathered c.args.text.bytes.now (borne_read model_tells c.line_number.ensures) (rw c.in-Some.ensures.steps at c.loop-piece.invariant.onto)) in
    let l : 2000 < length c.note.new.entries = rw (← c.len.ensures) c.if-len-gt2000.true in
    record { few = λ h. absurd (omega arith); many = λ h. omega (arith, few_gathered c.args.text.bytes.now q) }

pub loop-piece-preserved : goal.loop-piece-preserved
loop-piece-preserved c = record {
  can = tt;
  ends = tt;
  few = rw (← c.len.ensures) c.if-len-gt2000.false;
  onto = rw c.note.ensures (one_gathered c.args.text.bytes.now (borne_read model_tells c.line_number.ensures) (rw c.in-Some.ensures.steps at c.loop-piece.invariant.onto));
}
