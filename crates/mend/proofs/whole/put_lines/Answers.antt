-- `mend::whole::put_lines` meets its contract: putting the rest of the text comes to what putting all of it comes to.
-- Assumes nothing.
use mathlib.Core.Path.{subst}
use mathlib.Core.List.{List}
use native.Mathlib.Omega.{arith}
use Rattle.texts.specs.Ends.{Piece}
use Rattle.texts.specs.Walk.{piece_of, pieces_in}
use Rattle.mend.proofs.AllPut.{Put, nothing_put, next_room, next_put}
use Rattle.mend.proofs.whole.put_lines.Goals as goal

pub loop-piece-init : goal.loop-piece-init
loop-piece-init c = record { can = tt; ends = tt; put = rw (c.into_iter-piece-iterator.ensures.into_iter_gives) (nothing_put c.args.text.now c.args.out.now c.args.list.now c.requires) }

pub put_next-held-requires : goal.put_next-held-requires
put_next-held-requires c =
    let put = subst (λ (x : List Piece). Put c.args.text.now c.args.out.now c.args.list.now c.loop-piece.held x c.loop-piece.out c.loop-piece.list) c.in-Some.ensures.steps c.loop-piece.invariant.put in
    next_room c.args.text.now c.args.out.now c.args.list.now c.loop-piece.held c.loop-piece.out c.loop-piece.list (piece_of c.in-Some.piece) (pieces_in c.next.new.self) put (omega (arith, put.lines))

pub loop-piece-preserved : goal.loop-piece-preserved
loop-piece-preserved c =
    let put = subst (λ (x : List Piece). Put c.args.text.now c.args.out.now c.args.list.now c.loop-piece.held x c.loop-piece.out c.loop-piece.list) c.in-Some.ensures.steps c.loop-piece.invariant.put in
    record {
      can = tt;
      ends = tt;
      put = next_put c.args.text.now c.args.out.now c.args.list.now c.loop-piece.held c.loop-piece.out c.loop-piece.list (piece_of c.in-Some.piece) (pieces_in c.next.new.self) put c.put_next-held.result c.put_next-held.new.out c.put_next-held.new.list c.put_next-held.ensures;
    }
