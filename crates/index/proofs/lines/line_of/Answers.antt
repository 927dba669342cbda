-- `index::lines::line_of` meets its contract: so many lines are left to line k.
-- Assumes nothing.
use native.Mathlib.Omega.{arith}
use Rattle.index.proofs.Walking.{way_room, way_found, way_on, way_missing}
use Rattle.index.proofs.lines.line_of.Goals as goal

pub overflow_add-end : goal.overflow_add-end
overflow_add-end c = let w = way_room c.args.text.now c.args.k (rw c.in-Some.ensures.steps at c.loop-piece.invariant.way) in omega arith

pub overflow_add-next : goal.overflow_add-next
overflow_add-next c = let w = way_room c.args.text.now c.args.k (rw c.in-Some.ensures.steps at c.loop-piece.invariant.way) in omega arith

pub returns-then-left-eq0 : goal.returns-then-left-eq0
returns-then-left-eq0 c = way_found c.args.text.now c.args.k (rw c.in-Some.ensures.steps at c.loop-piece.invariant.way) c.if-left-eq0.true

pub loop-piece-preserved : goal.loop-piece-preserved
loop-piece-preserved c = record {
  can = tt;
  ends = tt;
  way = way_on c.args.text.now c.args.k (rw c.in-Some.ensures.steps at c.loop-piece.invariant.way) c.if-left-eq0.false;
}

pub returns : goal.returns
returns c = way_missing c.args.text.now c.args.k (rw (c.in-None.ensures.steps.0) at c.loop-piece.invariant.way)
