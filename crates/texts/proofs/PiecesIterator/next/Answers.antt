-- The iterator over the lines of a text gives the first of what is left.
-- Assumes nothing.
use mathlib.Core.Path.{sym, ap}
use native.Mathlib.Omega.{arith}
use lib.ListN.{length}
use lib.Seq.{length-take-le}
use Rattle.std.proofs.lemmas.Bool.Decides.{nat_tests}
use Rattle.texts.proofs.Walking.{none_in, first_spans, first_piece}
use Rattle.texts.proofs.PiecesIterator.next.Goals as goal

pub returns-then-is_empty-clause-steps : goal.returns-then-is_empty-clause-steps
returns-then-is_empty-clause-steps c = let e = none_in c.args.self.now.0.now (grind (arith, nat_tests)) in (e, e)

pub slice_bounds-self-count : goal.slice_bounds-self-count
slice_bounds-self-count c = let s = first_spans _ _ c.line_at-span.ensures (grind (arith, nat_tests)) in omega arith

pub slice_bounds-self-start : goal.slice_bounds-self-start
slice_bounds-self-start c = let s = first_spans _ _ c.line_at-span.ensures (grind (arith, nat_tests)) in omega arith

pub slice_bounds-result-end : goal.slice_bounds-result-end
slice_bounds-result-end c = let s = first_spans _ _ c.line_at-span.ensures (grind (arith, nat_tests)) in sym (length-take-le c.line_at-span.result.end c.args.self.now.0.now (omega arith))

pub slice_bounds-result-count : goal.slice_bounds-result-count
slice_bounds-result-count c = let s = first_spans _ _ c.line_at-span.ensures (grind (arith, nat_tests)) in omega arith

pub slice_bounds-result-start : goal.slice_bounds-result-start
slice_bounds-result-start c = let s = first_spans _ _ c.line_at-span.ensures (grind (arith, nat_tests)) in omega arith

pub slice_bounds-result-end-2 : goal.slice_bounds-result-end-2
slice_bounds-result-end-2 c = let s = first_spans _ _ c.line_at-span.ensures (grind (arith, nat_tests)) in omega arith

pub returns-clause-steps : goal.returns-clause-steps
returns-clause-steps c = first_piece _ _ c.line_at-span.ensures (grind (arith, nat_tests))

pub returns-clause-goes : goal.returns-clause-goes
returns-clause-goes c =
    let e = first_piece _ _ c.line_at-span.ensures (grind (arith, nat_tests)) in
    record { on = λ f. (tt, tt, omega (arith, ap length e)); keeps = tt; rests = λ f. tt }
