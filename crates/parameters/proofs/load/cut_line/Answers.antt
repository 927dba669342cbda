-- `parameters::load::cut_line` meets its contract: the first line and what stands behind it.
-- Assumes nothing.
use mathlib.Core.Path.{◌≡◌, sym, ◌∙◌}
use native.Mathlib.Omega.{arith}
use lib.ListN.{length}
use lib.Seq.{length-take-le}
use borrow.Author.Tests.{eqb-false}
use Rattle.parameters.proofs.Cutting.{spanned, first_line}
use Rattle.parameters.proofs.load.cut_line.Goals as goal

pub slice_bounds-result-end : goal.slice_bounds-result-end
slice_bounds-result-end c =
    let some : length c.args.text.now ≡ 0 → ⊥ = eqb-false _ 0 (sym c.is_empty.ensures ∙ c.if-is_empty.false) in
    let s = spanned c.args.text.now c.line_at-span.ensures (omega arith) in
    sym (length-take-le c.line_at-span.result.end c.args.text.now (omega (arith, s.up_to, s.within)))

pub slice_bounds-result-count : goal.slice_bounds-result-count
slice_bounds-result-count c =
    let some : length c.args.text.now ≡ 0 → ⊥ = eqb-false _ 0 (sym c.is_empty.ensures ∙ c.if-is_empty.false) in
    (spanned c.args.text.now c.line_at-span.ensures (omega arith)).within

pub slice_bounds-result-start : goal.slice_bounds-result-start
slice_bounds-result-start c =
    let some : length c.args.text.now ≡ 0 → ⊥ = eqb-false _ 0 (sym c.is_empty.ensures ∙ c.if-is_empty.false) in
    (spanned c.args.text.now c.line_at-span.ensures (omega arith)).within

pub returns : goal.returns
returns c =
    let some : length c.args.text.now ≡ 0 → ⊥ = eqb-false _ 0 (sym c.is_empty.ensures ∙ c.if-is_empty.false) in
    first_line c.args.text.now c.line_at-span.ensures (omega arith)
