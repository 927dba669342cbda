-- `mend::whole::lay_line` meets its contract: by what the call for one line answers.
-- Assumes nothing.
use mathlib.Core.Path.{ap, ◌∙◌}
use Prim.Native.Nat.{◌+◌}
use native.Mathlib.Omega.{arith}
use Rattle.std.specs.Prelude.{Some, None, Ok}
use Rattle.mend.specs.Text.{lays_line}
use Rattle.mend.proofs.Laying.{room_within, left_within, afterwards, laid_told}
use Rattle.mend.proofs.whole.lay_line.Goals as goal

pub slice_bounds-mend_line-count : goal.slice_bounds-mend_line-count
slice_bounds-mend_line-count c = room_within c.args.line.now c.args.out.now c.args.from c.requires

pub slice_bounds-mend_line-start : goal.slice_bounds-mend_line-start
slice_bounds-mend_line-start c = room_within c.args.line.now c.args.out.now c.args.from c.requires

pub overflow_add-result : goal.overflow_add-result
overflow_add-result c = omega (arith, left_within c.args.line.now c.args.out.now c.args.from c.requires c.mend_line.new.out _ _ c.mend_line.ensures (c.in-Ok-Better.is ∙ ap Ok c.in-Ok-Better.field-0-is))

pub lay-requires : goal.lay-requires
lay-requires c = omega (arith, left_within c.args.line.now c.args.out.now c.args.from c.requires c.mend_line.new.out _ _ c.mend_line.ensures (c.in-Ok-Already.is ∙ ap Ok c.in-Ok-Already.field-0-is))

pub lay-requires-in-Ok-Beyond : goal.lay-requires-in-Ok-Beyond
lay-requires-in-Ok-Beyond c = omega (arith, left_within c.args.line.now c.args.out.now c.args.from c.requires c.mend_line.new.out _ _ c.mend_line.ensures (c.in-Ok-Beyond.is ∙ ap Ok c.in-Ok-Beyond.field-0-is))

pub returns-in-Ok-Better : goal.returns-in-Ok-Better
returns-in-Ok-Better c tree told =
    (λ i. lays_line (record { filled = c.args.from + c.in-Ok-Better.length; entry = Some (record { byte = c.in-Ok-Better.first; which = c.number.ensures i }) }) (afterwards c.args.line.now c.args.out.now c.args.from c.requires c.mend_line.new.out))
    ∙ laid_told c.args.line.now c.args.out.now c.args.from c.requires c.mend_line.new.out _ _ c.mend_line.ensures (c.in-Ok-Better.is ∙ ap Ok c.in-Ok-Better.field-0-is) tree told

pub returns-in-Ok-Already : goal.returns-in-Ok-Already
returns-in-Ok-Already c tree told = (λ i. lays_line (record { filled = c.lay.ensures.0 i; entry = None }) (c.lay.ensures.1 i)) ∙ laid_told c.args.line.now c.args.out.now c.args.from c.requires c.mend_line.new.out _ _ c.mend_line.ensures (c.in-Ok-Already.is ∙ ap Ok c.in-Ok-Already.field-0-is) tree told

pub returns-in-Ok-Beyond : goal.returns-in-Ok-Beyond
returns-in-Ok-Beyond c tree told = (λ i. lays_line (record { filled = c.lay-in-Ok-Beyond.ensures.0 i; entry = Some (record { byte = 0; which = 0 }) }) (c.lay-in-Ok-Beyond.ensures.1 i)) ∙ laid_told c.args.line.now c.args.out.now c.args.from c.requires c.mend_line.new.out _ _ c.mend_line.ensures (c.in-Ok-Beyond.is ∙ ap Ok c.in-Ok-Beyond.field-0-is) tree told

pub returns-in-Err : goal.returns-in-Err
returns-in-Err c tree told = laid_told c.args.line.now c.args.out.now c.args.from c.requires c.mend_line.new.out _ _ c.mend_line.ensures c.in-Err.is tree told
