-- `mend::whole::mended_length` meets its contract.
-- Assumes nothing.
use mathlib.Core.Path.{ap, ◌∙◌}
use native.Mathlib.Omega.{arith}
use Rattle.std.specs.Prelude.{Ok}
use Rattle.mend.proofs.Laying.{long_told}
use Rattle.mend.proofs.whole.mended_length.Goals as goal

pub returns-in-Ok-Better : goal.returns-in-Ok-Better
returns-in-Ok-Better c = long_told c.args.line.now _ c.mend_line.new.out _ _ (omega arith) c.mend_line.ensures (c.in-Ok-Better.is ∙ ap Ok c.in-Ok-Better.field-0-is)

pub returns-in-Ok-Already : goal.returns-in-Ok-Already
returns-in-Ok-Already c = long_told c.args.line.now _ c.mend_line.new.out _ _ (omega arith) c.mend_line.ensures (c.in-Ok-Already.is ∙ ap Ok c.in-Ok-Already.field-0-is)

pub returns-in-Ok-Beyond : goal.returns-in-Ok-Beyond
returns-in-Ok-Beyond c = long_told c.args.line.now _ c.mend_line.new.out _ _ (omega arith) c.mend_line.ensures (c.in-Ok-Beyond.is ∙ ap Ok c.in-Ok-Beyond.field-0-is)

pub returns-in-Err : goal.returns-in-Err
returns-in-Err c = long_told c.args.line.now _ c.mend_line.new.out _ _ (omega arith) c.mend_line.ensures c.in-Err.is
