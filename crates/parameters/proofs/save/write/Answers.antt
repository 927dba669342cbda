-- `parameters::save::write` meets its contract: the refusals in their order, and else the file.
-- Assumes nothing.
use mathlib.Core.Path.{sym, ◌∙◌}
use native.Mathlib.Omega.{arith}
use Rattle.parameters.proofs.Saving.{saved_1, saved_23, saved_24, saved_0}
use Rattle.parameters.proofs.save.write.Goals as goal

pub returns-then-is_disordered : goal.returns-then-is_disordered
returns-then-is_disordered c = saved_1 c.args.rec c.args.table.now c.args.out.now (sym c.is_disordered.ensures ∙ c.if-is_disordered.true)

pub returns-then-not-all_in_range : goal.returns-then-not-all_in_range
returns-then-not-all_in_range c = saved_23 c.args.rec c.args.table.now c.args.out.now (sym c.is_disordered.ensures ∙ c.if-is_disordered.false) (sym c.all_in_range.ensures ∙ c.if-not-all_in_range.true)

pub returns-then-out-count : goal.returns-then-out-count
returns-then-out-count c = saved_24 c.args.rec c.args.table.now c.args.out.now (sym c.is_disordered.ensures ∙ c.if-is_disordered.false) (sym c.all_in_range.ensures ∙ c.if-not-all_in_range.false) (omega (arith, c.file_size-count.ensures))

pub returns : goal.returns
returns c = saved_0 c.args.rec c.args.table.now c.args.out.now (sym c.is_disordered.ensures ∙ c.if-is_disordered.false) (sym c.all_in_range.ensures ∙ c.if-not-all_in_range.false) c.file_size-count.ensures (omega arith) c.put_file.ensures
