use mathlib.Core.Path.{sym, ◌∙◌}
use Rattle.reader.proofs.Evaluating.{because}
use Rattle.reader.proofs.Beginning.{mark_work_some, mark_none, mark_plain, mark_condition, mark_deep, mark_wrong}
use Rattle.reader.proofs.mark.mark_at.Goals as goal

pub overflow_sub-came : goal.overflow_sub-came
overflow_sub-came c = mark_work_some c.args.table.now c.args.text.now (rw c.in-Condition.is at c.first_of.ensures) (sym c.in-Ok.is ∙ c.value_at.ensures)

pub returns-in-Unmarked : goal.returns-in-Unmarked
returns-in-Unmarked c = mark_none c.args.table.now c.args.text.now (rw c.in-Unmarked.is at c.first_of.ensures) c.goes_on.ensures

pub returns-in-Plain : goal.returns-in-Plain
returns-in-Plain c = mark_plain c.args.table.now c.args.text.now (rw c.in-Plain.is at c.first_of.ensures) c.goes_on-in-Plain.ensures

pub returns-in-Ok : goal.returns-in-Ok
returns-in-Ok c = mark_condition c.args.table.now c.args.text.now (rw c.in-Condition.is at c.first_of.ensures) (sym c.in-Ok.is ∙ c.value_at.ensures) c.condition.ensures

pub returns-in-Err-Deep : goal.returns-in-Err-Deep
returns-in-Err-Deep c = mark_deep c.args.table.now c.args.text.now (rw c.in-Condition.is at c.first_of.ensures) (because c.in-Err-Deep.is c.in-Err-Deep.field-0-is c.value_at.ensures) c.nests_deep.ensures

pub returns-in-Err-Wrong : goal.returns-in-Err-Wrong
returns-in-Err-Wrong c = mark_wrong c.args.table.now c.args.text.now (rw c.in-Condition.is at c.first_of.ensures) (because c.in-Err-Wrong.is c.in-Err-Wrong.field-0-is c.value_at.ensures)
