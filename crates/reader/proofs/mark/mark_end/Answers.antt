use Rattle.reader.proofs.Beginning.{form_none, form_plain, form_condition}
use Rattle.reader.proofs.mark.mark_end.Goals as goal

pub returns-in-Unmarked : goal.returns-in-Unmarked
returns-in-Unmarked c = form_none c.args.text.now (rw c.in-Unmarked.is at c.first_of.ensures)

pub returns-in-Plain : goal.returns-in-Plain
returns-in-Plain c = form_plain c.args.text.now (rw c.in-Plain.is at c.first_of.ensures)

pub returns-in-Condition : goal.returns-in-Condition
returns-in-Condition c = form_condition c.args.text.now (rw c.in-Condition.is at c.first_of.ensures) c.pass_value.ensures
