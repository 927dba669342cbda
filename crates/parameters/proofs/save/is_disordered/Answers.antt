-- `parameters::save::is_disordered` meets its contract: by the table's length, and then by the record.
-- Assumes nothing.
use borrow.Author.Tests.{eq-eqb, ne_eqb}
use lib.ListN.{length}
use Rattle.rules.specs.Promise.{disorder}
use Rattle.parameters.proofs.save.is_disordered.Goals as goal

pub returns-then-table-ne5000 : goal.returns-then-table-ne5000
unfolding disorder
returns-then-table-ne5000 c = rw (ne_eqb (length c.args.table.now) 5000 c.if-table-ne5000.true)

pub returns-else-table-ne5000 : goal.returns-else-table-ne5000
unfolding disorder
returns-else-table-ne5000 c = rw (eq-eqb (length c.args.table.now) 5000 c.if-table-ne5000.false, c.in_order.ensures)
