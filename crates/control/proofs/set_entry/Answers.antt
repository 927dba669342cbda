use Rattle.control.proofs.Settings.{set_past}
use mathlib.Core.Path.{sym}
use Rattle.control.proofs.set_entry.Goals as goal

pub returns-then-table-number : goal.returns-then-table-number
returns-then-table-number c = sym (set_past c.args.table.now c.args.number c.args.amount.0 c.if-table-number.true)
