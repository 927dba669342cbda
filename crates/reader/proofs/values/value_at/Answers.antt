use mathlib.Core.Path.{sym, ◌∙◌}
use Rattle.reader.proofs.Levels.{value_number}
use Rattle.reader.proofs.values.value_at.Goals as goal

pub returns-then-opens_number : goal.returns-then-opens_number
returns-then-opens_number c = value_number c.args.table.now c.args.text.now c.args.at 24 (sym c.opens_number.ensures ∙ c.if-opens_number.true) c.number_at.ensures c.of_number.ensures
