-- `arithmetic::entry_at` meets its contract: an entry that the table does not have reads 0.
-- Assumes nothing.
use Rattle.rules.specs.Meaning.{ranged}
use Rattle.laws.proofs.Ints.{back}
use lib.ListN.{get_or, get_or-eq_default}
use lib.IntN.{pos}
use mathlib.Core.Path.{◌∙◌}
use Rattle.arithmetic.proofs.entry_at.Goals as goal

pub returns-then-number-table : goal.returns-then-number-table
returns-then-number-table c =
    c.ranged.ensures ∙ simp (back (get_or c.args.table.now c.args.number (pos 0)) (record { sfits = c.ranged-arg-1.given }))

pub returns-else-number-table : goal.returns-else-number-table
unfolding ranged
returns-else-number-table c = rw (get_or-eq_default c.args.table.now (pos 0) c.if-number-table.false)
