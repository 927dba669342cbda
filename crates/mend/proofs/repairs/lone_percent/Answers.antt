-- `mend::repairs::lone_percent` meets its contract: the first byte that is no blank tells, and what stands behind it.
-- Assumes nothing.
use mathlib.Core.Path.{sym, ◌∙◌}
use Rattle.mend.proofs.Placing.{lone_nowhere, lone_is, lone_other}
use Rattle.mend.proofs.repairs.lone_percent.Goals as goal

pub returns-in-None : goal.returns-in-None
returns-in-None c = lone_nowhere c.args.line.now (sym c.first_unblank.ensures ∙ c.in-None.is)

pub returns-then-line-at-eq37 : goal.returns-then-line-at-eq37
returns-then-line-at-eq37 c = lone_is c.args.line.now c.in-Some.at (sym c.first_unblank.ensures ∙ c.in-Some.is) c.all_blank.result c.if-line-at-eq37.true c.all_blank.ensures

pub returns-else-line-at-eq37 : goal.returns-else-line-at-eq37
returns-else-line-at-eq37 c = lone_other c.args.line.now c.in-Some.at (sym c.first_unblank.ensures ∙ c.in-Some.is) c.if-line-at-eq37.false
