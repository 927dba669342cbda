-- `mend::repairs::closed` meets its contract: what is closed from i on is what is closed.
-- Assumes nothing.
use mathlib.Core.Path.{◌∙◌}
use native.Mathlib.Omega.{arith}
use Rattle.mend.proofs.Passing.{closed_here}
use Rattle.mend.proofs.repairs.closed.Goals as goal

pub returns-then-e-eq0 : goal.returns-then-e-eq0
returns-then-e-eq0 c = closed_here c.args.line.now c.loop-i.i c.loop-i.e (omega arith) c.if-e-eq0.true ∙ c.loop-i.invariant.1
