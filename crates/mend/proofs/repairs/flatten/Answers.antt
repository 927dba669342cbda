-- `mend::repairs::flatten` meets its contract: no comment is open before the line.
-- Assumes nothing.
use mathlib.Core.Path.{refl}
use native.Mathlib.Omega.{arith}
use Rattle.mend.proofs.Passing.{closed_outside}
use Rattle.mend.proofs.repairs.flatten.Goals as goal

pub loop-i-init : goal.loop-i-init
loop-i-init c = (omega arith, omega arith, closed_outside c.args.line.now 0 refl, refl, refl)
