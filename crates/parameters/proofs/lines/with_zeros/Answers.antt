-- `parameters::lines::with_zeros` meets its contract: one zero after the other.
-- Assumes nothing.
use native.Mathlib.Omega.{arith}
use Rattle.parameters.proofs.Amounts.{zeros_on, zeros_all}
use Rattle.parameters.proofs.lines.with_zeros.Goals as goal

pub loop-zero-preserved : goal.loop-zero-preserved
loop-zero-preserved c = zeros_on c.args.number c.args.many c.loop-zero.invariant (omega arith) c.with_digit-n.ensures

pub returns : goal.returns
returns c = zeros_all c.args.number c.args.many c.loop-zero.invariant (omega arith)
