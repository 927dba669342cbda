-- What the loop of `parameters::lines::with_zeros` keeps: what the zeros that are left write behind the number.
-- Assumes nothing.
use Rattle.parameters.proofs.Amounts.{Zeros-to}
use Rattle.parameters.proofs.lines.with_zeros.Given as goal

abbrev pub invariant-loop-zero : goal.invariant-loop-zero
invariant-loop-zero l = Zeros-to l.number l.many l.n l._zero
