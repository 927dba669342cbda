-- `arithmetic::residues::left_over` meets its contract: below zero what is left is counted down from the divisor.
-- Assumes nothing.
use native.Mathlib.Omega.{arith}
use native.Mathlib.Nat.{mod-lt}
use Rattle.arithmetic.proofs.residues.left_over.Goals as goal

pub overflow_sub-result : goal.overflow_sub-result
overflow_sub-result c = omega (arith, mod-lt c.args.n c.requires)

pub returns-then-negative : goal.returns-then-negative
returns-then-negative c = simp c.if-negative.true

pub returns-else-negative : goal.returns-else-negative
returns-else-negative c = simp c.if-negative.false
