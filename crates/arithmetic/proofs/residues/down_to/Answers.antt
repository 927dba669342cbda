-- `arithmetic::residues::down_to` meets its contract: below zero the rest is added, else taken away.
-- Assumes nothing.
use Rattle.arithmetic.proofs.Sizes.{residue_small, residue_le}
use native.Mathlib.Omega.{arith}
use Rattle.arithmetic.proofs.residues.down_to.Goals as goal

pub overflow_add-result : goal.overflow_add-result
overflow_add-result c = omega (arith, c.left_over-past.ensures, residue_small c.args.negative c.args.n)

pub overflow_sub-result : goal.overflow_sub-result
overflow_sub-result c = omega (arith, simp c.if-negative.false at c.left_over-past.ensures, residue_le c.args.n)

pub returns-then-negative : goal.returns-then-negative
returns-then-negative c = simp (c.left_over-past.ensures, c.if-negative.true)

pub returns-else-negative : goal.returns-else-negative
returns-else-negative c = simp (c.left_over-past.ensures, c.if-negative.false)
