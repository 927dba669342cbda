-- `value::rounding::is_near` meets its contract: the rest, or what it lacks to a step, is at most 1.
-- Assumes nothing.
use native.Mathlib.Omega.{arith}
use native.Mathlib.Nat.{mod-lt}
use Rattle.value.proofs.Sizes.{near_below, near_above}
use Rattle.value.proofs.rounding.is_near.Goals as goal

pub returns-then-over-le1 : goal.returns-then-over-le1
returns-then-over-le1 c = near_below c.args.n c.args.step c.requires c.if-over-le1.true

pub overflow_sub-result : goal.overflow_sub-result
overflow_sub-result c = omega (arith, mod-lt c.args.n c.requires)

pub returns : goal.returns
returns c = near_above c.args.n c.args.step c.requires c.if-over-le1.false
