-- `value::up_to_fifth` meets its contract: each turn drops one digit, and nothing is left of nothing.
-- Assumes nothing.
use mathlib.Core.Path.{sym, ◌∙◌}
use native.Mathlib.Omega.{arith}
use Rattle.value.proofs.Written.{one_fewer, none_left}
use Rattle.value.proofs.up_to_fifth.Goals as goal

pub returns-then-kept-eq0 : goal.returns-then-kept-eq0
returns-then-kept-eq0 c = none_left c.args.digits c.loop.counter c.args.decimals c.loop.invariant.0 (omega arith) (sym c.if-kept-eq0.true ∙ c.loop.invariant.1)

pub loop-preserved : goal.loop-preserved
loop-preserved c = (omega arith, rw c.loop.invariant.1 (one_fewer c.args.digits c.loop.counter c.loop.invariant.0))
