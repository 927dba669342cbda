-- `parameters::numerals::decimals_of` meets its contract: zeros are dropped from the end on.
-- Assumes nothing.
use mathlib.Core.Path.{◌≡◌}
use Prim.Native.Nat.{◌+◌, ◌-◌}
use native.Mathlib.Omega.{arith}
use Rattle.parameters.proofs.Puts.{cut_on, cut_stop}
use Rattle.parameters.proofs.numerals.decimals_of.Goals as goal

pub returns-then-rest-ne0 : goal.returns-then-rest-ne0
returns-then-rest-ne0 c =
    let z : c.loop-left.left - 1 + 1 ≡ c.loop-left.left = omega arith in
    rw z (cut_stop c.args.decimals c.args.number c.loop-left.left c.loop-left.rest (omega arith) (λ e. omega arith) c.loop-left.invariant)

pub loop-left-preserved : goal.loop-left-preserved
loop-left-preserved c = cut_on c.args.decimals c.args.number c.loop-left.left c.loop-left.rest (omega arith) (omega arith) c.loop-left.invariant
