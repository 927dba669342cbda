-- `parameters::numerals::whole_part` meets its contract: a digit is dropped in each turn.
-- Assumes nothing.
use mathlib.Core.Path.{◌≡◌, ◌∙◌}
use Prim.Native.Nat.{◌+◌, ◌-◌}
use native.Mathlib.Omega.{arith}
use Rattle.parameters.proofs.Puts.{without_step}
use Rattle.parameters.proofs.numerals.whole_part.Goals as goal

pub loop-decimal-preserved : goal.loop-decimal-preserved
loop-decimal-preserved c =
    let z : c.args.decimals - (c.loop-decimal._decimal + 1) ≡ c.args.decimals - c.loop-decimal._decimal - 1 = omega arith in
    (rw z (without_step (c.args.decimals - c.loop-decimal._decimal) c.loop-decimal.rest (omega arith)) ∙ c.loop-decimal.invariant.0, omega arith)
