-- `parameters::numerals::digit_count` meets its contract.
-- Assumes nothing.
use native.Mathlib.Omega.{arith}
use Rattle.parameters.proofs.Puts.{count_one, count_step}
use Rattle.parameters.proofs.numerals.digit_count.Goals as goal

pub loop-rest-preserved : goal.loop-rest-preserved
loop-rest-preserved c = (omega (arith, count_step c.loop-rest.rest (omega arith)), omega arith)

pub returns : goal.returns
returns c = (omega (arith, count_one c.loop-rest.rest (omega arith)), omega arith)
