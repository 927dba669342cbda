-- `parameters::numerals::fraction_size` meets its contract: the point, and the decimals that count.
-- Assumes nothing.
use native.Mathlib.Omega.{arith}
use Rattle.parameters.proofs.Puts.{fraction_size, fraction_small}
use Rattle.parameters.proofs.numerals.fraction_size.Goals as goal

pub overflow_add-result : goal.overflow_add-result
overflow_add-result c = omega (arith, fraction_small c.decimals_of.ensures)

pub returns-in_default : goal.returns-in_default
returns-in_default c =
    (omega (arith, fraction_size c.decimals_of.ensures (λ e. omega arith)), omega (arith, fraction_small c.decimals_of.ensures))
