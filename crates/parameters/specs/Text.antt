-- How code comes to the decimals of a number.
-- Assumes nothing.
use Rattle.std.specs.Prelude.{◌≡◌, ℕ, ◌-◌, length}
use Rattle.parameters.specs.Places.{trimmed}
use Rattle.parameters.specs.Writing.{without, last}

-- of the last k digits of n: how many there are without the zeros at the end, and n without these zeros
pub record Cut (k n count rest : ℕ) : Type 0 where
  pub many : count ≡ length (trimmed (last k n))
  pub left : rest ≡ without (k - count) n
  pub digits : last count rest ≡ trimmed (last k n)
