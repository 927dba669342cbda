-- By sign and size, what the functions of this crate compute.
-- Assumes nothing.
use Rattle.std.specs.Prelude.{Bool, ℕ, ◌+◌, ◌-◌, ◌*◌, ◌/◌, leb, ℤ}
use Rattle.laws.proofs.Ints.{Within}

-- a value in range
abbrev pub Ranged : ℤ → Type 0
Ranged z = Within 999999999 z

-- the size of the nearest whole number to n / d, halves away from zero
abbrev pub nearest_size : ℕ → ℕ → ℕ
nearest_size n d = (2 * n + d) / (2 * d)

-- how far two numbers lie apart
abbrev pub apart : ℕ → ℕ → ℕ
apart a b = (a - b) + (b - a)

-- a size at most 1 from the nearest multiple of the step
abbrev pub near_size : ℕ → ℕ → Bool
near_size n step = leb (apart n (nearest_size n step * step)) 1
