-- Program values are whole numbers of ten-thousandths of a unit. What rounding, MOD, FIX, FUP and nearness mean for them.
-- Assumes nothing.
use Rattle.std.specs.Prelude.{Bool, true, false, cond, not, ◌&&◌, ℕ, ◌+◌, ◌-◌, ◌*◌, ◌/◌, ◌%◌, leb, eqb, ℤ, pos, negsuc, neg_ℤ, nat_abs, ◌-ℤ◌, ◌*ℤ◌, Option, Some, None}
use Rattle.std.specs.Bool.{beq}

-- it is below zero
abbrev pub minus : ℤ → Bool
minus (pos n) = false
minus (negsuc n) = true

-- a number by its sign and size
abbrev pub signed : Bool → ℕ → ℤ
signed true n = neg_ℤ (pos n)
signed false n = pos n

abbrev pub differ : Bool → Bool → Bool
differ s t = not (beq s t)

-- at most n in size
abbrev pub within : ℕ → ℤ → Bool
within n z = leb (nat_abs z) n

-- "Values reach ±99,999.9999"
abbrev pub in_range : ℤ → Bool
in_range z = within 999999999 z

-- n / d "to the nearest, halves away from zero"
unfoldable pub nearest : ℤ → ℤ → ℤ
nearest n d = signed (differ (minus n) (minus d)) ((2 * nat_abs n + nat_abs d) / (2 * nat_abs d))

-- what is left of a number of that sign and size by d, from 0 to below d
abbrev pub residue_size : Bool → ℕ → ℕ → ℕ
residue_size s n d = cond s ((d - n % d) % d) (n % d)

-- "MOD lies from 0 to below the divisor's size and differs from the dividend by a whole number of divisors"
unfoldable pub residue : ℤ → ℤ → ℤ
residue n d = pos (residue_size (minus n) (nat_abs n) (nat_abs d))

-- "FIX goes down"
abbrev pub down : ℤ → ℤ
down a = a -ℤ residue a (pos 10000)

-- "FUP up"
abbrev pub upward : ℤ → ℤ
upward a = neg_ℤ (down (neg_ℤ a))

-- "ROUND to nearest, halves away from zero"
abbrev pub rounded : ℤ → ℤ
rounded a = nearest a (pos 10000) *ℤ pos 10000

-- "non-zero as true"
abbrev pub is_true : ℤ → Bool
is_true z = not (eqb (nat_abs z) 0)

-- "and give 1 or 0"
abbrev pub truth : Bool → ℤ
truth b = pos (cond b 10000 0)

-- "a value at most 0.0001 from one counts as it": from a multiple of so many ten-thousandths
unfoldable pub near : ℕ → ℤ → Option ℤ
near step a = cond (within 1 (a -ℤ (nearest a (pos step) *ℤ pos step))) (Some (nearest a (pos step))) None

-- "Where a whole number is wanted"
abbrev pub whole : ℤ → Option ℤ
whole a = near 10000 a

-- "a G number likewise at the nearest tenth"
abbrev pub tenth : ℤ → Option ℤ
tenth a = near 1000 a

-- it is one, and lies from low to high
abbrev pub between : ℕ → ℕ → Option ℤ → Bool
between low high None = false
between low high (Some (negsuc k)) = false
between low high (Some (pos k)) = leb low k && leb k high

-- its number, 0 where there is none
abbrev pub counted : Option ℤ → ℕ
counted None = 0
counted (Some k) = nat_abs k
