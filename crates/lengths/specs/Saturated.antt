-- What the functions of this crate answer. Where `rules` says it of every length they say the same; what is added here is an answer for lengths that 64 bits
-- do not hold and for values out of range, which reading a line never makes.
-- Assumes nothing.
use Rattle.std.specs.Prelude.{Bool, cond, ℕ, ℤ}
use Rattle.rules.specs.Numbers.{minus, signed, within, in_range}
use Rattle.rules.specs.Reach.{counts, converted}
use Rattle.rules.specs.declared.Value.{Value}
use Rattle.rules.specs.declared.Length.{Length}

-- the most counts that 64 bits hold both above zero and below it
abbrev pub most : ℕ
most = 9223372036854775807

-- the farthest length of a sign, beyond every reach
abbrev pub farthest : Bool → Length
farthest negative = counts (signed negative most)

-- so many counts, or the farthest length of their sign where 64 bits do not hold them
unfoldable pub saturated : ℤ → Length
saturated z = cond (within most z) (counts z) (farthest (minus z))

-- the G20/G21 conversion of a value; one out of range goes to the farthest length of its sign
unfoldable pub conversion : ℕ → Value → Length
conversion units v = cond (in_range v.0) (converted units v) (farthest (minus v.0))
