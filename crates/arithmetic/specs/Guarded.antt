-- What the functions of this crate answer. Where `rules` says it of every number they say the same; what is added here is an answer for arguments
-- that reading a line never makes: a value out of range.
-- Assumes nothing.
use Rattle.std.specs.Prelude.{Bool, cond, List, ℕ, ◌+◌, ◌-◌, ℤ, Ok, Err}
use Rattle.grammar.specs.declared.Op.{Op}
use Rattle.grammar.specs.declared.Func.{Func}
use Rattle.rules.specs.Numbers.{residue_size}
use Rattle.rules.specs.Meaning.{Worked, ranged, operation, function, parameter_of, entry, then}

-- ---- values that were worked out

-- a value out of range is refused with number 5, whatever it was made from
abbrev pub kept : Worked → Worked
kept (Ok v) = ranged v.0
kept (Err why) = Err why

-- an operation: the left side is looked at first, then the right
abbrev pub work : Op → Worked → Worked → Worked
work o a b = then (kept a) (λ x. then (kept b) (λ y. operation o x y))

-- ABS, FIX, FUP or ROUND
abbrev pub apply : Func → Worked → Worked
apply f a = then (kept a) (function f)

-- `#` and a value: the entry that it names
abbrev pub lookup : List ℤ → Worked → Worked
lookup table a = then (kept a) (λ v. entry table (parameter_of v))

-- ---- by sign and size, for the functions inside the crate

-- the size of a value of that sign and size, taken down to whole units
abbrev pub down_size : Bool → ℕ → ℕ
down_size negative n = cond negative (n + residue_size negative n 10000) (n - residue_size negative n 10000)
