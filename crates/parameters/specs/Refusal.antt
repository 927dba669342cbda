-- The number of each refusal of a file.
-- Assumes nothing.
use Rattle.std.specs.Prelude.{ℕ}
use Rattle.parameters.specs.declared.refusal.FileRefusal.{FileRefusal}
use Rattle.parameters.specs.declared.refusal.FileRefusal.TheVariants.{Disorder, Malformed, NotRising, NumberOutOfRange, ValueUnfit, NoRoom}

-- "1 as in document 01", "20 a malformed line, 21 numbers not rising, 22 a number outside 1 to 5399, 23 a value out of range or too fine", "24 output space too small"
abbrev pub refusal_number : FileRefusal → ℕ
refusal_number Disorder = 1
refusal_number Malformed = 20
refusal_number NotRising = 21
refusal_number NumberOutOfRange = 22
refusal_number ValueUnfit = 23
refusal_number NoRoom = 24
