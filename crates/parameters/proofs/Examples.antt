-- Worked examples on both sides of each limit of request 8, by computation. The values are worked out from the request, not by these definitions.
-- Assumes nothing.
use mathlib.Core.Path.{◌≡◌, refl}
use mathlib.Core.List.{[], ◌∷◌, ◌++◌, map}
use Prim.Native.Nat.{ℕ}
use Prim.Native.String.{String}
use lib.IntN.{ℤ, pos, negsuc}
use Rattle.grammar.specs.Bytes.{bytes}
use Rattle.grammar.specs.Grammar.{write_number}
use Rattle.rules.specs.Meaning.{decimal}
use Rattle.rules.specs.Frames.{lines}
use Rattle.parameters.specs.Places.{stands_for, value_in, unfit}
use Rattle.parameters.specs.Reading.{line_refusal, refusal, derived, given}
use Rattle.parameters.specs.Writing.{digits_of, shortest}
use Rattle.parameters.specs.Parse.{parse}

-- the refusal of a file, with record and table in order
abbrev refuses : String → ℕ
refuses text = refusal 0 (map parse (lines (bytes text)))

-- what it gives a number
abbrev gives : String → ℕ → ℤ
gives text n = given (derived (map parse (lines (bytes text)))) n

-- 20: one or more blanks, and no other; no empty line; no sign on the digits; lines as for frames
form : map refuses ("1 2" ∷ "1\t 2\n" ∷ "1 2\r\n" ∷ "0001 +.5" ∷ "1 2." ∷ "" ∷ []) ++ map refuses ("1 2\r" ∷ " 1 2" ∷ "1 2 " ∷ "1" ∷ "1 " ∷ "+1 2" ∷ "1 2\n\n" ∷ "1 ." ∷ "1 1e5" ∷ "1 - 2" ∷ "; x" ∷ [])
    ≡ 0 ∷ 0 ∷ 0 ∷ 0 ∷ 0 ∷ 0 ∷ 20 ∷ 20 ∷ 20 ∷ 20 ∷ 20 ∷ 20 ∷ 20 ∷ 20 ∷ 20 ∷ 20 ∷ 20 ∷ []
unfolding parse line_refusal unfit stands_for value_in decimal
form = refl

-- 21, 22: strictly rising, 1 to 5399, the first line first, the lowest number within a line
order : map refuses ("1 2\n2 2" ∷ "1 2\n1 2" ∷ "5 1\n0 1" ∷ "0 1" ∷ "5399 1" ∷ "5400 1" ∷ "5400 x" ∷ "2 1\n1 x" ∷ "2 100000\n1 1" ∷ "1 1.23456\n5400 1" ∷ "99999999999999999999999 1" ∷ [])
    ≡ 0 ∷ 21 ∷ 21 ∷ 22 ∷ 0 ∷ 22 ∷ 20 ∷ 20 ∷ 23 ∷ 23 ∷ 22 ∷ []
unfolding parse line_refusal unfit stands_for value_in decimal
order = refl

-- 23: four decimals and ±99,999.9999; five and ±10,000 mm; a whole system 1 to 9; what is passed over is not judged
range : map refuses ("1 1.23450" ∷ "1 1.23456" ∷ "1 -99999.9999" ∷ "4999 100000" ∷ "5211 1.234560" ∷ "5211 1.234561" ∷ "5383 -10000" ∷ "5383 10000.00001" ∷ "5220 2.0" ∷ "5220 1.5" ∷ "5220 0" ∷ "5220 10" ∷ "5220 -1" ∷ "5384 1.1234567" ∷ "5000 123456789" ∷ "5224 1000000" ∷ [])
    ≡ 0 ∷ 23 ∷ 0 ∷ 23 ∷ 0 ∷ 23 ∷ 0 ∷ 23 ∷ 0 ∷ 23 ∷ 23 ∷ 23 ∷ 23 ∷ 0 ∷ 0 ∷ 0 ∷ []
unfolding parse line_refusal unfit stands_for value_in decimal
range = refl

-- values, in units of the last decimal; what is not in the file is 0, and system 1
values : gives "1 1.5\n5211 -.00001\n5383 10000" 1 ∷ gives "1 1.5\n5211 -.00001\n5383 10000" 5211 ∷ gives "5383 10000" 5383 ∷ gives "1 -0" 1 ∷ gives "" 1 ∷ gives "" 5220 ∷ gives "5220 9.00" 5220 ∷ []
    ≡ pos 15000 ∷ negsuc 0 ∷ pos 1000000000 ∷ pos 0 ∷ pos 0 ∷ pos 1 ∷ pos 9 ∷ []
unfolding parse stands_for value_in decimal
values = refl

-- shortest decimals with a digit before any point
written : write_number (shortest 4 (pos 5000)) ∷ write_number (shortest 4 (negsuc 0)) ∷ write_number (shortest 4 (negsuc 999999998)) ∷ write_number (shortest 5 (pos 1000000000)) ∷ write_number (shortest 5 (negsuc 119999)) ∷ write_number (shortest 0 (pos 9)) ∷ write_number (shortest 4 (pos 0)) ∷ []
    ≡ bytes "0.5" ∷ bytes "-0.0001" ∷ bytes "-99999.9999" ∷ bytes "10000" ∷ bytes "-1.2" ∷ bytes "9" ∷ bytes "0" ∷ []
unfolding shortest digits_of
written = refl
