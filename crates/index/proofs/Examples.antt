-- Texts that can be mistaken, indexed by computation, and either side of each limit.
-- Assumes nothing.
use mathlib.Core.Path.{◌≡◌, refl}
use mathlib.Core.List.{List, [], ◌∷◌, ◌++◌}
use Rattle.std.specs.Prelude.{None, Some}
use Prim.Native.Nat.{ℕ}
use lib.ListN.{replicate}
use Rattle.grammar.specs.Bytes.{byte, bytes}
use Rattle.grammar.specs.Derivation.{strip, inside}
use Rattle.grammar.proofs.Read.{value_of, rest_of, expr_of, items_of}
use Rattle.rules.specs.Meaning.{decimal}
use Rattle.texts.specs.Ends.{pieces}
use Rattle.texts.specs.Form.{right}
use Rattle.texts.proofs.Rightness.{model}
use Rattle.index.specs.Index.{borne, place_of, place, Entry, find, built, indexed, limited, replace, TooManyNumbers, NoSuchLine, UnfitLine, refused}

abbrev entry : ℕ → ℕ → ℕ → Entry
entry n k at = record { number = n; place = place k at }

-- in rising order; the first line; N010 and N10 are one; a carriage return is a byte of the end
order : built model (bytes "N20\r\nN010\nN20 X1\nN10\n/n 0 5") ≡ entry 5 5 21 ∷ entry 10 2 5 ∷ entry 20 1 0 ∷ []
unfolding strip inside value_of rest_of items_of decimal pieces right borne built
order = refl

-- no entry for a wrong form, for more than 256 bytes, or for a number that is no label
none_of_these : built model (bytes "N5 X\n(c)N5\nX5\nN123456\nN5\r" ++ (byte "\n" ∷ (bytes "N7" ++ (replicate 255 32 ++ bytes "\nN8\r")))) ≡ entry 5 5 22 ∷ []
unfolding strip inside value_of rest_of items_of decimal pieces right borne built
none_of_these = refl

-- a mark and its condition stand before the label; switch and condition are nothing to the index
conditions : built model (bytes "/[0]N5\n\\N6\n\\[#1+1]N7 X1\n/(c)N8") ≡ entry 5 1 0 ∷ entry 6 2 7 ∷ entry 7 3 11 ∷ []
unfolding strip inside value_of rest_of expr_of items_of decimal pieces right borne built
conditions = refl

asked : find 10 (entry 5 5 21 ∷ entry 10 2 5 ∷ entry 20 1 0 ∷ []) ≡ Some (place 2 5)
asked = refl

asked_in_vain : find 11 (entry 5 5 21 ∷ entry 10 2 5 ∷ entry 20 1 0 ∷ []) ≡ None
asked_in_vain = refl

-- the old number goes to its next line, and the new one comes in
moves_on : replace model (bytes "N1\nN1\nN3") (entry 1 1 0 ∷ entry 3 3 6 ∷ []) 1 (bytes "N2") ≡ indexed (bytes "N2\nN1\nN3") (entry 1 2 3 ∷ entry 2 1 0 ∷ entry 3 3 6 ∷ [])
unfolding strip inside value_of rest_of items_of decimal pieces right borne place_of replace
moves_on = refl

-- or is gone
goes : replace model (bytes "N1\nN3") (entry 1 1 0 ∷ entry 3 2 3 ∷ []) 1 (bytes "N3") ≡ indexed (bytes "N3\nN3") (entry 3 1 0 ∷ [])
unfolding strip inside value_of rest_of items_of decimal pieces right borne place_of replace
goes = refl

-- a later line with the number changes nothing of it
later : replace model (bytes "N1\nN2") (entry 1 1 0 ∷ entry 2 2 3 ∷ []) 2 (bytes "N1") ≡ indexed (bytes "N1\nN1") (entry 1 1 0 ∷ [])
unfolding strip inside value_of rest_of items_of decimal pieces right borne place_of replace
later = refl

refused_32 : replace model (bytes "N1\n") (entry 1 1 0 ∷ []) 2 (bytes "N1\n") ≡ refused NoSuchLine (bytes "N1\n") (entry 1 1 0 ∷ [])
unfolding pieces replace
refused_32 = refl

refused_33 : replace model (bytes "N1\n") (entry 1 1 0 ∷ []) 1 (bytes "N\r") ≡ refused UnfitLine (bytes "N1\n") (entry 1 1 0 ∷ [])
unfolding pieces replace
refused_33 = refl

-- ---- limits

-- 2,000 entries pass and one more does not
many : (text : List ℕ) → limited text [] text (replicate 2000 (entry 0 0 0)) ≡ indexed text (replicate 2000 (entry 0 0 0))
many text = refl

too_many : (text : List ℕ) → limited text [] text (replicate 2001 (entry 0 0 0)) ≡ refused TooManyNumbers text []
too_many text = refl
