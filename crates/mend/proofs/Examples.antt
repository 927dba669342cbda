-- Lines that can be mistaken, mended by computation. `only` and `model_tells` say that these are the definitions' results.
-- Assumes nothing.
use mathlib.Core.Path.{◌≡◌, refl}
use mathlib.Core.List.{List, [], ◌∷◌, ◌++◌, map}
use Prim.Native.Nat.{ℕ}
use lib.ListN.{replicate}
use Rattle.grammar.specs.Bytes.{byte, bytes}
use Rattle.grammar.specs.Derivation.{strip, inside}
use Rattle.grammar.proofs.Read.{value_of, rest_of, expr_of, items_of}
use Rattle.texts.specs.Ends.{pieces}
use Rattle.texts.specs.Form.{right}
use Rattle.texts.proofs.Rightness.{model}
use Rattle.mend.specs.Repairs.{emptied, unremarked, repaired}
use Rattle.mend.specs.Mend.{which, unlisted, mended, unmended, Outcome, outcome, mend, mend_text, list_of, nothing, mend_into}

-- a line and what it comes to
infix 25 ◌gives◌
pub data Row : Type 0 where
  ◌gives◌ : List ℕ → Outcome → Row

abbrev computed : Row → Outcome
computed (s gives o) = mend model s

abbrev stated : Row → Outcome
stated (s gives o) = o

abbrev pub rows : List Row
rows =
    -- a line of one `%` and blanks, and no other line with a `%`
    ((bytes " %\t") gives outcome [] (mended 1 (1 ∷ [])))
    ∷ ((bytes "X1%") gives outcome (bytes "X1%") unmended)
    ∷ ((bytes "%%") gives outcome (bytes "%%") unmended)
    -- also where it is longer than 256 bytes
    ∷ ((byte "%" ∷ replicate 256 32) gives outcome [] (mended 1 (1 ∷ [])))
    -- a remark
    ∷ ((bytes "X1; to (the) end") gives outcome (bytes "X1( to [the] end)") (mended 3 (2 ∷ [])))
    ∷ ((bytes ";a;b") gives outcome (bytes "(a;b)") (mended 1 (2 ∷ [])))
    ∷ ((bytes "%;a") gives outcome (bytes "%;a") unmended)
    -- a `;` inside a comment stays
    ∷ ((bytes "(a;b)") gives outcome (bytes "(a;b)") unlisted)
    ∷ ((bytes "(a(b);c)X1") gives outcome (bytes "(a[b];c)X1") (mended 3 (3 ∷ [])))
    -- after an unclosed `(` nothing helps
    ∷ ((bytes "(a;b") gives outcome (bytes "(a;b") unmended)
    -- nested comments of any depth, one after another
    ∷ ((bytes "G0(a(b(c)))(d)((e))") gives outcome (bytes "G0(a[b[c]])(d)([e])") (mended 5 (3 ∷ [])))
    ∷ ((bytes "(a)(b(c)") gives outcome (bytes "(a)(b(c)") unmended)
    -- both, and the order
    ∷ ((bytes "(a(b));c(d)") gives outcome (bytes "(a[b])(c[d])") (mended 3 (2 ∷ 3 ∷ [])))
    ∷ ((bytes ";(a(b))") gives outcome (bytes "([a[b]])") (mended 1 (2 ∷ [])))
    -- a right form is that of all requests: marks and conditions, any nesting, any decimals
    ∷ ((bytes "\\[1]N5X1;a") gives outcome (bytes "\\[1]N5X1(a)") (mended 9 (2 ∷ [])))
    ∷ ((bytes "/[0]X1.234567") gives outcome (bytes "/[0]X1.234567") unlisted)
    -- 256 bytes are the most: a remark makes the line longer by one
    ∷ ((bytes ";" ++ replicate 254 32) gives outcome (bytes "(" ++ (replicate 254 32 ++ bytes ")")) (mended 1 (2 ∷ [])))
    ∷ ((bytes ";" ++ replicate 255 32) gives outcome (bytes ";" ++ replicate 255 32) unmended)
    ∷ ((replicate 257 32) gives outcome (replicate 257 32) unmended)
    ∷ []

pub the_rows : map computed rows ≡ map stated rows
unfolding strip inside value_of rest_of expr_of items_of right emptied unremarked repaired which mend
the_rows = refl

-- ends are kept, and a last line that is left without a byte is none
text : mend_text model (bytes "%\r\nX1;a\n(b(c))\r\n)\r\n%") ≡ bytes "\r\nX1(a)\n(b[c])\r\n)\r\n"
unfolding strip inside value_of rest_of items_of pieces right emptied unremarked repaired which mend mend_text
text = refl

text_list : list_of model (bytes "%\nX1\n)\n(b(c))")
    ≡ record { number = 1; note = mended 1 (1 ∷ []) } ∷ record { number = 3; note = unmended } ∷ record { number = 4; note = mended 3 (3 ∷ []) } ∷ []
unfolding strip inside value_of rest_of items_of pieces right emptied unremarked repaired which mend list_of
text_list = refl

-- one byte too few
text_40 : mend_into model (bytes ";a\n") (replicate 3 7) ≡ nothing (replicate 3 7)
unfolding strip inside value_of rest_of items_of pieces right emptied unremarked repaired which mend mend_text list_of mend_into
text_40 = refl

text_fits : mend_into model (bytes ";a\n") (replicate 5 7) ≡ record { number = 0; filled = 4; lines = 1; out = bytes "(a)\n" ++ (7 ∷ []); list = record { number = 1; note = mended 1 (2 ∷ []) } ∷ [] }
unfolding strip inside value_of rest_of items_of pieces right emptied unremarked repaired which mend mend_text list_of mend_into
text_fits = refl
