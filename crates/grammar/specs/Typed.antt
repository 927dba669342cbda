-- A typed line byte by byte as it is prepared, and where a prepared byte stands in the typed line. The Bool says whether the byte stands in a comment.
-- Assumes nothing.
use Rattle.std.specs.Prelude.{Bool, true, false, cond, not, List, [], ◌∷◌, ℕ, zero, suc, eqb}
use Rattle.grammar.specs.Bytes.{byte}
use Rattle.grammar.specs.Derivation.{blank, raise, strip, inside}

-- the rest of a line, inside a comment or outside
abbrev pub prepare : Bool → List ℕ → List ℕ
prepare false s = strip s
prepare true s = inside s

-- a byte is kept: all of a comment, and outside comments all but blanks
abbrev pub keeps : Bool → ℕ → Bool
keeps inside b = cond inside true (not (blank b))

-- what is kept of it: letters are raised outside comments
abbrev pub as_kept : Bool → ℕ → ℕ
as_kept inside b = cond inside b (raise b)

-- the byte after it stands in a comment: after `(`, up to the first `)`
abbrev pub stays : Bool → ℕ → Bool
stays inside b = cond inside (not (eqb b (byte ")"))) (eqb b (byte "("))

-- the place, in the typed bytes, of the prepared byte at p; the end where there is none
abbrev pub typed_from : Bool → List ℕ → ℕ → ℕ
typed_from c [] p = 0
typed_from c (b ∷ s) zero = cond (keeps c b) 0 (suc (typed_from (stays c b) s zero))
typed_from c (b ∷ s) (suc p) = suc (typed_from (stays c b) s (cond (keeps c b) p (suc p)))
