-- The prepared line in a lent space.
-- Assumes nothing.
use Rattle.std.specs.Prelude.{◌≡◌, Bool, true, false, cond, List, ◌++◌, Option, Some, None, ℕ, ◌+◌, ◌≤◌, ltb, leb, length, drop}
use Rattle.grammar.specs.Bytes.{byte}
use Rattle.grammar.specs.Derivation.{strip}
use Rattle.grammar.specs.Typed.{prepare}

-- a byte that is kept as it is outside comments, and opens none: above `(` and below the small letters
abbrev pub plain : ℕ → Bool
plain b = cond (ltb (byte "(") b) (ltb b (byte "a")) false

-- the bytes before i were prepared: they make `out`, which stands in the text, and the rest of the line makes the rest
pub record Done (l old text : List ℕ) (n i : ℕ) (c : Bool) : Type 0 where
  pub out : List ℕ
  pub many : length out ≡ n
  pub behind : n ≤ i
  pub within : i ≤ length l
  pub holds : text ≡ out ++ drop n old
  pub makes : out ++ prepare c (drop i l) ≡ strip l

-- a comment was copied from place at on into place to on, up to place p: what was prepared up to the comment's inside is prepared past it
pub record Copied (l before after : List ℕ) (to at p : ℕ) : Type 0 where
  pub on : at ≤ p
  pub goes : (old : List ℕ) → length l ≤ length old → Done l old before to at true → (n : ℕ) → n + at ≡ to + p → Done l old after n p false

-- how many bytes the prepared line has, where there was room for the line
unfoldable pub bytes_of : List ℕ → ℕ → Option ℕ
bytes_of line room = cond (leb (length line) room) (Some (length (strip line))) None

-- the prepared line, then what stood there past it; where there is no room, all that stood there
unfoldable pub prepared : List ℕ → List ℕ → List ℕ
prepared line old = cond (leb (length line) (length old)) (strip line ++ drop (length (strip line)) old) old
