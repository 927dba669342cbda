-- Which lines are of right form. `tree` tells each line's form.
-- Assumes nothing.
use Rattle.std.specs.Prelude.{Bool, true, false, ◌&&◌, List, ℕ, leb, length}
use Rattle.grammar.specs.Grammar.{Line}
use Rattle.grammar.specs.Derivation.{Form, derived, breaks_at, ByForm}

-- whatever tells every line's form: its derivation, or the place at which it breaks
abbrev pub Tells : (List ℕ → Form Line) → Type 0
Tells tree = (s : List ℕ) → ByForm s (λ f. f) (tree s)

abbrev pub is_derived : Form Line → Bool
is_derived (derived t) = true
is_derived (breaks_at n) = false

-- "of right form and at most 256 bytes"
unfoldable pub right : (List ℕ → Form Line) → List ℕ → Bool
right tree s = is_derived (tree s) && leb (length s) 256
