-- The blanks before a byte.
-- Assumes nothing.
use Rattle.std.specs.Prelude.{cond, List, [], ◌∷◌, ℕ, suc, ◌+◌, drop}
use Rattle.grammar.specs.Derivation.{blank}

-- how many blanks stand first
abbrev pub blanks : List ℕ → ℕ
blanks [] = 0
blanks (b ∷ s) = cond (blank b) (suc (blanks s)) 0

-- the place past the blanks from a place on
unfoldable pub past_blanks : List ℕ → ℕ → ℕ
past_blanks line at = at + blanks (drop at line)
