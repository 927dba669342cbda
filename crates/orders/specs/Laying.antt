-- How numbers are laid into the output space, from a place on.
-- Assumes nothing.
use Rattle.std.specs.Prelude.{List, ◌++◌, ℕ, ◌+◌, length, take, drop, ℤ}

-- numbers laid over a space from a place on
unfoldable pub laid : List ℤ → ℕ → List ℤ → List ℤ
laid out at zs = take at out ++ zs ++ drop (at + length zs) out
