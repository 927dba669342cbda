-- The lines of a text that a line feed has ended, as code finds them from the end.
-- Assumes nothing.
use Rattle.std.specs.Prelude.{cond, List, ℕ, zero, suc, eqb, length, get_or}
use Rattle.grammar.specs.Bytes.{byte}

-- how many of the first bytes are up to the last line feed among them
abbrev pub ended_to : ℕ → List ℕ → ℕ
ended_to zero s = 0
ended_to (suc i) s = cond (eqb (get_or s i 0) (byte "\n")) (suc i) (ended_to i s)

-- "line by line": the bytes of all lines that a line feed has ended
abbrev pub ended_lines : List ℕ → ℕ
ended_lines s = ended_to (length s) s
