-- The line reader.
-- Assumes nothing.
use Rattle.std.specs.Prelude.{List, ℕ}
use Rattle.std.specs.Borrow.{Bor}
use Rattle.reader.specs.declared.cursor.Reader.{Reader}

-- the reader of a line that has reached a place in it
abbrev pub reader_at : Bor (List ℕ) → ℕ → Reader
reader_at line at = record { line = line; at = at }
