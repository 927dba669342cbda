-- What a program does with a run.
-- Assumes nothing.
use Rattle.std.specs.Prelude.{◌≡◌, true, List, [], ◌++◌, ℕ, ◌≤◌, length, take, replicate, ℤ, pos}
use Rattle.run.specs.declared.State.{State}
use Rattle.run.specs.Stands.{Stand, stand, Taken, start}
use Rattle.run.specs.Promised.{Feeds, Closes}

-- the text that a call gives
abbrev pub written : Stand → List ℕ
written st = take st.filled st.text

-- From this state, these held bytes and this table, calls that take these bytes of the input and give this text come to that state, those held bytes
-- and that table. Each call gets the state, the held bytes and the table as the one before left them; and any piece, any output space of 8,000 numbers
-- and any text of at least 657 bytes.
pub data Calls : State → List ℕ → List ℤ → List ℕ → List ℕ → State → List ℕ → List ℤ → Type 0 where
  none : {s : State} {line : List ℕ} {table : List ℤ} → Calls s line table [] [] s line table
  call : {s s' : State} {line line' : List ℕ} {table table' : List ℤ} {input output : List ℕ} (piece : List ℕ) (out : List ℤ) (text : List ℕ) (t : Taken)
      → Calls s line table input output s' line' table' → length out ≡ 8000 → 657 ≤ length text → Feeds (stand s' line' table' out text 0) piece t
      → Calls s line table (input ++ take t.many piece) (output ++ written t.stand) t.stand.state t.stand.line t.stand.table

-- A whole run, from the start and an all-zero table, with space for 257 bytes of a line: its calls take all of the input, and the end of the input is told;
-- or the run has ended before, and the rest of the input is not looked at.
pub data Run : List ℕ → List ℕ → Type 0 where
  at_end : {line input output : List ℕ} {s : State} {line' : List ℕ} {table' : List ℤ} → 257 ≤ length line
      → Calls start line (replicate 5000 (pos 0)) input output s line' table'
      → (out : List ℤ) (text : List ℕ) (t : Stand) → length out ≡ 8000 → 657 ≤ length text → Closes (stand s line' table' out text 0) t → Run input (output ++ written t)
  refused : {line input output : List ℕ} {s : State} {line' : List ℕ} {table' : List ℤ} → 257 ≤ length line
      → Calls start line (replicate 5000 (pos 0)) input output s line' table' → s.ended ≡ true → (rest : List ℕ) → Run (input ++ rest) output
