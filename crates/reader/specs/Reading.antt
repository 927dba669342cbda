-- What `read` leaves: its answer, and what each lent space holds. It is said by the line's form: its derivation, or the place at which its form breaks.
-- Assumes nothing.
use Rattle.std.specs.Prelude.{◌≡◌, cond, List, map, Result, Ok, Err, ℕ, ◌≤◌, ◌<◌, eqb, ltb, ℤ, pos, length, replicate}
use Rattle.std.proofs.Math.Option.{Option, none, some}
use Rattle.std.proofs.lemmas.List.Edits.{sets}
use Rattle.grammar.specs.Grammar.{Line}
use Rattle.grammar.specs.Derivation.{Form, derived, breaks_at, ByForm}
use Rattle.grammar.specs.Working.{Took, end, stopped, took, Contents, contents}
use Rattle.rules.specs.Meaning.{Entry, Said, Setting, arithmetic, words, settings}
use Rattle.rules.specs.Named.{refusal_of}
use Rattle.rules.specs.Promise.{too_deep}
use Rattle.reader.specs.declared.answer.Read.{Read}
use Rattle.reader.specs.declared.answer.Unread.{Unread}
use Rattle.reader.specs.declared.answer.Unread.TheVariants.{Refused, Skipped, Deep, Wrong, TooLong}
use Rattle.reader.specs.declared.answer.FormError.{FormError}
use Rattle.reader.specs.declared.answer.FormError.TheVariants.{TooLong as FormTooLong, BreaksAt}
pub use Rattle.reader.specs.declared.spaces.Spaces.{Spaces}

-- ---- the lent spaces

-- the letters and the values of words, the parameter numbers and the values of settings
abbrev pub spaces : List ℕ → List ℤ → List ℕ → List ℤ → Spaces
spaces letters values numbers amounts = record { letters = letters; values = values; numbers = numbers; amounts = amounts }

-- nothing but zeros in all of them
abbrev pub zeros : Spaces
zeros = spaces (replicate 128 0) (replicate 128 (pos 0)) (replicate 64 0) (replicate 64 (pos 0))

-- what was read is stored in order, words from place w on and settings from place n on; all else stays as it was
abbrev pub stored_from : ℕ → ℕ → Took Entry → Spaces → Spaces
stored_from w n e old = record {
  letters = sets old.letters w (map (λ (x : Said). x.letter) (words e));
  values = sets old.values w (map (λ (x : Said). x.value) (words e));
  numbers = sets old.numbers n (map (λ (x : Setting). x.number) (settings e));
  amounts = sets old.amounts n (map (λ (x : Setting). x.value) (settings e));
}

-- what was read is stored from the front on
abbrev pub stored : Took Entry → Spaces → Spaces
stored e old = stored_from 0 0 e old

-- ---- the answer

-- what was read of a line, or why it is not read
abbrev pub Reading : Type 0
Reading = Result Read Unread

-- so many words and settings, and so much work
abbrev pub whole : ℕ → ℕ → ℕ → Reading
whole w n k = Ok (record { words = w; settings = n; work = k })

-- why a line is not read, by the number that stopped it: a skip's number is 100
abbrev pub unread_of : ℕ → Unread
unread_of n = cond (eqb n 100) Skipped (Refused (refusal_of n))

-- the number that stopped the reading, where one did
abbrev pub stop_of : Took Entry → Option ℕ
stop_of end = none
stop_of (stopped n) = some n
stop_of (took e t) = stop_of t

-- so many words and settings and so much work, unless the reading was stopped
abbrev pub counted : Option ℕ → ℕ → ℕ → ℕ → Reading
counted none w n k = whole w n k
counted (some m) w n k = Err (unread_of m)

-- the answer for what was read, by so much work
abbrev pub outcome : Took Entry → ℕ → Reading
outcome e k = counted (stop_of e) (length (words e)) (length (settings e)) k

-- ---- all that a call leaves

-- the answer, and the spaces
pub record Left : Type 0 where
  pub answer : Reading
  pub lent : Spaces

-- both of them
abbrev pub left : Reading → Spaces → Left
left answer lent = record { answer = answer; lent = lent }

-- for what a derivation gives: where it nests too deep, that alone; and else the answer for its words and settings and its work, and these stored
abbrev pub left_for : Contents Entry → Spaces → Left
left_for c old = cond (too_deep c) (left (Err Deep) zeros) (left (outcome c.entries c.work) (stored c.entries old))

-- for a line's form: what its derivation gives; or the place at which it breaks, and nothing of what was read by then
abbrev pub leaves : List ℤ → Spaces → Form Line → Left
leaves table old (derived t) = left_for (contents (arithmetic table) t) old
leaves table old (breaks_at n) = left (Err (Wrong n)) zeros

-- for any line: one of more than 256 bytes is not read; of a shorter one its form decides
pub record Reads (line : List ℕ) (table : List ℤ) (old : Spaces) (answer : Reading) (lent : Spaces) : Type 0 where
  pub by_length : 256 < length line → left answer lent ≡ left (Err TooLong) old
  pub by_form : length line ≤ 256 → ByForm line (leaves table old) (left answer lent)

-- ---- the form alone

-- right, or the place at which it breaks
abbrev pub formed : Form Line → Result (Unit {0}) FormError
formed (derived t) = Ok tt
formed (breaks_at n) = Err (BreaksAt n)

-- "for length and form only": a line of more than 256 bytes is too long, whatever its form
abbrev pub form_answer : List ℕ → Form Line → Result (Unit {0}) FormError
form_answer line f = cond (ltb 256 (length line)) (Err FormTooLong) (formed f)

-- its number, 0, 2 or 3; and its place, 0 unless the number is 3
abbrev pub form_number : Result (Unit {0}) FormError → ℕ
form_number (Ok u) = 0
form_number (Err FormTooLong) = 2
form_number (Err (BreaksAt n)) = 3

abbrev pub form_place : Result (Unit {0}) FormError → ℕ
form_place (Ok u) = 0
form_place (Err FormTooLong) = 0
form_place (Err (BreaksAt n)) = n
