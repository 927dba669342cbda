-- What writing a parameter file leaves.
-- Assumes nothing.
use Rattle.std.specs.Prelude.{Bool, true, false, cond, not, ◌||◌, List, [], ◌∷◌, ◌++◌, ℕ, zero, suc, ◌+◌, ◌/◌, ◌%◌, eqb, ltb, length, get_or, drop, ℤ, pos, nat_abs, Result, Ok, Err}
use Rattle.std.specs.List.{list_all}
use Rattle.grammar.specs.Bytes.{byte, bytes}
use Rattle.grammar.specs.Grammar.{Sign, unsigned, minus, Fraction, whole, point, Number, num}
use Rattle.rules.specs.Numbers.{minus as below, in_range, is_true}
use Rattle.rules.specs.Codes.{system_number}
use Rattle.rules.specs.Reach.{at}
use Rattle.rules.specs.Refusals.{◌when◌, first}
use Rattle.rules.specs.Promise.{disorder}
use Rattle.rules.specs.declared.Record.{Record}
use Rattle.parameters.specs.File.{Entry, write_entry}
use Rattle.parameters.specs.Refusal.{refusal_number}
use Rattle.parameters.specs.declared.refusal.FileRefusal.{FileRefusal}
use Rattle.parameters.specs.Places.{stands_for, decimals, trimmed}
use Rattle.parameters.specs.declared.places.Place.{Place}
use Rattle.parameters.specs.declared.places.Place.TheVariants.{Entry as entry, Offset as offset, Origin as origin, System as system, Passed as passed}

-- ---- a number in shortest decimals

-- the last digit of n
abbrev pub last_digit : ℕ → ℕ
last_digit n = byte "0" + n % 10

-- the digits of n: as few as there are, at least one. (The first argument only bounds how many.)
abbrev pub digits_in : ℕ → ℕ → List ℕ
digits_in zero n = []
digits_in (suc k) n = cond (ltb n 10) [] (digits_in k (n / 10)) ++ last_digit n ∷ []

unfoldable pub digits_of : ℕ → List ℕ
digits_of n = digits_in (suc n) n

-- n without its last k digits, and these
abbrev pub without : ℕ → ℕ → ℕ
without zero n = n
without (suc k) n = without k (n / 10)

abbrev pub last : ℕ → ℕ → List ℕ
last zero n = []
last (suc k) n = last k (n / 10) ++ last_digit n ∷ []

-- a point only where a digit stands behind it
abbrev pub fraction : List ℕ → Fraction
fraction [] = whole
fraction (d ∷ ds) = point (d ∷ ds)

abbrev pub sign_of : Bool → Sign
sign_of true = minus
sign_of false = unsigned

-- "shortest decimals with a digit before any point": z units of the k-th decimal
unfoldable pub shortest : ℕ → ℤ → Number
shortest k z = num (sign_of (below z)) (digits_of (without k (nat_abs z))) (fraction (trimmed (last k (nat_abs z))))

-- ---- the file

-- what record and table hold under a number, in units of its last decimal
abbrev pub held_at : Record → List ℤ → Place → ℤ
held_at r table (entry n) = get_or table n (pos 0)
held_at r table (offset i) = (at r.offset i).0
held_at r table (origin i) = (at r.origins i).0
held_at r table system = pos (system_number r.system)
held_at r table passed = pos 0

unfoldable pub held : Record → List ℤ → ℕ → ℤ
held r table n = held_at r table (stands_for n)

-- "one space between number and value"
unfoldable pub entry_for : ℕ → ℤ → Entry
entry_for n z = record { digits = digits_of n; blanks = bytes " "; value = shortest (decimals (stands_for n)) z }

-- "Write all non-zero ones and 5220"
abbrev pub said : ℕ → ℤ → Bool
said n z = is_true z || eqb n 5220

-- "rising": of the numbers from n on, so many
abbrev pub entries_from : (ℕ → ℤ) → ℕ → ℕ → List Entry
entries_from hold n zero = []
entries_from hold n (suc many) = cond (said n (hold n)) (entry_for n (hold n) ∷ []) [] ++ entries_from hold (suc n) many

unfoldable pub entries : Record → List ℤ → List Entry
entries r table = entries_from (held r table) 1 5399

-- "a line feed after each"
abbrev pub write_file : List Entry → List ℕ
write_file [] = []
write_file (e ∷ es) = write_entry e ++ (byte "\n" ∷ write_file es)

-- the line of a number, where it has one
unfoldable pub line_for : ℕ → ℤ → List ℕ
line_for n z = write_file (entry_for n z ∷ [])

unfoldable pub file : Record → List ℤ → List ℕ
file r table = write_file (entries r table)

-- ---- all that a call leaves

-- the refusal, 0 where the file is written; how many bytes it has; and what the output space holds
pub record Saved : Type 0 where
  pub number : ℕ
  pub count : ℕ
  pub out : List ℕ

-- the same as an answer: how many bytes the file has, or why it is not written
abbrev pub saved_as : Result ℕ FileRefusal → List ℕ → Saved
saved_as (Ok count) out = record { number = 0; count = count; out = out }
saved_as (Err why) out = record { number = refusal_number why; count = 0; out = out }

abbrev pub all_in_range : List ℤ → Bool
all_in_range zs = list_all in_range zs

-- "1, then 23 if an entry from 1 to 4999 is out of range, then 24 output space too small"
abbrev pub save_refusal : Record → List ℤ → ℕ → ℕ
save_refusal r table room = first (
    (1 when disorder r table)
    ∷ (23 when not (all_in_range (drop 1 table)))
    ∷ (24 when ltb room (length (file r table))) ∷ [])

-- "nothing is then written"; the space past a file that is written stays as it was
abbrev pub saved_by : ℕ → List ℕ → List ℕ → Saved
saved_by zero text out = record { number = 0; count = length text; out = text ++ drop (length text) out }
saved_by (suc n) text out = record { number = suc n; count = 0; out = out }

unfoldable pub saved : Record → List ℤ → List ℕ → Saved
saved r table out = saved_by (save_refusal r table (length out)) (file r table) out
