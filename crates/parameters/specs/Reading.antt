-- What reading a parameter file leaves.
-- Assumes nothing.
use Rattle.std.specs.Prelude.{◌≡◌, cond, not, List, [], ◌∷◌, map, ℕ, zero, suc, ◌-◌, eqb, ltb, get_or, ℤ, pos, nat_abs, Option as Numbered, Some, None, Result, Ok, Err}
use Rattle.std.specs.Option.{option_map}
use Rattle.std.proofs.Math.Option.{Option, none, some}
use Rattle.rules.specs.Meaning.{decimal}
use Rattle.rules.specs.Codes.{systems}
use Rattle.rules.specs.Reach.{counts}
use Rattle.rules.specs.With.{with_origins, with_offset, with_system}
use Rattle.rules.specs.Refusals.{◌when◌, first}
use Rattle.rules.specs.Promise.{disorder}
use Rattle.rules.specs.Frames.{lines}
use Rattle.rules.specs.declared.Length.{Length}
use Rattle.rules.specs.declared.Record.{Record}
use Rattle.parameters.specs.File.{Entry, Tells}
use Rattle.parameters.specs.Refusal.{refusal_number}
use Rattle.parameters.specs.declared.refusal.FileRefusal.{FileRefusal}
use Rattle.parameters.specs.Places.{stands_for, offset_number, origin_number, lies, decimals, value_in, unfit}

-- ---- refusals

-- the parameter number of a line
abbrev pub number_of : Entry → ℕ
number_of e = decimal 0 e.digits

-- one line; least is one more than the number before it, 0 on the first line. "20 a malformed line, 21 numbers not rising,
-- 22 a number outside 1 to 5399, 23 a value out of range or too fine"; "lowest number within it"
unfoldable pub line_refusal : ℕ → Option Entry → ℕ
line_refusal least none = 20
line_refusal least (some e) = first (
    (21 when ltb (number_of e) least)
    ∷ (22 when not (lies 1 5399 (number_of e)))
    ∷ (23 when unfit (stands_for (number_of e)) e.value) ∷ [])

abbrev pub risen : Option Entry → ℕ
risen none = 0
risen (some e) = suc (number_of e)

-- "first line first"; 0 where no line has one
abbrev pub or_else : ℕ → ℕ → ℕ
or_else zero later = later
or_else (suc n) later = suc n

abbrev pub refusal : ℕ → List (Option Entry) → ℕ
refusal least [] = 0
refusal least (o ∷ os) = or_else (line_refusal least o) (refusal (risen o) os)

-- which line that is, counted from 1; none where none has one
abbrev pub by_line : ℕ → Numbered ℕ → Numbered ℕ
by_line zero later = option_map suc later
by_line (suc n) later = Some 1

abbrev pub refused_line : ℕ → List (Option Entry) → Numbered ℕ
refused_line least [] = None
refused_line least (o ∷ os) = by_line (line_refusal least o) (refused_line (risen o) os)

-- ---- what an accepted file gives

abbrev pub derived : List (Option Entry) → List Entry
derived [] = []
derived (none ∷ os) = derived os
derived (some e ∷ os) = e ∷ derived os

-- "entries not in the file are set to zero (5220 to 1)"
abbrev pub unsaid : ℕ → ℤ
unsaid n = pos (cond (eqb n 5220) 1 0)

-- what the file gives parameter n, in units of its last decimal
abbrev pub value_at : Entry → ℤ
value_at e = value_in (decimals (stands_for (number_of e))) e.value

abbrev pub given : List Entry → ℕ → ℤ
given [] n = unsaid n
given (e ∷ es) n = cond (eqb (number_of e) n) (value_at e) (given es n)

-- a list with each element made anew from its place, the first being n, and what it was
abbrev pub renewed : {A : Type 0} → (ℕ → A → A) → ℕ → List A → List A
renewed f n [] = []
renewed f n (x ∷ xs) = f n x ∷ renewed f (suc n) xs

-- entries 1 to 4999 from the file; "entry 0 .. kept"
abbrev pub entry_from : List Entry → ℕ → ℤ → ℤ
entry_from es zero z = z
entry_from es (suc n) z = given es (suc n)

unfoldable pub table_from : List Entry → List ℤ → List ℤ
table_from es table = renewed (entry_from es) 0 table

-- offset, origins and system from the file; "the rest of the record .. kept"
abbrev pub length_from : List Entry → (ℕ → ℕ) → ℕ → Length → Length
length_from es number i l = counts (given es (number i))

abbrev pub system_code : ℕ → ℕ
system_code n = get_or systems (n - 1) 540

unfoldable pub record_from : List Entry → Record → Record
record_from es r =
    with_offset (renewed (length_from es offset_number) 0 r.offset)
    (with_origins (renewed (length_from es origin_number) 0 r.origins)
    (with_system (system_code (nat_abs (given es 5220))) r))

-- ---- all that a call leaves

-- the refusal, 0 for an accepted file; the record and the table
pub record Loaded : Type 0 where
  pub number : ℕ
  pub rec : Record
  pub table : List ℤ

-- the same as an answer: the record as the file leaves it, or why the file is refused
abbrev pub loaded_as : Result Record FileRefusal → Record → List ℤ → Loaded
loaded_as (Ok left) r table = record { number = 0; rec = left; table = table }
loaded_as (Err why) r table = record { number = refusal_number why; rec = r; table = table }

-- "A refused file changes neither"
abbrev pub by_number : ℕ → List Entry → Record → List ℤ → Loaded
by_number zero es r table = record { number = 0; rec = record_from es r; table = table_from es table }
by_number (suc n) es r table = record { number = suc n; rec = r; table = table }

-- "1 as in document 01, first"
abbrev pub load_refusal : List (Option Entry) → Record → List ℤ → ℕ
load_refusal os r table = cond (disorder r table) 1 (refusal 0 os)

abbrev pub loaded_by : List (Option Entry) → Record → List ℤ → Loaded
loaded_by os r table = by_number (load_refusal os r table) (derived os) r table

unfoldable pub loaded : (List ℕ → Option Entry) → List ℕ → Record → List ℤ → Loaded
loaded tree text r table = loaded_by (map tree (lines text)) r table

-- the promise: whatever tells every line's derivation, or that it has none, tells what reading leaves
abbrev pub Loads : List ℕ → Record → List ℤ → Loaded → Type 0
Loads text r table after = (tree : List ℕ → Option Entry) → Tells tree → after ≡ loaded tree text r table

-- likewise the first line that is refused for what it says
abbrev pub FirstRefused : List ℕ → Numbered ℕ → Type 0
FirstRefused text line = (tree : List ℕ → Option Entry) → Tells tree → line ≡ refused_line 0 (map tree (lines text))
