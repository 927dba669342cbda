-- Worked examples as rows of a table: a line with all that it finds, and all that it is to leave. `Kept`: whatever the promise allows for that line, from that
-- record, table and output, is what the row says, to the last number. A table of rows is kept when it computes (`kept`).
-- Assumes nothing.
use mathlib.Core.Path.{◌≡◌, ap, ◌∙◌}
use mathlib.Core.Bool.{Bool, true, false}
use mathlib.Core.List.{List, [], ◌∷◌, ◌++◌, map}
use Prim.Native.Nat.{ℕ, ◌-◌}
use Prim.Native.String.{String}
use lib.ListN.{length, replicate}
use lib.IntN.{ℤ, pos, neg_ℤ}
use Rattle.grammar.specs.Bytes.{bytes}
use Rattle.grammar.proofs.ByForm.{form_of}
use Rattle.rules.specs.Promise.{After, Right, answer, number_of, count_of}
use Rattle.rules.specs.declared.Length.{Length}
use Rattle.rules.specs.declared.Record.{Record}
use Rattle.rules.proofs.Demands.{by_model}

-- what a line leaves, as document 01 tells it: number and count, record, table and output
pub record Seen : Type 0 where
  pub number : ℕ
  pub count : ℕ
  pub rec : Record
  pub table : List ℤ
  pub out : List ℤ

abbrev pub seen : After → Seen
seen a = record { number = number_of a.outcome.answer; count = count_of a.outcome.answer; rec = a.outcome.rec; table = a.table; out = a.out }

-- a line and the switch; record, table and output before it; and what is seen after it
pub record Row : Type 0 where
  pub line : List ℕ
  pub switch : Bool
  pub rec : Record
  pub table : List ℤ
  pub out : List ℤ
  pub after : Seen

-- whatever the promise allows is what the row says
abbrev pub Kept : Row → Type 0
Kept w = (a : After) → Right w.line w.switch w.rec w.table w.out a → seen a ≡ w.after

abbrev pub All : {A : Type 0} → (A → Type 0) → List A → Type 0
All P [] = Unit {0}
All P (x ∷ xs) = P x × All P xs

-- what the rules make of a row, computed with the reader of the grammar's proofs
abbrev pub computed : Row → Seen
computed w = seen (answer (form_of w.line) w.line w.switch w.rec w.table w.out)

abbrev pub said : Row → Seen
said w = w.after

-- a row is kept when it computes to what it says, and so is a table
pub kept_row : (w : Row) → computed w ≡ said w → Kept w
kept_row w e a p = ap seen (by_model w.line w.switch w.rec w.table w.out p) ∙ e

abbrev pub head_or : {A : Type 0} → A → List A → A
head_or d [] = d
head_or d (x ∷ xs) = x

abbrev pub tail_of : {A : Type 0} → List A → List A
tail_of [] = []
tail_of (x ∷ xs) = xs

pub kept : (ws : List Row) → map computed ws ≡ map said ws → All Kept ws
kept [] e = tt
kept (w ∷ ws) e = (kept_row w (ap (head_or (said w)) e), kept ws (ap tail_of e))

-- ---- how rows are written

abbrev pub neg : ℕ → ℤ
neg n = neg_ℤ (pos n)

-- counts on X, Y and Z
abbrev pub xyz : ℤ → ℤ → ℤ → List Length
xyz x y z = map (λ (c : ℤ). record { 0 = c }) (x ∷ y ∷ z ∷ [])

abbrev pub xyz0 : List Length
xyz0 = xyz (pos 0) (pos 0) (pos 0)

-- nine origins that are zero
abbrev pub unset : List Length
unset = replicate 27 (record { 0 = pos 0 })

-- a record: position, origins, offset; motion, plane, distance, units, system; feed, speed; tool, spindle, coolant
abbrev pub holding : List Length → List Length → List Length → ℕ → ℕ → ℕ → ℕ → ℕ → ℤ → ℤ → ℕ → ℕ → ℕ → Record
holding position origins offset motion plane distance units system feed speed tool spindle coolant = record {
  position = position;
  origins = origins;
  offset = offset;
  motion = motion;
  plane = plane;
  distance = distance;
  units = units;
  system = system;
  feed = record { 0 = feed };
  speed = record { 0 = speed };
  tool = tool;
  spindle = spindle;
  coolant = coolant;
}

-- a table of 5,000 zeros
abbrev pub zeros : List ℤ
zeros = replicate 5000 (pos 0)

-- 90 numbers of output, each 77 before the line; and with a line's numbers at its beginning
abbrev pub room : List ℤ
room = replicate 90 (pos 77)

abbrev pub begins : List ℤ → List ℤ
begins zs = zs ++ replicate (90 - length zs) (pos 77)

-- line; record, table and output before; number, count, record, table and output after. The switch is off
abbrev pub row : String → Record → List ℤ → List ℤ → ℕ → ℕ → Record → List ℤ → List ℤ → Row
row text rec table out number count rec' table' out' = record {
  line = bytes text;
  switch = false;
  rec = rec;
  table = table;
  out = out;
  after = record { number = number; count = count; rec = rec'; table = table'; out = out' };
}

-- the same row for a line given by its bytes, and with the switch on
abbrev pub typed : List ℕ → Row → Row
typed line w = record { line = line; switch = w.switch; rec = w.rec; table = w.table; out = w.out; after = w.after }

abbrev pub switched : Row → Row
switched w = record { line = w.line; switch = true; rec = w.rec; table = w.table; out = w.out; after = w.after }

-- a line that is refused or skipped with a number, and several with the same
abbrev pub refuses : String → Record → ℕ → Row
refuses text rec number = row text rec zeros room number 0 rec zeros room

abbrev pub refusing : Record → ℕ → List String → List Row
refusing rec number texts = map (λ (text : String). refuses text rec number) texts

-- an accepted line: record before and after, and its commands
abbrev joined : List (List ℤ) → List ℤ
joined [] = []
joined (c ∷ cs) = c ++ joined cs

abbrev pub gives : String → Record → Record → List (List ℤ) → Row
gives text rec rec' commands = row text rec zeros room 0 (length commands) rec' zeros (begins (joined commands))

-- the commands, eight numbers each
abbrev pub feed_at : ℤ → List ℤ
feed_at n = pos 1 ∷ n ∷ pos 0 ∷ pos 0 ∷ pos 0 ∷ pos 0 ∷ pos 0 ∷ pos 0 ∷ []

abbrev pub speed_at : ℤ → List ℤ
speed_at n = pos 2 ∷ n ∷ pos 0 ∷ pos 0 ∷ pos 0 ∷ pos 0 ∷ pos 0 ∷ pos 0 ∷ []

abbrev pub selects : ℕ → List ℤ
selects n = pos 3 ∷ pos n ∷ pos 0 ∷ pos 0 ∷ pos 0 ∷ pos 0 ∷ pos 0 ∷ pos 0 ∷ []

abbrev pub changes : List ℤ
changes = pos 4 ∷ pos 0 ∷ pos 0 ∷ pos 0 ∷ pos 0 ∷ pos 0 ∷ pos 0 ∷ pos 0 ∷ []

abbrev pub spins : ℕ → List ℤ
spins n = pos 5 ∷ pos n ∷ pos 0 ∷ pos 0 ∷ pos 0 ∷ pos 0 ∷ pos 0 ∷ pos 0 ∷ []

abbrev pub cools : ℕ → List ℤ
cools n = pos 6 ∷ pos n ∷ pos 0 ∷ pos 0 ∷ pos 0 ∷ pos 0 ∷ pos 0 ∷ pos 0 ∷ []

abbrev pub waits : ℤ → List ℤ
waits n = pos 7 ∷ n ∷ pos 0 ∷ pos 0 ∷ pos 0 ∷ pos 0 ∷ pos 0 ∷ pos 0 ∷ []

abbrev pub rapid_to : ℤ → ℤ → ℤ → List ℤ
rapid_to x y z = pos 8 ∷ x ∷ y ∷ z ∷ pos 0 ∷ pos 0 ∷ pos 0 ∷ pos 0 ∷ []

abbrev pub feeds_to : ℤ → ℤ → ℤ → List ℤ
feeds_to x y z = pos 9 ∷ x ∷ y ∷ z ∷ pos 0 ∷ pos 0 ∷ pos 0 ∷ pos 0 ∷ []

-- G2 or G3, plane, X Y Z, centre
abbrev pub arc_to : ℕ → ℕ → ℤ → ℤ → ℤ → ℤ → ℤ → List ℤ
arc_to way plane x y z c d = pos 10 ∷ pos way ∷ pos plane ∷ x ∷ y ∷ z ∷ c ∷ d ∷ []

abbrev pub stops : ℕ → List ℤ
stops n = pos 11 ∷ pos n ∷ pos 0 ∷ pos 0 ∷ pos 0 ∷ pos 0 ∷ pos 0 ∷ pos 0 ∷ []
