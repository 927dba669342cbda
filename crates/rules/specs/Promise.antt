-- THE PROMISE: what a call is to leave, said by the rules of the grammar and with no reader.
-- Assumes nothing.
use Rattle.std.specs.Prelude.{Bool, true, false, cond, not, ◌&&◌, ◌||◌, List, [], ◌∷◌, ◌++◌, ℕ, eqb, ltb, length, set, drop, ℤ}
use Rattle.grammar.specs.Bytes.{byte}
use Rattle.grammar.specs.Grammar.{Line}
use Rattle.grammar.specs.Derivation.{blank, Form, derived, breaks_at, ByForm}
use Rattle.grammar.specs.Working.{end, Contents}
use Rattle.rules.specs.Named.{refusal_number, refusal_of}
use Rattle.rules.specs.Meaning.{Entry, reading, meets, words, settings, Setting}
use Rattle.rules.specs.Block.{block_of}
use Rattle.rules.specs.Reach.{in_order}
use Rattle.rules.specs.Steps.{ready, left}
use Rattle.rules.specs.Commands.{commands, written}
use Rattle.rules.specs.Refusals.{Case, ◌when◌, first, refusals}
use Rattle.rules.specs.declared.Record.{Record}
use Rattle.rules.specs.declared.Block.{Block}
use Rattle.rules.specs.declared.Outcome.{Outcome}
use Rattle.rules.specs.declared.Report.{Report}
use Rattle.rules.specs.declared.Answer.{Answer}
use Rattle.rules.specs.declared.Refusal.TheVariants.{WrongForm}
use Rattle.rules.specs.declared.Answer.TheVariants.{Accepted, Refused, Skipped}

-- "Acceptance carries number 0 and a skip 100. Every refusal and skip returns count 0"
abbrev pub number_of : Answer → ℕ
number_of (Accepted n) = 0
number_of (Refused why) = refusal_number why
number_of Skipped = 100

abbrev pub count_of : Answer → ℕ
count_of (Accepted n) = n
count_of (Refused why) = 0
count_of Skipped = 0

-- and back: the answer with `number_of` n and, where it is an acceptance, `count_of` k
abbrev pub answer_of : ℕ → ℕ → Answer
answer_of n k = cond (eqb n (number_of (Accepted k))) (Accepted k) (cond (eqb n (number_of Skipped)) Skipped (Refused (refusal_of n)))

-- all that a call leaves: its result with the record, the work and the place it reports, and what each lent space holds
pub record After : Type 0 where
  pub outcome : Outcome
  pub work : ℕ
  pub place : ℕ
  pub table : List ℤ
  pub out : List ℤ

-- a report, with what table and output hold afterwards
abbrev pub after : Report → List ℤ → List ℤ → After
after o table out = record { outcome = o.outcome; work = o.work; place = o.place; table = table; out = out }

-- an answer with its work, and with the record, the table and the output as it leaves them
abbrev pub worth : ℕ → Answer → Record → List ℤ → List ℤ → After
worth work a r table out = record { outcome = record { answer = a; rec = r }; work = work; place = 0; table = table; out = out }

-- an answer with no work: "others report 0"
abbrev pub leaving : Answer → Record → List ℤ → List ℤ → After
leaving a r table out = worth 0 a r table out

-- "Refusal 3 also gives a place"
abbrev pub misformed : ℕ → Record → List ℤ → List ℤ → After
misformed place r table out = record { outcome = record { answer = Refused WrongForm; rec = r }; work = 0; place = place; table = table; out = out }

-- number 1: "table length is not 5,000, or a record field is outside its range"
unfoldable pub disorder : Record → List ℤ → Bool
disorder r table = not (eqb (length table) 5000) || not (in_order r)

-- the next non-blank byte is `[`
unfoldable pub opens : List ℕ → Bool
opens [] = false
opens (b ∷ s) = cond (blank b) (opens s) (eqb b (byte "["))

-- "a line whose first non-blank byte is" that mark, and "A mark whose next non-blank byte is `[` ignores the switch"
unfoldable pub plain_mark : ℕ → List ℕ → Bool
plain_mark mark [] = false
plain_mark mark (b ∷ s) = cond (blank b) (plain_mark mark s) (eqb b mark && not (opens s))

-- "others skip unread, as today": `/` with the switch on; "a plain `\` .. runs only with the switch on"
abbrev pub unread : Bool → List ℕ → Bool
unread switch line = cond switch (plain_mark (byte "/") line) (plain_mark (byte "\\") line)

-- number 3: "no derivation"
abbrev pub underived : {A : Type 0} → Form A → Bool
underived (derived t) = false
underived (breaks_at n) = true

-- the place at which the form breaks, where it does
abbrev pub place_in : {A : Type 0} → Form A → ℕ
place_in (derived t) = 0
place_in (breaks_at n) = n

-- number 16: "Nesting .. is limited to 24"
abbrev pub too_deep : Contents Entry → Bool
too_deep c = ltb 24 c.depth

-- what was read, where there is a derivation
abbrev pub taken : Form (Contents Entry) → Contents Entry
taken (derived c) = c
taken (breaks_at n) = record { entries = end; work = 0; depth = 0 }

-- "settings apply afterwards, in order, the last winning"
abbrev pub apply : List Setting → List ℤ → List ℤ
apply [] table = table
apply (s ∷ ss) table = apply ss (set table s.number s.value)

-- an accepted line: "acceptance leaves output past the commands unchanged"; "Every accepted line reports the values and operations worked out"
abbrev pub over : List ℤ → List ℤ → List ℤ
over zs out = zs ++ drop (length zs) out

abbrev pub accepted : Contents Entry → Block → Record → List ℤ → List ℤ → After
accepted c b r table out =
    worth c.work (answer_of 0 (length (commands b (ready b r)))) (left b r) (apply (settings c.entries) table) (over (written (commands b (ready b r))) out)

-- "Numbers a refused line carries", each "given exactly when no earlier one applies"; 16 is "checked after 3 and before 4, and before a condition is worked out";
-- of 4 to 7 and a condition that says no, the first met in working order has stopped the reading
abbrev pub numbers : Bool → Contents Entry → Block → List ℕ → Bool → Record → List ℤ → ℕ → List Case
numbers wrong c b line switch r table room =
    (1 when disorder r table)
    ∷ (2 when ltb 256 (length line))
    ∷ (100 when unread switch line)
    ∷ (3 when wrong)
    ∷ (16 when too_deep c)
    ∷ (100 when meets c.entries 100)
    ∷ (4 when meets c.entries 4)
    ∷ (5 when meets c.entries 5)
    ∷ (6 when meets c.entries 6)
    ∷ (7 when meets c.entries 7)
    ∷ refusals (words c.entries) b (ready b r) room

-- "Every refusal and skip returns count 0 and leaves record, table and output unchanged"
abbrev pub by_number : ℕ → ℕ → Contents Entry → Block → Record → List ℤ → List ℤ → After
by_number n place c b r table out =
    cond (eqb n 0) (accepted c b r table out)
    (cond (eqb n 3) (misformed place r table out)
    (leaving (answer_of n 0) r table out))

abbrev pub judged : Bool → ℕ → Contents Entry → Block → List ℕ → Bool → Record → List ℤ → List ℤ → After
judged wrong place c b line switch r table out = by_number (first (numbers wrong c b line switch r table (length out))) place c b r table out

-- what is left after a line whose reading is known
unfoldable pub answer_to : Form (Contents Entry) → List ℕ → Bool → Record → List ℤ → List ℤ → After
answer_to c line switch r table out = judged (underived c) (place_in c) (taken c) (block_of (words (taken c).entries)) line switch r table out

-- what is left for a line's form
abbrev pub answer : Form Line → List ℕ → Bool → Record → List ℤ → List ℤ → After
answer f line switch r table out = answer_to (reading table f) line switch r table out

-- where a tree derives the line, what is left is the answer for that tree; where none does, the answer for the place at which its form breaks
abbrev pub Right : List ℕ → Bool → Record → List ℤ → List ℤ → After → Type 0
Right line switch r table out after = ByForm line (λ f. answer f line switch r table out) after

-- the panel's number: "0, 2 or 3, for length and form only"
unfoldable pub panel : List ℕ → Form Line → ℕ
panel line f = first ((2 when ltb 256 (length line)) ∷ (3 when underived f) ∷ [])

-- "The panel gets the place too, as a second number, 0 unless 3"
unfoldable pub panel_place : List ℕ → Form Line → ℕ
panel_place line f = cond (eqb (panel line f) 3) (place_in f) 0
