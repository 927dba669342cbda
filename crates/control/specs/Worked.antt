-- What is left of a line from what reading it left: settings are applied and work is reported only where the line is accepted, and a record out of order comes first.
-- Assumes nothing.
use Rattle.std.specs.Prelude.{Bool, cond, not, ◌||◌, List, [], ◌∷◌, ℕ, eqb, ltb, ℤ, length, take, Ok, Err}
use Rattle.grammar.specs.Grammar.{Line}
use Rattle.grammar.specs.Derivation.{Form, ByForm}
use Rattle.rules.specs.Meaning.{Setting}
use Rattle.rules.specs.Reach.{in_order}
use Rattle.rules.specs.Promise.{After, after, worth, leaving, apply, unread}
use Rattle.rules.specs.declared.Record.{Record}
use Rattle.rules.specs.declared.Report.{Report}
use Rattle.rules.specs.declared.Answer.{Answer}
use Rattle.rules.specs.declared.Answer.TheVariants.{Accepted, Refused, Skipped}
use Rattle.rules.specs.declared.Refusal.TheVariants.{Disorder, LongLine, WrongForm, TooDeep}
use Rattle.reader.specs.declared.spaces.Spaces.{Spaces}
use Rattle.reader.specs.Reading.{Reading, Left, leaves}
use Rattle.reader.specs.declared.answer.Unread.{Unread}
use Rattle.reader.specs.declared.answer.Unread.TheVariants.{Refused as ReadingRefused, Skipped as ReadingSkipped, Deep, Wrong, TooLong}
use Rattle.block.specs.Execution.{Done, execution}

-- number 1 comes before every other answer
abbrev pub judged_as : Answer → Record → Answer
judged_as a r = cond (in_order r) a (Refused Disorder)

-- an answer that changes nothing: "others report 0"
abbrev pub unchanged : Answer → Record → Report
unchanged a r = record { outcome = record { answer = a; rec = r }; work = 0; place = 0 }

-- a wrong form: its place is told, unless number 1 comes before it
abbrev pub wrong_at : ℕ → Record → Report
wrong_at place r = record { outcome = record { answer = judged_as (Refused WrongForm) r; rec = r }; work = 0; place = cond (in_order r) place 0 }

-- what answers a line that is not read to its end: a condition that says no skips it
abbrev pub unworked : Unread → Record → Report
unworked (ReadingRefused why) r = unchanged (judged_as (Refused why) r) r
unworked ReadingSkipped r = unchanged (judged_as Skipped r) r
unworked Deep r = unchanged (judged_as (Refused TooDeep) r) r
unworked (Wrong place) r = wrong_at place r
unworked TooLong r = unchanged (judged_as (Refused LongLine) r) r

-- settings by their parameter numbers and their values, side by side
abbrev pub settings_of : List ℕ → List ℤ → List Setting
settings_of [] vs = []
settings_of (n ∷ ns) [] = []
settings_of (n ∷ ns) (v ∷ vs) = record { number = n; value = v } ∷ settings_of ns vs

-- "settings apply afterwards", and not for a line that is refused
abbrev pub table_after : Answer → List Setting → List ℤ → List ℤ
table_after (Accepted n) ss table = apply ss table
table_after (Refused why) ss table = table
table_after Skipped ss table = table

-- "Every accepted line reports the values and operations worked out .. others report 0"
abbrev pub work_done : Answer → ℕ → ℕ
work_done (Accepted n) work = work
work_done (Refused why) work = 0
work_done Skipped work = 0

abbrev pub finished : ℕ → Done → List Setting → List ℤ → After
finished work d ss table =
    worth (work_done d.outcome.answer work) d.outcome.answer d.outcome.rec (table_after d.outcome.answer ss table) d.out

-- by what the reader answers and what the lent spaces hold
abbrev pub worked_by : Reading → Spaces → Record → List ℤ → List ℤ → After
worked_by (Ok a) sp r table out =
    finished a.work (execution (take a.words sp.letters) (take a.words sp.values) r out) (settings_of (take a.settings sp.numbers) (take a.settings sp.amounts)) table
worked_by (Err why) sp r table out = after (unworked why r) table out

unfoldable pub worked : Left → Record → List ℤ → List ℤ → After
worked l r table out = worked_by l.answer l.lent r table out

-- the spaces for words and settings: a line that is not read leaves them as they were, any other as reading leaves them
abbrev pub not_read : List ℕ → Bool → List ℤ → Bool
not_read line switch table = not (eqb (length table) 5000) || ltb 256 (length line) || unread switch line

unfoldable pub lent_after : Form Line → List ℕ → Bool → List ℤ → Spaces → Spaces
lent_after f line switch table old = cond (not_read line switch table) old (leaves table old f).lent

abbrev pub Lends : List ℕ → Bool → List ℤ → Spaces → Spaces → Type 0
Lends line switch table old lent = ByForm line (λ f. lent_after f line switch table old) lent
