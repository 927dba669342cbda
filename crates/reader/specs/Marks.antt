-- The mark that may stand first on a line: what the functions that read it answer, and what it leaves to the reading of the items. No public contract cites it.
-- Assumes nothing.
use Rattle.std.specs.Prelude.{Bool, true, false, cond, List, [], ◌∷◌, Some, None, Result, Ok, Err, ℕ, eqb, ltb, ℤ}
use Rattle.grammar.specs.Bytes.{byte}
use Rattle.grammar.specs.Grammar.{Stroke, slash, backslash, Mark}
use Rattle.grammar.specs.Work.{mark_work, mark_depth}
use Rattle.grammar.specs.Working.{Step, skip, give, stop, mark_step}
use Rattle.grammar.proofs.Place.{Placed, wrong, found}
use Rattle.rules.specs.Meaning.{Entry}
use Rattle.reader.specs.Pass.{guarded}
use Rattle.reader.specs.Reading.{unread_of}
use Rattle.reader.specs.declared.answer.Unread.{Unread}
use Rattle.reader.specs.declared.mark.First.{First}
use Rattle.reader.specs.declared.mark.First.TheVariants.{Unmarked, Plain, Condition}
use Rattle.reader.specs.declared.mark.Begun.{Begun}

-- ---- the bytes of a mark

-- a stroke, by whether it is `/`
abbrev pub stroke_of : Bool → Stroke
stroke_of c = cond c slash backslash

-- the mark, from the bytes after its stroke
abbrev pub after_stroke : Bool → List ℕ → First
after_stroke c [] = Plain
after_stroke c (b ∷ s) = cond (eqb (byte "[") b) (Condition c) Plain

abbrev pub first_of : List ℕ → First
first_of [] = Unmarked
first_of (b ∷ s) = cond (eqb (byte "/") b) (after_stroke true s) (cond (eqb (byte "\\") b) (after_stroke false s) Unmarked)

-- ---- what it leaves

-- the line goes on after so much work; is stopped; or nests too deep
abbrev pub goes_on : ℕ → Begun
goes_on w = record { work = w; deep = false; stopped = None }

abbrev pub stops_with : Unread → Begun
stops_with why = record { work = 0; deep = false; stopped = Some why }

abbrev pub nests_deep : Begun
nests_deep = record { work = 0; deep = true; stopped = None }

-- by what a condition says; it gives neither word nor setting
abbrev pub begun_by : Step Entry → ℕ → Begun
begun_by skip w = goes_on w
begun_by (give e) w = goes_on w
begun_by (stop n) w = stops_with (unread_of n)

abbrev pub begun_after : List ℤ → Mark → Begun
begun_after t m = cond (ltb 24 (mark_depth m)) nests_deep (begun_by (mark_step (guarded t) m) (mark_work m))

abbrev pub of_mark : List ℤ → Placed Mark → Result (Begun × ℕ) ℕ
of_mark t (wrong p) = Err p
of_mark t (found m p) = Ok (begun_after t m, p)
