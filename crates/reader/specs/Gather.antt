-- The items of a prepared line one after another, from the trees that the grammar's reader finds. No public contract cites it.
-- Assumes nothing.
use Rattle.std.specs.Prelude.{Bool, false, cond, List, Option, Some, None, Result, Ok, Err, ℕ, ◌+◌, ltb, ℤ, length}
use Rattle.grammar.specs.Grammar.{Item, Line}
use Rattle.grammar.specs.Work.{items_work, items_depth}
use Rattle.grammar.specs.Typed.{typed_from}
use Rattle.grammar.specs.Working.{Contents, entries, contents}
use Rattle.grammar.proofs.Place.{Placed, wrong, found, map_p}
use Rattle.rules.specs.Meaning.{Entry, words, settings}
use Rattle.reader.specs.Pass.{guarded}
use Rattle.reader.specs.Reading.{Spaces, zeros, stored_from, Reading, whole, stop_of, counted, left_for, Left, left}
use Rattle.reader.specs.declared.mark.Begun.{Begun}
use Rattle.reader.specs.declared.answer.Unread.{Unread}
use Rattle.reader.specs.declared.answer.Unread.TheVariants.{Refused, Skipped, Deep, Wrong, TooLong}
use Rattle.reader.specs.declared.answer.FormError.{FormError}
use Rattle.reader.specs.declared.answer.FormError.TheVariants.{BreaksAt}

-- whether the form is right to the end
abbrev pub checked : {X : Type 0} → Placed X → Result (Unit {0}) ℕ
checked (wrong p) = Err p
checked (found e p) = Ok tt

-- the answer at the end of a line of right form
abbrev pub answered : Option Unread → ℕ → ℕ → ℕ → Reading
answered None w n work = whole w n work
answered (Some why) w n work = Err why

abbrev pub ended : Bool → Option Unread → ℕ → ℕ → ℕ → Reading
ended deep stopped w n work = cond deep (Err Deep) (answered stopped w n work)

-- an answer and the spaces, once those of a wrong form or of too deep a nesting are cleared
abbrev pub tidied : Reading → Spaces → Left
tidied (Ok r) lent = left (Ok r) lent
tidied (Err (Refused why)) lent = left (Err (Refused why)) lent
tidied (Err Skipped) lent = left (Err Skipped) lent
tidied (Err Deep) lent = left (Err Deep) zeros
tidied (Err (Wrong p)) lent = left (Err (Wrong p)) zeros
tidied (Err TooLong) lent = left (Err TooLong) lent

-- what a pass over items leaves
abbrev pub left_by : Placed (Contents Entry) → Spaces → Left
left_by (wrong p) old = left (Err (Wrong p)) zeros
left_by (found c p) old = left_for c old

abbrev pub left_by_line : List ℤ → Placed Line → Spaces → Left
left_by_line t m old = left_by (map_p (contents (guarded t)) m) old

-- ---- what the items still to be read leave, once so many words and settings are stored

module _ (t : List ℤ) where
  -- nothing read so far was refused, and nothing nests too deep
  abbrev pub left_from : ℕ → ℕ → ℕ → Spaces → Placed (List Item) → Left
  left_from w n k sp (wrong p) = left (Err (Wrong p)) zeros
  left_from w n k sp (found is p) =
      cond (ltb 24 (items_depth is)) (left (Err Deep) zeros)
      (left (counted (stop_of (entries (guarded t) is)) (w + length (words (entries (guarded t) is))) (n + length (settings (entries (guarded t) is))) (k + items_work is)) (stored_from w n (entries (guarded t) is) sp))

  -- something stopped the reading
  abbrev pub left_stopped : Unread → Spaces → Placed (List Item) → Left
  left_stopped why sp (wrong p) = left (Err (Wrong p)) zeros
  left_stopped why sp (found is p) = cond (ltb 24 (items_depth is)) (left (Err Deep) zeros) (tidied (Err why) sp)

  -- something nests too deep
  abbrev pub left_deep : Placed (List Item) → Left
  left_deep (wrong p) = left (Err (Wrong p)) zeros
  left_deep (found is p) = left (Err Deep) zeros

  abbrev pub left_unless : Option Unread → ℕ → ℕ → ℕ → Spaces → Placed (List Item) → Left
  left_unless None w n k sp m = left_from w n k sp m
  left_unless (Some why) w n k sp m = left_stopped why sp m

  abbrev pub left_as : Bool → Option Unread → ℕ → ℕ → ℕ → Spaces → Placed (List Item) → Left
  left_as deep stopped w n k sp m = cond deep (left_deep m) (left_unless stopped w n k sp m)

  -- nothing is read yet but the mark
  abbrev pub left_after : Begun → Spaces → Placed (List Item) → Left
  left_after b old m = left_as b.deep b.stopped 0 0 b.work old m

-- an answer, once the place of a wrong form is carried from the prepared line back to the typed one
abbrev pub typed_in : List ℕ → Reading → Reading
typed_in line (Ok r) = Ok r
typed_in line (Err (Refused why)) = Err (Refused why)
typed_in line (Err Skipped) = Err Skipped
typed_in line (Err Deep) = Err Deep
typed_in line (Err (Wrong p)) = Err (Wrong (typed_from false line p))
typed_in line (Err TooLong) = Err TooLong

abbrev pub as_typed : List ℕ → Left → Left
as_typed line l = left (typed_in line l.answer) l.lent

-- the answer of the form check likewise
abbrev pub form_said : List ℕ → Result (Unit {0}) ℕ → Result (Unit {0}) FormError
form_said line (Ok u) = Ok tt
form_said line (Err p) = Err (BreaksAt (typed_from false line p))
