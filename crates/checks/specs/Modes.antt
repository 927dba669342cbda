-- Rules that read little of the record are cited at a record in which only that is set: so they are judged before the record is worked.
-- Assumes nothing.
use Rattle.std.specs.Prelude.{cond, ◌||◌, List, [], ◌∷◌, ℕ, eqb, get_or, Option, None, Result, Ok, Err}
use Rattle.rules.specs.Reach.{fresh}
use Rattle.rules.specs.With.{with_motion, with_plane, with_feed}
use Rattle.rules.specs.Named.{refusal_of}
use Rattle.rules.specs.Refusals.{Case, ◌when◌, first, missing, idle, wrong_word}
use Rattle.rules.specs.declared.Length.{Length}
use Rattle.rules.specs.declared.Value.{Value}
use Rattle.rules.specs.declared.Block.{Block}
use Rattle.rules.specs.declared.Record.{Record}
use Rattle.rules.specs.declared.Refusal.{Refusal}

-- a record in that mode of motion, in that plane and mode, and in that mode at that feed
abbrev pub in_motion : ℕ → Record
in_motion motion = with_motion motion fresh

abbrev pub in_modes : ℕ → ℕ → Record
in_modes plane motion = with_plane plane (in_motion motion)

abbrev pub at_feed : ℕ → Length → Record
at_feed motion feed = with_feed feed (in_motion motion)

-- the word of an axis among the words by axis
abbrev pub word_at : List (Option Value) → ℕ → Option Value
word_at ws i = get_or ws i None

-- numbers 10 and 11, as the refusals have them
abbrev pub early : Block → Record → List Case
early b m = (10 when (missing b m || idle b m)) ∷ (11 when wrong_word b) ∷ []

-- nothing where no number is given, or the refusal of the first that is
abbrev pub judged : List Case → Result (Unit {0}) Refusal
judged cs = cond (eqb (first cs) 0) (Ok tt) (Err (refusal_of (first cs)))
