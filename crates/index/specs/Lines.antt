-- The lines of a text by places.
-- Assumes nothing.
use Rattle.std.specs.Prelude.{◌≡◌, cond, List, ℕ, ◌-◌, ◌≤◌, length, drop, slice_range, Option, None, Some, Result, Ok, Err}
use Rattle.texts.specs.Ends.{pieces}
use Rattle.index.specs.Index.{Refusal, NoSuchLine, UnfitLine, line_at, start_at, line_of, unfit}
use Rattle.index.specs.declared.lines.Line.{Line}

-- line k, from 1, stands at a place, up to an end, and the next one starts at another place
pub record LineAt (text : List ℕ) (k : ℕ) (l : Line) : Type 0 where
  pub counts : 1 ≤ k
  pub few : k ≤ l.next
  pub from : l.start ≤ l.end
  pub behind : l.end ≤ l.next
  pub within : l.next ≤ length text
  pub line : line_at (k - 1) (pieces text) ≡ Some (slice_range text l.start l.end)
  pub start : start_at (k - 1) (pieces text) ≡ l.start
  pub after : start_at k (pieces text) ≡ l.next
  pub later : drop k (pieces text) ≡ pieces (drop l.next text)

abbrev pub Walked : List ℕ → ℕ → Option Line → Type 0
Walked text k (Some l) = LineAt text k l
Walked text k None = line_of k text ≡ None

-- why a new line may not stand in the place of the old one, where there is a reason
abbrev pub refusal_of : List ℕ → Option (List ℕ) → Option Refusal
refusal_of new None = Some NoSuchLine
refusal_of new (Some old) = cond (unfit old new) (Some UnfitLine) None

abbrev pub Fitting : List ℕ → ℕ → List ℕ → Result Line Refusal → Type 0
Fitting text k new (Ok l) = LineAt text k l × (refusal_of new (line_of k text) ≡ None)
Fitting text k new (Err e) = refusal_of new (line_of k text) ≡ Some e
