-- The lines of a text by their places.
-- Assumes nothing.
use Rattle.std.specs.Prelude.{◌≡◌, cond, List, ◌∷◌, ℕ, ◌+◌, ◌≤◌, ◌<◌, eqb, ltb, length, drop}
use Rattle.std.specs.List.{slice_range, position_or_len}
use Rattle.grammar.specs.Bytes.{byte}
use Rattle.rules.specs.Frames.{without_return}
use Rattle.texts.specs.Ends.{piece, pieces}
use Rattle.texts.specs.declared.Span.{Span}

-- how many bytes stand before the first line feed; all of them, where there is none
abbrev pub before_feed : List ℕ → ℕ
before_feed s = position_or_len (λ b. eqb b (byte "\n")) s

-- a line by its place: up to the first line feed, without one carriage return; or the rest of the text
unfoldable pub line_at : List ℕ → ℕ → Span
line_at text at =
    let feed = at + before_feed (drop at text) in
    cond (ltb feed (length text)) (record { end = at + length (without_return (slice_range text at feed)); next = feed + 1 }) (record { end = feed; next = feed })

-- a line starts at a place: where it ends, and where the next one starts
pub record Spans (text : List ℕ) (at : ℕ) (r : Span) : Type 0 where
  pub from : at ≤ r.end
  pub up_to : r.end ≤ r.next
  pub onward : at < r.next
  pub within : r.next ≤ length text
  pub cut : pieces (drop at text) ≡ piece (slice_range text at r.end) (slice_range text r.end r.next) ∷ pieces (drop r.next text)
