-- An iterator over the lines of a text gives them one after the other.
-- Assumes nothing.
use mathlib.Core.Path.{◌≡◌, refl, ap, ◌∙◌}
use mathlib.Core.List.{List, [], ◌∷◌, ◌++◌}
use Prim.Native.Nat.{ℕ, ◌-◌, ◌≤◌, ◌<◌}
use native.Mathlib.Omega.{arith}
use lib.ListN.{length, take, length-append}
use Rattle.std.specs.List.{slice_range}
use Rattle.texts.specs.Ends.{Piece, piece, pieces, joined}
use Rattle.texts.specs.Places.{line_at, Spans}
use Rattle.texts.specs.declared.Span.{Span}
use Rattle.texts.proofs.Cutting.{Ended, fed, returned, Cut, none, last, next, last_is, joined_is, pieces_cut}
use Rattle.texts.proofs.Spanning.{rest_is, spans}

pub none_in : (text : List ℕ) → length text ≤ 0 → pieces text ≡ []
none_in [] h = last_is [] refl
none_in (b ∷ text) h = absurd (omega arith)

module _ (text : List ℕ) (r : Span) (e : r ≡ line_at text 0) (h : 0 < length text) where
  pub first_spans : Spans text 0 r
  first_spans = rw e (spans text 0 h)

  pub first_piece : pieces text ≡ piece (take r.end text) (slice_range text r.end r.next) ∷ pieces (slice_range text r.next (length text))
  first_piece =
      let s = first_spans in
      let z : r.end - 0 ≡ r.end = omega arith in
      s.cut ∙ rw (z, rest_is text r.next)

-- each line has a byte, or what ends it has
end_byte : {p : Piece} → Ended p → 1 ≤ length p.end
end_byte (fed h u) = omega arith
end_byte (returned h) = omega arith

cut_most : {ps : List Piece} → Cut ps → length ps ≤ length (joined ps)
cut_most none = omega arith
cut_most (last {b} {l} h) = omega arith
cut_most (next {p} {ps} e c) = omega (arith, end_byte e, cut_most c, length-append p.line (p.end ++ joined ps), length-append p.end (joined ps))

-- a text has no more lines than bytes
pub pieces_most : (text : List ℕ) → length (pieces text) ≤ length text
pieces_most text = omega (arith, cut_most (pieces_cut text), ap length (joined_is text))
