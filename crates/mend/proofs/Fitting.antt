-- A text's mended bytes counted line by line.
-- Assumes nothing.
use mathlib.Core.Path.{◌≡◌, refl, sym, ◌∙◌}
use mathlib.Core.Bool.{Bool, true, false}
use mathlib.Core.List.{List, [], ◌∷◌, ◌++◌}
use Prim.Native.Nat.{ℕ, ◌+◌, ◌-◌, ◌≤◌, ◌<◌}
use native.Mathlib.Omega.{arith}
use borrow.Author.Tests.{leb-true, leb-false, le-leb, lt-leb}
use lib.Dec.{leb}
use lib.ListN.{length, length-append}
use Rattle.grammar.specs.Grammar.{Line}
use Rattle.grammar.specs.Derivation.{Form}
use Rattle.texts.specs.Form.{Tells}
use Rattle.texts.specs.Ends.{Piece, pieces, joined}
use Rattle.mend.specs.Mend.{mend, mend_pieces, mend_text}
use Rattle.mend.specs.Text.{Long, Fitting}

-- so far the bytes of the lines before those that are left are taken from the room
abbrev pub Still : List ℕ → ℕ → List Piece → ℕ → Type 0
Still text room ps left = (tree : List ℕ → Form Line) → Tells tree → leb (length (joined (mend_pieces tree ps))) left ≡ leb (length (mend_text tree text)) room

pub none_taken : (text : List ℕ) (room : ℕ) → Still text room (pieces text) room
unfolding mend_text
none_taken text room tree told = refl

pub all_fit : (text : List ℕ) (room left : ℕ) → Still text room [] left → Fitting text room true
all_fit text room left k tree told = sym (le-leb 0 left (omega arith)) ∙ k tree told

-- ---- the next line
module _ (p : Piece) (ps : List Piece) where
  pub first_long : (tree : List ℕ → Form Line)
      → length (joined (mend_pieces tree (p ∷ ps))) ≡ length (mend tree p.line).line + (length p.end + length (joined (mend_pieces tree ps)))
  first_long tree =
      let l = (mend tree p.line).line in
      let m = joined (mend_pieces tree ps) in
      omega (arith, length-append l (p.end ++ m), length-append p.end m)

  module _ (text : List ℕ) (room left n : ℕ) (k : Still text room (p ∷ ps) left) (l : Long p.line n) where
    pub too_long : left < n + length p.end → Fitting text room false
    too_long q tree told = sym (lt-leb (length (joined (mend_pieces tree (p ∷ ps)))) left (omega (arith, first_long tree, l tree told))) ∙ k tree told

    pub goes_on : n + length p.end ≤ left → Still text room ps (left - n - length p.end)
    goes_on q tree told = by (leb (length (joined (mend_pieces tree (p ∷ ps)))) left) refl ∙ k tree told
      where
        by : (t : Bool) → leb (length (joined (mend_pieces tree (p ∷ ps)))) left ≡ t
            → leb (length (joined (mend_pieces tree ps))) (left - n - length p.end) ≡ leb (length (joined (mend_pieces tree (p ∷ ps)))) left
        by true e =
            let a = leb-true (length (joined (mend_pieces tree (p ∷ ps)))) left e in
            le-leb (length (joined (mend_pieces tree ps))) (left - n - length p.end) (omega (arith, first_long tree, l tree told)) ∙ sym e
        by false e =
            let a = leb-false (length (joined (mend_pieces tree (p ∷ ps)))) left e in
            lt-leb (length (joined (mend_pieces tree ps))) (left - n - length p.end) (omega (arith, first_long tree, l tree told)) ∙ sym e
