-- The number that the reader tells of a line is the number that the line bears.
-- Assumes nothing.
use mathlib.Core.Path.{◌≡◌, refl, sym, ◌∙◌}
use mathlib.Core.List.{List}
use mathlib.Core.Logic.{◌⊎◌, inl, inr}
use Prim.Native.Nat.{ℕ, ◌≤◌, ◌<◌}
use native.Mathlib.Omega.{arith}
use native.Mathlib.Decide.{dec_lt}
use borrow.Author.Tests.{lt-ltb, le-ltb, le-leb, lt-leb}
use lib.ListN.{length}
use Rattle.grammar.specs.Grammar.{Line, line, unlabelled, label}
use Rattle.grammar.specs.Derivation.{Derives, Form, derived, ByForm}
use Rattle.grammar.proofs.Derivations.{decided}
use Rattle.grammar.proofs.Stuck.{stuck_at, breaks}
use Rattle.reader.specs.Number.{tree_number, number_on}
use Rattle.std.specs.Prelude.{Option, None}
use Rattle.texts.specs.Form.{Tells, right}
use Rattle.index.specs.Index.{labelled, borne}

tree_number_holds : (t : Line) → tree_number t ≡ labelled (derived t)
tree_number_holds (line m unlabelled is) = refl
tree_number_holds (line m (label ds) is) = refl

module _ {tree : List ℕ → Form Line} (told : Tells tree) {s : List ℕ} {r : Option ℕ} (q : ByForm s (number_on s) r) where
  by_tree_holds : (t : Line) → Derives t s → Dec (256 < length s) → r ≡ borne tree s
  unfolding number_on borne right
  by_tree_holds t d (yes h) =
      let e : r ≡ None = q.by_tree t d ∙ rw (lt-ltb 256 (length s) h) in
      e ∙ sym (rw ((told s).by_tree t d, lt-leb (length s) 256 h))
  by_tree_holds t d (no h) =
      let k : length s ≤ 256 = omega arith in
      let e : r ≡ tree_number t = q.by_tree t d ∙ rw (le-ltb 256 (length s) k) in
      e ∙ tree_number_holds t ∙ sym (rw ((told s).by_tree t d, le-leb (length s) 256 k))

  pub borne_read : r ≡ borne tree s
  unfolding number_on borne right
  borne_read = go (decided s)
    where
      go : ((t : Line) × Derives t s) ⊎ ((t : Line) → ¬ Derives t s) → r ≡ borne tree s
      go (inl w) = by_tree_holds w.0 w.1 (dec_lt 256 (length s))
      go (inr n) = q.by_place n (stuck_at s) (breaks s n) ∙ sym (rw ((told s).by_place n (stuck_at s) (breaks s n)))
