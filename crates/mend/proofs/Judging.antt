-- The form check tells whether a line is right.
-- Assumes nothing.
use mathlib.Core.Path.{◌≡◌, refl, sym, ap, ◌∙◌}
use mathlib.Core.Bool.{Bool, true, false, cond, ◌&&◌, and-false}
use mathlib.Core.List.{List}
use Prim.Native.Nat.{ℕ}
use borrow.Author.Tests.{ltb-true, ltb-false, le-leb, lt-leb}
use lib.Dec.{leb, ltb}
use lib.ListN.{length}
use Rattle.std.specs.Prelude.{Result, Ok, Err}
use Rattle.std.specs.Result.{is_ok}
use Rattle.grammar.specs.Grammar.{Line}
use Rattle.grammar.specs.Derivation.{Form, derived, breaks_at, ByForm}
use Rattle.grammar.proofs.ByForm.{by_model}
use Rattle.reader.specs.Reading.{formed, form_answer}
use Rattle.reader.specs.declared.answer.FormError.{FormError}
use Rattle.reader.specs.declared.answer.FormError.TheVariants.{TooLong}
use Rattle.texts.specs.Form.{Tells, is_derived, right}

-- the check lets a form pass where it is derived and the line is short enough
ok_right : (s : List ℕ) (o : Form Line) → is_ok (form_answer s o) ≡ (is_derived o && leb (length s) 256)
ok_right s o = go (ltb 256 (length s)) refl o
  where
    go : (t : Bool) → ltb 256 (length s) ≡ t → (o : Form Line) → is_ok (cond t (Err TooLong) (formed o)) ≡ (is_derived o && leb (length s) 256)
    go true e o = sym (rw (lt-leb (length s) 256 (ltb-true 256 (length s) e)) (and-false (is_derived o)))
    go false e (breaks_at n) = refl
    go false e (derived t) = sym (le-leb (length s) 256 (ltb-false 256 (length s) e))

-- the right lines pass, and no others
pub right_told : {tree : List ℕ → Form Line} → Tells tree → (s : List ℕ) (r : Result (Unit {0}) FormError) → ByForm s (form_answer s) r → is_ok r ≡ right tree s
unfolding right
right_told {tree} told s r f = ap is_ok (by_model f ∙ ap (form_answer s) (sym (by_model (told s)))) ∙ ok_right s (tree s)
