-- Whether a new line may stand in the place of an old one: it is as long, and a search for a line feed or a carriage return finds none in it.
-- Assumes nothing.
use mathlib.Core.Path.{◌≡◌, refl, sym, ap, ◌∙◌}
use mathlib.Core.Bool.{Bool, true, false, cond, not, ◌||◌}
use mathlib.Core.List.{List, [], ◌∷◌}
use Rattle.std.specs.Prelude.{None, Some, slice_range}
use Rattle.std.specs.List.{list_any}
use Prim.Native.Nat.{ℕ, suc, ◌-◌}
use native.Mathlib.Decide.{ℕ_discrete}
use native.Mathlib.Omega.{arith}
use borrow.Author.Tests.{eq-eqb, ne_eqb}
use lib.Dec.{eqb}
use lib.ListN.{length}
use Rattle.grammar.specs.Bytes.{byte, among}
use Rattle.index.specs.Index.{UnfitLine, line_of}
use Rattle.index.specs.Lines.{LineAt, refusal_of}
use Rattle.index.specs.declared.lines.Line.{Line}
use Rattle.index.proofs.Walking.{part_long}

-- a line feed or a carriage return is in it
abbrev pub ending : List ℕ → Bool
ending l = among (byte "\n") l || among (byte "\r") l

eqb_swap : (a b : ℕ) → eqb a b ≡ eqb b a
eqb_swap a b = elim (ℕ_discrete a b) [
  | yes e ↦ (eq-eqb a b e ∙ sym (eq-eqb b a (sym e)))
  | no h ↦ (ne_eqb a b h ∙ sym (ne_eqb b a (λ e. h (sym e))))
]

pub among_is : (b : ℕ) (l : List ℕ) → list_any (λ y. eqb y b) l ≡ among b l
among_is b [] = refl
among_is b (x ∷ l) = rw (eqb_swap x b, among_is b l)

either_way : (x : Bool) → (x || true) ≡ true
either_way true = refl
either_way false = refl

module _ (text : List ℕ) (k : ℕ) (new : List ℕ) {l : Line} (w : LineAt text k l) where
  old : List ℕ
  old = slice_range text l.start l.end

  by_test : {t : Bool} → (not (eqb (length new) (length old)) || ending new) ≡ t → refusal_of new (line_of k text) ≡ cond t (Some UnfitLine) None
  unfolding old
  by_test e =
      let i : k ≡ suc (k - 1) = omega (arith, w.counts) in
      ap (refusal_of new) (ap (λ (x : ℕ). line_of x text) i ∙ w.line) ∙ ap (λ (x : Bool). cond x (Some UnfitLine) None) e

  long : length old ≡ l.end - l.start
  unfolding old
  long = part_long text l.start l.end (omega (arith, w.behind, w.within))

  pub unfit_length : (length new ≡ l.end - l.start → ⊥) → refusal_of new (line_of k text) ≡ Some UnfitLine
  unfit_length n = by_test (ap (λ (x : Bool). not x || ending new) (ne_eqb (length new) (length old) (λ e. n (e ∙ long))))

  pub unfit_ends : {t : Bool} → t ≡ ending new → t ≡ true → refusal_of new (line_of k text) ≡ Some UnfitLine
  unfit_ends e u = by_test (ap (λ (x : Bool). not (eqb (length new) (length old)) || x) (sym e ∙ u) ∙ either_way (not (eqb (length new) (length old))))

  pub fit_both : length new ≡ l.end - l.start → {t : Bool} → t ≡ ending new → t ≡ false → refusal_of new (line_of k text) ≡ None
  fit_both h e u = by_test (ap (λ (x : Bool). not x || ending new) (eq-eqb (length new) (length old) (h ∙ sym long)) ∙ (sym e ∙ u))
