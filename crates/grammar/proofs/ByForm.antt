-- Whoever reads as the model does has answered by form; and an answer by form is the only one.
use mathlib.Core.Path.{◌≡◌, ap, ◌∙◌, sym}
use mathlib.Core.Bool.{false}
use mathlib.Core.List.{List}
use mathlib.Core.Option.{Option, none, some}
use mathlib.Core.Logic.{⊎_elim}
use Prim.Native.Nat.{ℕ, ◌-◌}
use lib.ListN.{length}
use Rattle.grammar.specs.Grammar.{Line}
use Rattle.grammar.specs.Derivation.{strip, Derives, Place, Form, derived, breaks_at, ByForm}
use Rattle.grammar.specs.Working.{Arithmetic, Took, line_entries}
use Rattle.grammar.proofs.Read.{Read, fail, map_r, parse}
use Rattle.grammar.proofs.Terms.{Pass}
use Rattle.grammar.proofs.OnePass.{calc_line, line_same}
use Rattle.grammar.proofs.Place.{Placed, wrong, found, place}
use Rattle.grammar.proofs.Items.{line_p}
use Rattle.grammar.proofs.Derivations.{found as finds, missed, decided, reads}
use Rattle.grammar.specs.Typed.{typed_from}
use Rattle.grammar.proofs.Stuck.{stuck, stuck_at, none_fails, breaks, place_one}

-- the form of a line as the model reader finds it
abbrev pub form_by : Option Line → ℕ → Form Line
form_by (some t) n = derived t
form_by none n = breaks_at n

abbrev pub form_of : List ℕ → Form Line
form_of s = form_by (parse (strip s)) (stuck_at s)

pub form_tree : {t : Line} {s : List ℕ} → Derives t s → form_of s ≡ derived t
form_tree {t} {s} d = ap (λ (o : Option Line). form_by o (stuck_at s)) (finds d)

pub form_place : {s : List ℕ} → ((t : Line) → ¬ Derives t s) → (n : ℕ) → Place s n → form_of s ≡ breaks_at n
form_place {s} h n p = ap (λ (o : Option Line). form_by o (stuck_at s)) (missed h) ∙ ap breaks_at (place_one (breaks s h) p)

module _ {A : Type 0} {s : List ℕ} {answer : Form Line → A} where
  -- the answer for what the model reader finds is by form
  pub by_form : {a : A} → a ≡ answer (form_of s) → ByForm s answer a
  by_form e = record { by_tree = λ t d. e ∙ ap answer (form_tree d); by_place = λ h n p. e ∙ ap answer (form_place h n p) }

  -- and whatever is by form is that answer
  pub by_model : {a : A} → ByForm s answer a → a ≡ answer (form_of s)
  by_model p =
      ⊎_elim (λ w. p.by_tree w.0 w.1 ∙ ap answer (sym (form_tree w.1))) (λ h. p.by_place h (stuck_at s) (breaks s h) ∙ ap answer (sym (form_place h (stuck_at s) (breaks s h)))) (decided s)

  -- two answers by form are equal
  pub by_form_sole : {a b : A} → ByForm s answer a → ByForm s answer b → a ≡ b
  by_form_sole p q = by_model p ∙ sym (by_model q)

-- an answer for what a derivation's entries are, or for a place
abbrev pub by_line : {W E X : Type 0} → Arithmetic W E → (ℕ → X) → (Took E → X) → Form Line → X
by_line A wrong_at right (derived t) = right (line_entries A t)
by_line A wrong_at right (breaks_at n) = wrong_at n

-- what the pass over a prepared line makes of it, by any k that carries the place back to the typed line, is by form
module _ {W E S X : Type 0} {A : Arithmetic W E} (P : Pass A S) (s : List ℕ) (wrong_at : ℕ → X) (right : Took E → X) (k : Placed (Took E) → X)
    (r : (t : Took E) (p : ℕ) → k (found t p) ≡ right t) (w : (p : ℕ) → k (wrong p) ≡ wrong_at (typed_from false s p)) where
  pub by_pass : {a : X} → a ≡ k (line_p P (strip s)) → ByForm s (by_line A wrong_at right) a
  unfolding line_p stuck
  by_pass {a} e = record {
    by_tree = λ t d. e ∙ ap (λ (m : Read (Took E)). k (place (strip s) m)) (reads P d) ∙ r (line_entries A t) (length (strip s) - 0);
    by_place = λ h n p.
        let f = none_fails s h in
        let stops : calc_line P (strip s) ≡ fail f.0 = line_same P (strip s) ∙ ap (map_r (line_entries A)) f.1 in
        let at : length (strip s) - length f.0 ≡ stuck (strip s) = rw f.1 in
        e ∙ ap (λ (m : Read (Took E)). k (place (strip s) m)) stops ∙ w (length (strip s) - length f.0) ∙ ap (λ (p : ℕ). wrong_at (typed_from false s p)) at ∙ ap wrong_at (place_one (breaks s h) p);
  }
