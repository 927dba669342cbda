-- `panel::rs274_form` meets its contract: what the reader says of the form, in C's two numbers.
-- Assumes nothing.
use mathlib.Core.Path.{◌≡◌, ap, ◌∙◌}
use mathlib.Core.List.{List}
use Prim.Native.Nat.{ℕ}
use Rattle.std.specs.Prelude.{Result}
use Rattle.grammar.specs.Grammar.{Line}
use Rattle.grammar.specs.Derivation.{Form, derived, breaks_at}
use Rattle.rules.specs.Promise.{panel, panel_place}
use Rattle.reader.specs.declared.answer.FormError.{FormError}
use Rattle.reader.specs.Reading.{form_answer, form_number, form_place}
use Rattle.reader.proofs.LineRead.{form_number_is, form_place_is}
use Rattle.panel.specs.declared.Rs274FormAnswer.{Rs274FormAnswer}
use Rattle.panel.proofs.rs274_form.Goals as goal

abbrev as_numbers : Result (Unit {0}) FormError → Rs274FormAnswer
as_numbers a = record { number = form_number a; place = form_place a }

alike : (line : List ℕ) (f : Form Line) → ◌≡◌ {A = Rs274FormAnswer} (as_numbers (form_answer line f)) (record { number = panel line f; place = panel_place line f })
alike line f = λ i. record { number = form_number_is line f i; place = form_place_is line f i }

pub returns : goal.returns
returns c = record {
  by_tree = λ t d. c.told.ensures ∙ ap as_numbers (c.form.ensures.by_tree t d) ∙ alike c.args.line.now (derived t);
  by_place = λ h n w. c.told.ensures ∙ ap as_numbers (c.form.ensures.by_place h n w) ∙ alike c.args.line.now (breaks_at n);
}
