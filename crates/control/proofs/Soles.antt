-- Each public function's contract, the promise, allows one result.
-- Assumes nothing.
use mathlib.Core.Path.{refl, ap, sym, ◌∙◌}
use Rattle.laws.proofs.Sole.{Sole}
use Rattle.grammar.proofs.ByForm.{by_form_sole}
use Rattle.rules.specs.Promise.{After}
use Rattle.control.specs.contracts.interpret as interpret
use Rattle.control.specs.contracts.interpret_in as interpretIn
use Rattle.control.specs.contracts.step as step
use Rattle.control.specs.contracts.work as work

pub interpret_sole : Sole interpret.ended (λ M 𝓤. interpret.clauses)
interpret_sole = record {
  says = _;
  is = λ M 𝓤 𝓛 mem run κs a ghost r e. refl;
  one = λ κs a r r' ws ws' p q. let e = by_form_sole p q in (λ i. record { outcome = (e i).outcome; work = (e i).work; place = (e i).place }, λ i. (tt, (tt, (tt, ((e i).table, ((e i).out, tt))))));
}

pub interpret_in_sole : Sole interpretIn.ended (λ M 𝓤. interpretIn.clauses)
interpret_in_sole = record {
  says = _;
  is = λ M 𝓤 𝓛 mem run κs a ghost r e. refl;
  one = λ κs a r r' ws ws' p q.
      let e = by_form_sole p.0 q.0 in
      let l = by_form_sole p.1 q.1 in
      (λ i. record { outcome = (e i).outcome; work = (e i).work; place = (e i).place }, λ i. (tt, (tt, (tt, ((e i).table, ((e i).out, (l i, tt)))))));
}

pub step_sole : Sole step.ended (λ M 𝓤. step.clauses)
step_sole = record {
  says = _;
  is = λ M 𝓤 𝓛 mem run κs a ghost r e. refl;
  one = λ κs a r r' ws ws' p q.
      let e = by_form_sole p.0 q.0 in
      let h = p.1 ∙ ap (λ (x : After). x.outcome.rec) e ∙ sym q.1 in
      (λ i. record { outcome = (e i).outcome; work = (e i).work; place = (e i).place }, λ i. (tt, (tt, (h i, ((e i).table, ((e i).out, tt))))));
}

pub work_sole : Sole work.ended (λ M 𝓤. work.clauses)
work_sole = record {
  says = _;
  is = λ M 𝓤 𝓛 mem run κs a ghost r e. refl;
  one = λ κs a r r' ws ws' p q. let e = by_form_sole p q in (λ i. record { outcome = (e i).outcome; work = (e i).work; place = (e i).place }, λ i. (tt, (tt, (tt, ((e i).table, ((e i).out, tt))))));
}
