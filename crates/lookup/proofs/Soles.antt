-- Each public function's contract allows one result.
-- Assumes nothing.
use mathlib.Core.Path.{refl, sym, ◌∙◌}
use Rattle.laws.proofs.Sole.{Sole, alike}
use Rattle.texts.proofs.Rightness.{model, model_tells}
use Rattle.lookup.specs.Plain.{answered}
use Rattle.lookup.specs.contracts.rs274_index_build as build
use Rattle.lookup.specs.contracts.rs274_index_find as find
use Rattle.lookup.specs.contracts.rs274_index_replace as replace

pub build_sole : Sole build.ended (λ M 𝓤. build.clauses)
build_sole = record {
  says = _;
  is = λ M 𝓤 𝓛 m n κs a g r e. refl;
  one = λ κs a r r' ws ws' p q.
      let e = alike (p.builds model model_tells) (q.builds model model_tells) in
      (p.is ∙ (λ i. answered (e i).answer) ∙ sym q.is, λ i. (tt, ((e i).index, tt)));
}

pub find_sole : Sole find.ended (λ M 𝓤. find.clauses)
find_sole = record { says = _; is = λ M 𝓤 𝓛 m n κs a g r e. refl; one = λ κs a r r' ws ws' p q. (alike p q, refl) }

pub replace_sole : Sole replace.ended (λ M 𝓤. replace.clauses)
replace_sole = record {
  says = _;
  is = λ M 𝓤 𝓛 m n κs a g r e. refl;
  one = λ κs a r r' ws ws' p q.
      let e = alike (p.replaces model model_tells) (q.replaces model model_tells) in
      (p.is ∙ (λ i. answered (e i).answer) ∙ sym q.is, λ i. ((e i).text, ((e i).index, (tt, (tt, (tt, tt))))));
}
