-- Each public function's contract allows one result.
-- Assumes nothing.
use mathlib.Core.Path.{refl}
use Rattle.laws.proofs.Sole.{Sole, alike}
use Rattle.texts.proofs.Rightness.{model, model_tells}
use Rattle.index.specs.contracts.find as find
use Rattle.index.specs.contracts.building.build as build
use Rattle.index.specs.contracts.replacing.replace as replace

pub find_sole : Sole find.ended (λ M 𝓤. find.clauses)
find_sole = record { says = _; is = λ M 𝓤 𝓛 m n κs a g r e. refl; one = λ κs a r r' ws ws' p q. (alike p q, refl) }

pub build_sole : Sole build.ended (λ M 𝓤. build.clauses)
build_sole = record {
  says = _;
  is = λ M 𝓤 𝓛 m n κs a g r e. refl;
  one = λ κs a r r' ws ws' p q.
      let e = alike (p model model_tells) (q model model_tells) in
      (λ i. (e i).answer, λ i. (tt, ((e i).index, tt)));
}

pub replace_sole : Sole replace.ended (λ M 𝓤. replace.clauses)
replace_sole = record {
  says = _;
  is = λ M 𝓤 𝓛 m n κs a g r e. refl;
  one = λ κs a r r' ws ws' p q.
      let e = alike (p model model_tells) (q model model_tells) in
      (λ i. (e i).answer, λ i. ((e i).text, ((e i).index, (tt, (tt, (tt, tt))))));
}
