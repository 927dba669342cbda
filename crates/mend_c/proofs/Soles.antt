-- The exported function's contract allows one result.
-- Assumes nothing.
use mathlib.Core.Path.{refl}
use Rattle.laws.proofs.Sole.{Sole, alike}
use Rattle.texts.proofs.Rightness.{model, model_tells}
use Rattle.mend.specs.Text.{Told}
use Rattle.mend_c.specs.declared.Tally.{Tally}
use Rattle.mend_c.specs.contracts.rs274_mend as rs274_mend

-- the struct that has these numbers
abbrev of_told : Told → Tally
of_told t = record { number = t.number; filled = t.filled; lines = t.lines; listed = t.listed }

pub rs274_mend_sole : Sole rs274_mend.ended (λ M 𝓤. rs274_mend.clauses)
rs274_mend_sole = record {
  says = _;
  is = λ M 𝓤 𝓛 m n κs a g r e. refl;
  one = λ κs a r r' ws ws' p q.
      let e = alike (p model model_tells) (q model model_tells) in
      (λ i. of_told (e i).tally, λ i. (tt, ((e i).out, ((e i).list, tt))));
}
