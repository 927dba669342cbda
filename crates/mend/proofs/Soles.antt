-- Each public function's contract allows one result.
-- Assumes nothing.
use mathlib.Core.Path.{◌≡◌, refl, ap}
use Prim.Native.Nat.{ℕ}
use native.Mathlib.Omega.{arith}
use Rattle.std.specs.Prelude.{Result, Ok, Err}
use Rattle.laws.proofs.Sole.{Sole, alike}
use Rattle.texts.proofs.Rightness.{model, model_tells}
use Rattle.mend.specs.Text.{Told, told}
use Rattle.mend.specs.declared.line.NoSpace.{NoSpace}
use Rattle.mend.specs.declared.whole.Tally.{Tally}
use Rattle.mend.specs.contracts.cutting.ended_lines as ended_lines
use Rattle.mend.specs.contracts.line.mend_line as mend_line
use Rattle.mend.specs.contracts.whole.mend as mend

pub ended_lines_sole : Sole ended_lines.ended (λ M 𝓤. ended_lines.clauses)
ended_lines_sole = record { says = _; is = λ M 𝓤 𝓛 m n κs a g r e. refl; one = λ κs a r r' ws ws' p q. (alike p q, refl) }

pub mend_line_sole : Sole mend_line.ended (λ M 𝓤. mend_line.clauses)
mend_line_sole = record {
  says = _;
  is = λ M 𝓤 𝓛 m n κs a g r e. refl;
  one = λ κs a r r' ws ws' p q.
      let e = alike (p model model_tells) (q model model_tells) in
      (λ i. (e i).answer, λ i. (tt, ((e i).out, tt)));
}

-- no two answers tell the same
told_only : (r r' : Result Tally NoSpace) → told r ≡ told r' → r ≡ r'
told_only (Ok t) (Ok u) e = λ i. Ok (record { filled = (e i).filled; lines = (e i).lines; listed = (e i).listed })
told_only (Ok t) (Err d) e = let z : ◌≡◌ {A = ℕ} 0 40 = ap (λ (x : Told). x.number) e in absurd (omega arith)
told_only (Err d) (Ok t) e = let z : ◌≡◌ {A = ℕ} 40 0 = ap (λ (x : Told). x.number) e in absurd (omega arith)
told_only (Err d) (Err d') e = refl

pub mend_sole : Sole mend.ended (λ M 𝓤. mend.clauses)
mend_sole = record {
  says = _;
  is = λ M 𝓤 𝓛 m n κs a g r e. refl;
  one = λ κs a r r' ws ws' p q.
      let e = alike (p model model_tells) (q model model_tells) in
      (told_only r r' (λ i. (e i).tally), λ i. (tt, ((e i).out, ((e i).list, tt))));
}
