-- Two results that one contract allows are equal.
-- Assumes nothing.
use mathlib.Core.Path.{refl}
use Rattle.laws.proofs.Sole.{Sole, alike}
use Rattle.block.specs.contracts.execute as execute

pub execute_sole : Sole execute.ended (λ M 𝓤. execute.clauses)
execute_sole = record { says = _; is = λ M 𝓤 𝓛 m n κs a g r e. refl; one = λ κs a r r' ws ws' p q. let d = alike p q in (λ i. (d i).outcome, λ i. (tt, (tt, (tt, (tt, ((d i).out, tt)))))) }
