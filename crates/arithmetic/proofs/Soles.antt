-- Each public function's contract allows one result.
-- Assumes nothing.
use mathlib.Core.Path.{refl}
use Rattle.laws.proofs.Sole.{Sole, alike}
use Rattle.arithmetic.specs.contracts.work as work
use Rattle.arithmetic.specs.contracts.apply as apply
use Rattle.arithmetic.specs.contracts.lookup as lookup

pub work_sole : Sole work.ended (λ M 𝓤. work.clauses)
work_sole = record { says = _; is = λ M 𝓤 𝓛 m n κs a g r e. refl; one = λ κs a r r' ws ws' p q. (alike p q, refl) }

pub apply_sole : Sole apply.ended (λ M 𝓤. apply.clauses)
apply_sole = record { says = _; is = λ M 𝓤 𝓛 m n κs a g r e. refl; one = λ κs a r r' ws ws' p q. (alike p q, refl) }

pub lookup_sole : Sole lookup.ended (λ M 𝓤. lookup.clauses)
lookup_sole = record { says = _; is = λ M 𝓤 𝓛 m n κs a g r e. refl; one = λ κs a r r' ws ws' p q. (alike p q, refl) }
