-- The exported function's contract allows one result.
-- Assumes nothing.
use mathlib.Core.Path.{refl}
use Rattle.laws.proofs.Sole.{Sole}
use Rattle.grammar.proofs.ByForm.{by_form_sole}
use Rattle.panel.specs.contracts.rs274_form as rs274Form

pub rs274_form_sole : Sole rs274Form.ended (λ M 𝓤. rs274Form.clauses)
rs274_form_sole = record { says = _; is = λ M 𝓤 𝓛 m n κs a g r e. refl; one = λ κs a r r' ws ws' p q. (by_form_sole p q, refl) }
