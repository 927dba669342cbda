-- Each public function's contract allows one result.
-- Assumes nothing.
use mathlib.Core.Path.{refl}
use Rattle.laws.proofs.Sole.{Sole, alike}
use Rattle.texts.specs.contracts.without_return as without_return
use Rattle.texts.specs.contracts.line_at as line_at

pub without_return_sole : Sole without_return.ended (λ M 𝓤. without_return.clauses)
without_return_sole = record { says = _; is = λ M 𝓤 𝓛 m n κs a g r e. refl; one = λ κs a r r' ws ws' p q. (alike p q, refl) }

pub line_at_sole : Sole line_at.ended (λ M 𝓤. line_at.clauses)
line_at_sole = record { says = _; is = λ M 𝓤 𝓛 m n κs a g r e. refl; one = λ κs a r r' ws ws' p q. (alike p q, refl) }
