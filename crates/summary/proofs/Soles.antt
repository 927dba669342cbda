-- Two results that one contract allows are equal.
-- Assumes nothing.
use mathlib.Core.Path.{refl}
use Rattle.laws.proofs.Sole.{Sole, alike}
use Rattle.summary.specs.contracts.summarize as summarize

pub summarize_sole : Sole summarize.ended (λ M 𝓤. summarize.clauses)
summarize_sole = record { says = _; is = λ M 𝓤 𝓛 mem run κs a ghost r e. refl; one = λ κs a r r' ws ws' p q. (alike p q, refl) }
