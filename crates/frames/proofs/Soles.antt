-- The public function's contract allows one result.
-- Assumes nothing.
use mathlib.Core.Path.{refl}
use Rattle.laws.proofs.Sole.{Sole, alike}
use Rattle.frames.specs.contracts.answer_frames as answer_frames

pub answer_frames_sole : Sole answer_frames.ended (λ M 𝓤. answer_frames.clauses)
answer_frames_sole = record { says = _; is = λ M 𝓤 𝓛 m n κs a g r e. refl; one = λ κs a r r' ws ws' p q. (alike p.0 q.0, λ i. (tt, (tt, (alike p.1 q.1 i, (tt, tt))))) }
