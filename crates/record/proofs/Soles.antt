-- Each public function's contract allows one result.
-- Assumes nothing.
use mathlib.Core.Path.{refl}
use Rattle.laws.proofs.Sole.{Sole, alike}
use Rattle.record.specs.contracts.fresh as fresh
use Rattle.record.specs.contracts.in_order as in_order
use Rattle.record.specs.contracts.in_reach as in_reach

pub fresh_sole : Sole fresh.ended (λ M 𝓤. fresh.clauses)
fresh_sole = record { says = _; is = λ M 𝓤 𝓛 mem run κs a ghost r e. refl; one = λ κs a r r' ws ws' p q. (alike p q, refl) }

pub in_order_sole : Sole in_order.ended (λ M 𝓤. in_order.clauses)
in_order_sole = record { says = _; is = λ M 𝓤 𝓛 mem run κs a ghost r e. refl; one = λ κs a r r' ws ws' p q. (alike p q, refl) }

pub in_reach_sole : Sole in_reach.ended (λ M 𝓤. in_reach.clauses)
in_reach_sole = record { says = _; is = λ M 𝓤 𝓛 mem run κs a ghost r e. refl; one = λ κs a r r' ws ws' p q. (alike p q, refl) }
