-- Each public function's contract allows one result.
-- Assumes nothing.
use mathlib.Core.Path.{refl}
use Rattle.laws.proofs.Sole.{Sole, alike}
use Rattle.orders.specs.contracts.orders_of as orders_of
use Rattle.orders.specs.contracts.spindle_of as spindle_of
use Rattle.orders.specs.contracts.straight as straight
use Rattle.orders.specs.contracts.arc as arc
use Rattle.orders.specs.contracts.write as write

pub orders_of_sole : Sole orders_of.ended (λ M 𝓤. orders_of.clauses)
orders_of_sole = record { says = _; is = λ M 𝓤 𝓛 mem run κs a ghost r e. refl; one = λ κs a r r' ws ws' p q. (alike p q, refl) }

pub spindle_of_sole : Sole spindle_of.ended (λ M 𝓤. spindle_of.clauses)
spindle_of_sole = record { says = _; is = λ M 𝓤 𝓛 mem run κs a ghost r e. refl; one = λ κs a r r' ws ws' p q. (alike p q, refl) }

pub straight_sole : Sole straight.ended (λ M 𝓤. straight.clauses)
straight_sole = record { says = _; is = λ M 𝓤 𝓛 mem run κs a ghost r e. refl; one = λ κs a r r' ws ws' p q. (alike p q, refl) }

pub arc_sole : Sole arc.ended (λ M 𝓤. arc.clauses)
arc_sole = record { says = _; is = λ M 𝓤 𝓛 mem run κs a ghost r e. refl; one = λ κs a r r' ws ws' p q. (alike p q, refl) }

pub write_sole : Sole write.ended (λ M 𝓤. write.clauses)
write_sole = record { says = _; is = λ M 𝓤 𝓛 mem run κs a ghost r e. refl; one = λ κs a r r' ws ws' p q. (alike p.0 q.0, λ i. (tt, (alike p.1 q.1 i, tt))) }
