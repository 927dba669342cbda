-- Each public function's contract allows one result.
-- Assumes nothing.
use mathlib.Core.Path.{refl}
use Rattle.laws.proofs.Sole.{Sole, alike}
use Rattle.arcs.specs.contracts.starts_at_centre as startsAtCentre
use Rattle.arcs.specs.contracts.radii_unequal as radiiUnequal
use Rattle.arcs.specs.contracts.slack as slack

pub starts_at_centre_sole : Sole startsAtCentre.ended (λ M 𝓤. startsAtCentre.clauses)
starts_at_centre_sole = record { says = _; is = λ M 𝓤 𝓛 mem run κs a ghost r e. refl; one = λ κs a r r' ws ws' p q. (alike p q, refl) }

pub radii_unequal_sole : Sole radiiUnequal.ended (λ M 𝓤. radiiUnequal.clauses)
radii_unequal_sole = record { says = _; is = λ M 𝓤 𝓛 mem run κs a ghost r e. refl; one = λ κs a r r' ws ws' p q. (alike p q, refl) }

pub slack_sole : Sole slack.ended (λ M 𝓤. slack.clauses)
slack_sole = record { says = _; is = λ M 𝓤 𝓛 mem run κs a ghost r e. refl; one = λ κs a r r' ws ws' p q. (alike p q, refl) }
