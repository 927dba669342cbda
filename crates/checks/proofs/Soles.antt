-- Each public function's contract allows one result.
-- Assumes nothing.
use mathlib.Core.Path.{refl}
use Rattle.laws.proofs.Sole.{Sole, alike}
use Rattle.checks.specs.contracts.marks.plane_axes as plane_axes
use Rattle.checks.specs.contracts.marks.moves as moves
use Rattle.checks.specs.contracts.marks.claims_axes as claims_axes
use Rattle.checks.specs.contracts.marks.moving_code as moving_code
use Rattle.checks.specs.contracts.marks.arc_move as arc_move
use Rattle.checks.specs.contracts.marks.ends as ends
use Rattle.checks.specs.contracts.words.early as early
use Rattle.checks.specs.contracts.mode.wrong_mode as wrong_mode

pub plane_axes_sole : Sole plane_axes.ended (λ M 𝓤. plane_axes.clauses)
plane_axes_sole = record { says = _; is = λ M 𝓤 𝓛 mem run κs a ghost r e. refl; one = λ κs a r r' ws ws' p q. (alike p q, refl) }

pub moves_sole : Sole moves.ended (λ M 𝓤. moves.clauses)
moves_sole = record { says = _; is = λ M 𝓤 𝓛 mem run κs a ghost r e. refl; one = λ κs a r r' ws ws' p q. (alike p q, refl) }

pub arc_move_sole : Sole arc_move.ended (λ M 𝓤. arc_move.clauses)
arc_move_sole = record { says = _; is = λ M 𝓤 𝓛 mem run κs a ghost r e. refl; one = λ κs a r r' ws ws' p q. (alike p q, refl) }

pub ends_sole : Sole ends.ended (λ M 𝓤. ends.clauses)
ends_sole = record { says = _; is = λ M 𝓤 𝓛 mem run κs a ghost r e. refl; one = λ κs a r r' ws ws' p q. (alike p q, refl) }

pub early_sole : Sole early.ended (λ M 𝓤. early.clauses)
early_sole = record { says = _; is = λ M 𝓤 𝓛 mem run κs a ghost r e. refl; one = λ κs a r r' ws ws' p q. (alike p q, refl) }

pub wrong_mode_sole : Sole wrong_mode.ended (λ M 𝓤. wrong_mode.clauses)
wrong_mode_sole = record { says = _; is = λ M 𝓤 𝓛 mem run κs a ghost r e. refl; one = λ κs a r r' ws ws' p q. (alike p q, refl) }

pub claims_axes_sole : Sole claims_axes.ended (λ M 𝓤. claims_axes.clauses)
claims_axes_sole = record { says = _; is = λ M 𝓤 𝓛 mem run κs a ghost r e. refl; one = λ κs a r r' ws ws' p q. (alike p q, refl) }

pub moving_code_sole : Sole moving_code.ended (λ M 𝓤. moving_code.clauses)
moving_code_sole = record { says = _; is = λ M 𝓤 𝓛 mem run κs a ghost r e. refl; one = λ κs a r r' ws ws' p q. (alike p q, refl) }
