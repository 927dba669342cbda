-- Each public function's contract allows one result.
-- Assumes nothing.
use mathlib.Core.Path.{refl}
use Rattle.laws.proofs.Sole.{Sole, alike}
use Rattle.text.specs.contracts.bytes.is_blank as isBlank
use Rattle.text.specs.contracts.bytes.is_digit as isDigit
use Rattle.text.specs.contracts.bytes.is_letter as isLetter
use Rattle.text.specs.contracts.prepare as prepare
use Rattle.text.specs.contracts.typed_place as typedPlace

pub prepare_sole : Sole prepare.ended (λ M 𝓤. prepare.clauses)
prepare_sole = record { says = _; is = λ M 𝓤 𝓛 mem run κs a ghost r e. refl; one = λ κs a r r' ws ws' p q. (alike p.0 q.0, λ i. (tt, (alike p.1 q.1 i, tt))) }

pub typed_place_sole : Sole typedPlace.ended (λ M 𝓤. typedPlace.clauses)
typed_place_sole = record { says = _; is = λ M 𝓤 𝓛 mem run κs a ghost r e. refl; one = λ κs a r r' ws ws' p q. (alike p q, refl) }

pub is_blank_sole : Sole isBlank.ended (λ M 𝓤. isBlank.clauses)
is_blank_sole = record { says = _; is = λ M 𝓤 𝓛 mem run κs a ghost r e. refl; one = λ κs a r r' ws ws' p q. (alike p q, refl) }

pub is_digit_sole : Sole isDigit.ended (λ M 𝓤. isDigit.clauses)
is_digit_sole = record { says = _; is = λ M 𝓤 𝓛 mem run κs a ghost r e. refl; one = λ κs a r r' ws ws' p q. (alike p q, refl) }

pub is_letter_sole : Sole isLetter.ended (λ M 𝓤. isLetter.clauses)
is_letter_sole = record { says = _; is = λ M 𝓤 𝓛 mem run κs a ghost r e. refl; one = λ κs a r r' ws ws' p q. (alike p q, refl) }
