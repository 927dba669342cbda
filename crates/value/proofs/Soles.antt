-- Each public function's contract allows one result.
-- Assumes nothing.
use mathlib.Core.Path.{refl}
use Rattle.laws.proofs.Sole.{Sole, alike}
use Rattle.value.specs.contracts.parameter as parameter
use Rattle.value.specs.contracts.whole as whole
use Rattle.value.specs.contracts.tenth as tenth
use Rattle.value.specs.contracts.number as number
use Rattle.value.specs.contracts.is_below_zero as belowZero
use Rattle.value.specs.contracts.in_range as in_range
use Rattle.value.specs.contracts.signs.size_of as size_of
use Rattle.value.specs.contracts.signs.ranged_signed as rangedSigned
use Rattle.value.specs.contracts.rounding.rounded as rounded

pub parameter_sole : Sole parameter.ended (λ M 𝓤. parameter.clauses)
parameter_sole = record { says = _; is = λ M 𝓤 𝓛 m n κs a g r e. refl; one = λ κs a r r' ws ws' p q. (alike p q, refl) }

pub whole_sole : Sole whole.ended (λ M 𝓤. whole.clauses)
whole_sole = record { says = _; is = λ M 𝓤 𝓛 m n κs a g r e. refl; one = λ κs a r r' ws ws' p q. (alike p q, refl) }

pub tenth_sole : Sole tenth.ended (λ M 𝓤. tenth.clauses)
tenth_sole = record { says = _; is = λ M 𝓤 𝓛 m n κs a g r e. refl; one = λ κs a r r' ws ws' p q. (alike p q, refl) }

pub number_sole : Sole number.ended (λ M 𝓤. number.clauses)
number_sole = record { says = _; is = λ M 𝓤 𝓛 m n κs a g r e. refl; one = λ κs a r r' ws ws' p q. (alike p q, refl) }

pub is_below_zero_sole : Sole belowZero.ended (λ M 𝓤. belowZero.clauses)
is_below_zero_sole = record { says = _; is = λ M 𝓤 𝓛 m n κs a g r e. refl; one = λ κs a r r' ws ws' p q. (alike p q, refl) }

pub in_range_sole : Sole in_range.ended (λ M 𝓤. in_range.clauses)
in_range_sole = record { says = _; is = λ M 𝓤 𝓛 m n κs a g r e. refl; one = λ κs a r r' ws ws' p q. (alike p q, refl) }

pub size_of_sole : Sole size_of.ended (λ M 𝓤. size_of.clauses)
size_of_sole = record { says = _; is = λ M 𝓤 𝓛 m n κs a g r e. refl; one = λ κs a r r' ws ws' p q. (alike p q, refl) }

pub ranged_signed_sole : Sole rangedSigned.ended (λ M 𝓤. rangedSigned.clauses)
ranged_signed_sole = record { says = _; is = λ M 𝓤 𝓛 m n κs a g r e. refl; one = λ κs a r r' ws ws' p q. (alike p q, refl) }

pub rounded_sole : Sole rounded.ended (λ M 𝓤. rounded.clauses)
rounded_sole = record { says = _; is = λ M 𝓤 𝓛 m n κs a g r e. refl; one = λ κs a r r' ws ws' p q. (alike p q, refl) }
