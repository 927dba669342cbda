-- Each public function's contract allows one result.
-- Assumes nothing.
use mathlib.Core.Path.{refl}
use Rattle.laws.proofs.Sole.{Sole, alike}
use Rattle.lengths.specs.contracts.convert as convert
use Rattle.lengths.specs.contracts.extent as extent
use Rattle.lengths.specs.contracts.is_zero_length as isZeroLength
use Rattle.lengths.specs.contracts.in_reach as in_reach
use Rattle.lengths.specs.contracts.add as add
use Rattle.lengths.specs.contracts.subtract as subtract

pub convert_sole : Sole convert.ended (λ M 𝓤. convert.clauses)
convert_sole = record { says = _; is = λ M 𝓤 𝓛 m n κs a g r e. refl; one = λ κs a r r' ws ws' p q. (alike p q, refl) }

pub extent_sole : Sole extent.ended (λ M 𝓤. extent.clauses)
extent_sole = record { says = _; is = λ M 𝓤 𝓛 m n κs a g r e. refl; one = λ κs a r r' ws ws' p q. (alike p q, refl) }

pub is_zero_length_sole : Sole isZeroLength.ended (λ M 𝓤. isZeroLength.clauses)
is_zero_length_sole = record { says = _; is = λ M 𝓤 𝓛 m n κs a g r e. refl; one = λ κs a r r' ws ws' p q. (alike p q, refl) }

pub in_reach_sole : Sole in_reach.ended (λ M 𝓤. in_reach.clauses)
in_reach_sole = record { says = _; is = λ M 𝓤 𝓛 m n κs a g r e. refl; one = λ κs a r r' ws ws' p q. (alike p q, refl) }

pub add_sole : Sole add.ended (λ M 𝓤. add.clauses)
add_sole = record { says = _; is = λ M 𝓤 𝓛 m n κs a g r e. refl; one = λ κs a r r' ws ws' p q. (alike p q, refl) }

pub subtract_sole : Sole subtract.ended (λ M 𝓤. subtract.clauses)
subtract_sole = record { says = _; is = λ M 𝓤 𝓛 m n κs a g r e. refl; one = λ κs a r r' ws ws' p q. (alike p q, refl) }
