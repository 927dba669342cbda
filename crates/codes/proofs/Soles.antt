-- Each public function's contract allows one result.
-- Assumes nothing.
use mathlib.Core.Path.{refl}
use Rattle.laws.proofs.Sole.{Sole, alike}
use Rattle.codes.specs.contracts.g_table.g_group as g_group
use Rattle.codes.specs.contracts.modes.modes_served as modesServed
use Rattle.codes.specs.contracts.m_ranges.m_group as m_group
use Rattle.codes.specs.contracts.system_number as system_number
use Rattle.codes.specs.contracts.g_code as g_code
use Rattle.codes.specs.contracts.m_code as m_code

pub g_group_sole : Sole g_group.ended (λ M 𝓤. g_group.clauses)
g_group_sole = record { says = _; is = λ M 𝓤 𝓛 mem run κs a ghost r e. refl; one = λ κs a r r' ws ws' p q. (alike p q, refl) }

pub modes_served_sole : Sole modesServed.ended (λ M 𝓤. modesServed.clauses)
modes_served_sole = record { says = _; is = λ M 𝓤 𝓛 mem run κs a ghost r e. refl; one = λ κs a r r' ws ws' p q. (alike p q, refl) }

pub m_group_sole : Sole m_group.ended (λ M 𝓤. m_group.clauses)
m_group_sole = record { says = _; is = λ M 𝓤 𝓛 mem run κs a ghost r e. refl; one = λ κs a r r' ws ws' p q. (alike p q, refl) }

pub system_number_sole : Sole system_number.ended (λ M 𝓤. system_number.clauses)
system_number_sole = record { says = _; is = λ M 𝓤 𝓛 mem run κs a ghost r e. refl; one = λ κs a r r' ws ws' p q. (alike p q, refl) }

pub g_code_sole : Sole g_code.ended (λ M 𝓤. g_code.clauses)
g_code_sole = record { says = _; is = λ M 𝓤 𝓛 mem run κs a ghost r e. refl; one = λ κs a r r' ws ws' p q. (alike p q, refl) }

pub m_code_sole : Sole m_code.ended (λ M 𝓤. m_code.clauses)
m_code_sole = record { says = _; is = λ M 𝓤 𝓛 mem run κs a ghost r e. refl; one = λ κs a r r' ws ws' p q. (alike p q, refl) }
