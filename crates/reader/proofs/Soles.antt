-- Each public function's contract allows one result.
-- Assumes nothing.
use mathlib.Core.Path.{refl}
use Rattle.laws.proofs.Sole.{Sole, alike}
use Rattle.grammar.proofs.ByForm.{by_form_sole}
use Rattle.reader.proofs.Demand3.{reads_one}
use Rattle.reader.specs.contracts.line.read as read
use Rattle.reader.specs.contracts.line.form as form
use Rattle.reader.specs.contracts.label.line_number as line_number
use Rattle.reader.specs.contracts.spaces.Spaces.new as new_spaces

pub read_sole : Sole read.ended (λ M 𝓤. read.clauses)
read_sole = record {
  says = _;
  is = λ M 𝓤 𝓛 m n κs a g r e. refl;
  one = λ κs a r r' ws ws' p q.
      let e = reads_one p q in
      (λ i. (e i).answer, λ i. (tt, (tt, ((e i).lent, tt))));
}

pub form_sole : Sole form.ended (λ M 𝓤. form.clauses)
form_sole = record { says = _; is = λ M 𝓤 𝓛 m n κs a g r e. refl; one = λ κs a r r' ws ws' p q. (by_form_sole p q, refl) }

pub line_number_sole : Sole line_number.ended (λ M 𝓤. line_number.clauses)
line_number_sole = record { says = _; is = λ M 𝓤 𝓛 m n κs a g r e. refl; one = λ κs a r r' ws ws' p q. (by_form_sole p q, refl) }

pub new_spaces_sole : Sole new_spaces.ended (λ M 𝓤. new_spaces.clauses)
new_spaces_sole = record { says = _; is = λ M 𝓤 𝓛 m n κs a g r e. refl; one = λ κs a r r' ws ws' p q. (alike p q, refl) }
