use native.Mathlib.Omega.{arith}
use Rattle.reader.proofs.Evaluating.{ok_was}
use Rattle.reader.proofs.Beginning.{label_within}
use Rattle.reader.proofs.Labelling.{number_none, number_low, number_some}
use Rattle.reader.proofs.label.labelled.Goals as goal

pub returns-then-end-at : goal.returns-then-end-at
returns-then-end-at c = number_none c.args.text.now c.args.at c.requires (ok_was c.in_ok-end.was c.ok.ensures.value c.label_end.ensures) c.if-end-at.true

pub check_from-requires : goal.check_from-requires
check_from-requires c = (label_within c.args.text.now _ c.requires (ok_was c.in_ok-end.was c.ok.ensures.value c.label_end.ensures)).1

pub digits_from-digits-requires-clause-at_in_bounds : goal.digits_from-digits-requires-clause-at_in_bounds
digits_from-digits-requires-clause-at_in_bounds c = let z = label_within c.args.text.now _ c.requires (ok_was c.in_ok-end.was c.ok.ensures.value c.label_end.ensures) in omega (arith, c.if-end-at.false, z)

pub overflow_cast-result : goal.overflow_cast-result
overflow_cast-result c = omega (arith, number_low c.args.text.now c.args.at c.requires (ok_was c.in_ok-end.was c.ok.ensures.value c.label_end.ensures) c.if-end-at.false c.digits_from-digits.ensures)

pub returns : goal.returns
returns c = number_some c.args.text.now c.args.at c.requires (ok_was c.in_ok-end.was c.ok.ensures.value c.label_end.ensures) c.if-end-at.false c.digits_from-digits.ensures (ok_was c.in_ok-ok.was c.ok-2.ensures.value c.check_from.ensures)
