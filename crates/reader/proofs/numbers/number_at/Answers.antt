use Rattle.reader.proofs.Numerals.{run_on, point_on, none_at_all, whole_number, point_alone, decimal_number, fine_number}
use native.Mathlib.Omega.{arith}
use mathlib.Core.Path.{sym, ◌∙◌}
use Rattle.reader.proofs.numbers.number_at.Goals as goal

pub returns-then-all-sign : goal.returns-then-all-sign
returns-then-all-sign c = point_alone c.args.text.now c.args.at c.sign_at-sign.ensures c.digits_from-whole.ensures (sym c.has_point.ensures ∙ c.if-has_point.true) c.digits_from-all.ensures c.if-all-sign.true

pub returns-then-all-decimals-gt4 : goal.returns-then-all-decimals-gt4
returns-then-all-decimals-gt4 c = fine_number c.args.text.now c.args.at c.sign_at-sign.ensures c.digits_from-whole.ensures (sym c.has_point.ensures ∙ c.if-has_point.true) c.digits_from-all.ensures c.if-all-sign.false c.if-all-decimals-gt4.true c.digits_from-again.ensures c.digits_before-five.ensures c.number.ensures

pub returns-then-has_point : goal.returns-then-has_point
returns-then-has_point c = decimal_number c.args.text.now c.args.at c.sign_at-sign.ensures c.digits_from-whole.ensures (sym c.has_point.ensures ∙ c.if-has_point.true) c.digits_from-all.ensures c.if-all-sign.false c.if-all-decimals-gt4.false c.number-then-has_point.ensures

pub returns-then-whole-sign : goal.returns-then-whole-sign
returns-then-whole-sign c = none_at_all c.args.text.now c.args.at c.sign_at-sign.ensures c.digits_from-whole.ensures (sym c.has_point.ensures ∙ c.if-has_point.false) c.if-whole-sign.true

pub returns : goal.returns
returns c = whole_number c.args.text.now c.args.at c.sign_at-sign.ensures c.digits_from-whole.ensures (sym c.has_point.ensures ∙ c.if-has_point.false) c.if-whole-sign.false c.number-2.ensures

pub digits_before-five-requires-clause-end_in_bounds : goal.digits_before-five-requires-clause-end_in_bounds
digits_before-five-requires-clause-end_in_bounds c = let k = run_on c.args.text.now _ _ (point_on c.args.text.now c.digits_from-whole.result.next (run_on c.args.text.now c.sign_at-sign.result.next 0 c.sign_at-sign.ensures.within c.digits_from-whole.ensures).1 (sym c.has_point.ensures ∙ c.if-has_point.true)) c.digits_from-all.ensures in omega (arith, k.1, c.if-all-decimals-gt4.true)
