use mathlib.Core.Path.{sym, ◌∙◌}
use Rattle.reader.proofs.Numerals.{part_past, part_other, part_more}
use Rattle.reader.proofs.numbers.digits_before.Goals as goal

pub returns-then-not-is_digit : goal.returns-then-not-is_digit
returns-then-not-is_digit c = part_other c.args.text.now c.args.end c.requires.end_in_bounds c.args.at c.args.number c.loop-i.invariant c.loop-i-test.true (sym c.is_digit.ensures ∙ c.if-not-is_digit.true)

pub loop-i-preserved : goal.loop-i-preserved
loop-i-preserved c = part_more c.args.text.now c.args.end c.requires.end_in_bounds c.args.at c.args.number c.loop-i.invariant c.loop-i-test.true (sym c.is_digit.ensures ∙ c.if-not-is_digit.false) c.with_digit-n.ensures

pub returns : goal.returns
returns c = part_past c.args.text.now c.args.end c.requires.end_in_bounds c.args.at c.args.number c.loop-i.invariant c.loop-i-test.false
