-- `parameters::save::line_size` meets its contract: the digits, a blank, the number and a line feed.
-- Assumes nothing.
use Rattle.laws.proofs.Ints.{back}
use mathlib.Core.Path.{ap, ◌∙◌}
use native.Mathlib.Omega.{arith}
use borrow.Author.Rules.{rules}
use lib.IntN.{nat_abs}
use Rattle.rules.specs.Numbers.{minus}
use Rattle.parameters.proofs.Examples.{}
use Rattle.parameters.proofs.Saving.{number_of_holds, line_length, line_short, few_decimals}
use Rattle.parameters.proofs.save.line_size.Goals as goal

pub number_size-size-requires : goal.number_size-size-requires
number_size-size-requires c =
    (omega (arith, c.decimals-places.ensures, few_decimals c.stands_for.result), omega (arith, c.requires.1, c.size_of.ensures ∙ ap nat_abs (back c.args.amount (search rules))))

pub overflow_add-result-2 : goal.overflow_add-result-2
overflow_add-result-2 c = omega (arith, c.requires.0, c.digit_count.ensures.1, c.number_size-size.ensures.1)

pub overflow_add-result-3 : goal.overflow_add-result-3
overflow_add-result-3 c = omega (arith, c.requires.0, c.digit_count.ensures.1, c.number_size-size.ensures.1)

pub returns : goal.returns
returns c =
    let w = number_of_holds c.args.number c.args.amount (c.is_below_zero-negative.ensures ∙ ap minus (back c.args.amount (search rules))) (c.size_of.ensures ∙ ap nat_abs (back c.args.amount (search rules))) c.decimals-places.ensures c.stands_for.ensures in
    let l = line_length c.args.number c.args.amount w in
    (omega (arith, l, c.digit_count.ensures.0, c.number_size-size.ensures.0), omega (arith, l, c.digit_count.ensures.0, c.number_size-size.ensures.0, line_short c.args.number c.args.amount c.requires.0 c.requires.1))
