-- `parameters::save::put_line` meets its contract: the digits, a blank, the number and a line feed, one behind the other.
-- Assumes nothing.
use Rattle.laws.proofs.Ints.{back}
use mathlib.Core.Path.{refl, ap, ◌∙◌}
use native.Mathlib.Omega.{arith}
use borrow.Author.Rules.{rules}
use lib.IntN.{nat_abs}
use lib.ListN.{length-set}
use Rattle.rules.specs.Numbers.{minus}
use Rattle.parameters.proofs.Examples.{}
use Rattle.parameters.proofs.Saving.{number_of_holds, line_length, line_put}
use Rattle.parameters.proofs.save.put_line.Goals as goal

pub put_whole-space-requires : goal.put_whole-space-requires
put_whole-space-requires c = omega (arith, c.requires, line_length c.args.number c.args.amount refl)

pub bounds-out-space : goal.bounds-out-space
bounds-out-space c = omega (arith, c.requires, line_length c.args.number c.args.amount refl, c.put_whole-space.ensures.0)

pub overflow_add-space : goal.overflow_add-space
overflow_add-space c = omega (arith, c.requires, line_length c.args.number c.args.amount refl, c.put_whole-space.ensures.0)

pub put_number-end-requires : goal.put_number-end-requires
put_number-end-requires c =
    let w = number_of_holds c.args.number c.args.amount (c.is_below_zero-negative.ensures ∙ ap minus (back c.args.amount (search rules))) (c.size_of.ensures ∙ ap nat_abs (back c.args.amount (search rules))) c.decimals-places.ensures c.stands_for.ensures in
    simp length-set (omega (arith, c.requires, line_length c.args.number c.args.amount w, c.put_whole-space.ensures.0))

pub bounds-out-end : goal.bounds-out-end
bounds-out-end c =
    let w = number_of_holds c.args.number c.args.amount (c.is_below_zero-negative.ensures ∙ ap minus (back c.args.amount (search rules))) (c.size_of.ensures ∙ ap nat_abs (back c.args.amount (search rules))) c.decimals-places.ensures c.stands_for.ensures in
    omega (arith, c.requires, line_length c.args.number c.args.amount w, c.put_whole-space.ensures.0, c.put_number-end.ensures.0, length-set c.put_whole-space.new.text c.put_whole-space.result 32)

pub overflow_add-result : goal.overflow_add-result
overflow_add-result c =
    let w = number_of_holds c.args.number c.args.amount (c.is_below_zero-negative.ensures ∙ ap minus (back c.args.amount (search rules))) (c.size_of.ensures ∙ ap nat_abs (back c.args.amount (search rules))) c.decimals-places.ensures c.stands_for.ensures in
    omega (arith, c.requires, line_length c.args.number c.args.amount w, c.put_whole-space.ensures.0, c.put_number-end.ensures.0)

pub returns : goal.returns
returns c =
    let w = number_of_holds c.args.number c.args.amount (c.is_below_zero-negative.ensures ∙ ap minus (back c.args.amount (search rules))) (c.size_of.ensures ∙ ap nat_abs (back c.args.amount (search rules))) c.decimals-places.ensures c.stands_for.ensures in
    line_put c.args.out.now c.args.at c.args.number c.args.amount w c.put_whole-space.ensures.0 c.put_whole-space.ensures.1 c.put_number-end.ensures.0 c.put_number-end.ensures.1
