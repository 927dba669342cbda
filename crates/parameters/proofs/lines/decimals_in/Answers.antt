-- `parameters::lines::decimals_in` meets its contract: by the first byte, and by what stands behind the digits.
-- Assumes nothing.
use mathlib.Core.Path.{◌≡◌, sym, ◌∙◌}
use lib.ListN.{get_or}
use borrow.Author.Tests.{eqb-true, eqb-false}
use Rattle.std.proofs.Common.{rules}
use Rattle.grammar.specs.Grammar.{digit}
use Rattle.parameters.proofs.Cutting.{run_front, run_behind, tail, point_alone, point_trailed}
use Rattle.parameters.proofs.lines.decimals_in.Goals as goal

pub returns-then-is_empty : goal.returns-then-is_empty
returns-then-is_empty c =
    let dot : get_or c.args.text.now 0 0 ≡ 46 = search rules in
    point_alone c.args.text.now c.in-46.len_at_least dot (c.split_at.ensures.front ∙ run_front digit (tail c.args.text.now) c.front_digits.ensures) (c.split_at.ensures.back ∙ run_behind digit (tail c.args.text.now) c.front_digits.ensures) (eqb-true _ 0 (sym c.is_empty.ensures ∙ c.if-is_empty.true))

pub returns-else-is_empty : goal.returns-else-is_empty
returns-else-is_empty c =
    let dot : get_or c.args.text.now 0 0 ≡ 46 = search rules in
    point_trailed c.args.text.now c.in-46.len_at_least dot (c.split_at.ensures.front ∙ run_front digit (tail c.args.text.now) c.front_digits.ensures) (c.split_at.ensures.back ∙ run_behind digit (tail c.args.text.now) c.front_digits.ensures) (eqb-false _ 0 (sym c.is_empty.ensures ∙ c.if-is_empty.false))
