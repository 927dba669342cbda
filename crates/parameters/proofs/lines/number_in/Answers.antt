-- `parameters::lines::number_in` meets its contract: by what stands behind the sign and the digits.
-- Assumes nothing.
use mathlib.Core.Path.{refl, ◌∙◌}
use Rattle.grammar.specs.Grammar.{digit}
use Rattle.parameters.proofs.Cutting.{run_front, run_behind}
use Rattle.parameters.proofs.Lining.{number_trailing, number_there}
use Rattle.parameters.proofs.lines.number_in.Goals as goal

pub returns-in_err-decimals : goal.returns-in_err-decimals
returns-in_err-decimals c =
    rw c.from_residual.ensures
    (number_trailing c.args.text.now c.sign_of-negative.ensures (c.split_at.ensures.front ∙ run_front digit c.sign_of-negative.result.behind.now c.front_digits.ensures) (c.split_at.ensures.back ∙ run_behind digit c.sign_of-negative.result.behind.now c.front_digits.ensures) c.in_err-decimals.ensures)

pub returns : goal.returns
returns c =
    number_there c.args.text.now c.sign_of-negative.ensures (c.split_at.ensures.front ∙ run_front digit c.sign_of-negative.result.behind.now c.front_digits.ensures) (c.split_at.ensures.back ∙ run_behind digit c.sign_of-negative.result.behind.now c.front_digits.ensures) c.in_ok-decimals.ensures c.if-whole-decimals-eq0.false refl refl c.trimmed.ensures
