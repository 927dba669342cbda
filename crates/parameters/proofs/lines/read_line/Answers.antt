-- `parameters::lines::read_line` meets its contract: digits, blanks and a number, each where it stands.
-- Assumes nothing.
use mathlib.Core.Path.{sym, ◌∙◌}
use borrow.Author.Tests.{eqb-true, eqb-false}
use Rattle.grammar.specs.Grammar.{digit}
use Rattle.grammar.specs.Derivation.{blank}
use Rattle.parameters.proofs.Cutting.{run_front, run_behind}
use Rattle.parameters.proofs.Lining.{line_no_number, line_no_blank, line_no_value, line_said}
use Rattle.parameters.proofs.lines.read_line.Goals as goal

pub returns-then-is_empty : goal.returns-then-is_empty
returns-then-is_empty c =
    line_no_number c.args.line.now c.args.least (c.split_at.ensures.front ∙ run_front digit c.args.line.now c.front_digits.ensures) (c.split_at.ensures.back ∙ run_behind digit c.args.line.now c.front_digits.ensures) (c.split_at-2.ensures.front ∙ run_front blank c.split_at.result.1.now c.front_blanks.ensures) (c.split_at-2.ensures.back ∙ run_behind blank c.split_at.result.1.now c.front_blanks.ensures)
    (eqb-true _ 0 (sym c.is_empty.ensures ∙ c.if-is_empty.true))

pub returns-then-is_empty-2 : goal.returns-then-is_empty-2
returns-then-is_empty-2 c =
    line_no_blank c.args.line.now c.args.least (c.split_at.ensures.front ∙ run_front digit c.args.line.now c.front_digits.ensures) (c.split_at.ensures.back ∙ run_behind digit c.args.line.now c.front_digits.ensures) (c.split_at-2.ensures.front ∙ run_front blank c.split_at.result.1.now c.front_blanks.ensures) (c.split_at-2.ensures.back ∙ run_behind blank c.split_at.result.1.now c.front_blanks.ensures)
    (eqb-true _ 0 (sym c.is_empty-2.ensures ∙ c.if-is_empty-2.true))

pub returns-in-Some : goal.returns-in-Some
returns-in-Some c =
    line_said c.args.line.now c.args.least (c.split_at.ensures.front ∙ run_front digit c.args.line.now c.front_digits.ensures) (c.split_at.ensures.back ∙ run_behind digit c.args.line.now c.front_digits.ensures) (c.split_at-2.ensures.front ∙ run_front blank c.split_at.result.1.now c.front_blanks.ensures) (c.split_at-2.ensures.back ∙ run_behind blank c.split_at.result.1.now c.front_blanks.ensures)
    c.judged.result (eqb-false _ 0 (sym c.is_empty.ensures ∙ c.if-is_empty.false)) (eqb-false _ 0 (sym c.is_empty-2.ensures ∙ c.if-is_empty-2.false)) c.in-Some.ensures c.worth.ensures c.judged.ensures

pub returns-in-None : goal.returns-in-None
returns-in-None c =
    line_no_value c.args.line.now c.args.least (c.split_at.ensures.front ∙ run_front digit c.args.line.now c.front_digits.ensures) (c.split_at.ensures.back ∙ run_behind digit c.args.line.now c.front_digits.ensures) (c.split_at-2.ensures.front ∙ run_front blank c.split_at.result.1.now c.front_blanks.ensures) (c.split_at-2.ensures.back ∙ run_behind blank c.split_at.result.1.now c.front_blanks.ensures)
    c.in-None.ensures
