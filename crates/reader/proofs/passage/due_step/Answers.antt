use mathlib.Core.Path.{◌≡◌, sym, ◌∙◌}
use mathlib.Core.Logic.{⊎_elim}
use Rattle.std.specs.Prelude.{Err}
use Rattle.std.proofs.Common.{rules}
use Rattle.reader.proofs.Evaluating.{placed}
use Rattle.reader.proofs.Skimming.{step_number, step_no_number, step_parameter, step_bracket, step_function, step_no_opening}
use Rattle.reader.proofs.passage.due_step.Goals as goal

pub returns-in_err-next : goal.returns-in_err-next
returns-in_err-next c =
    let z : c.from_residual.result ≡ Err c.in_err-next.field-0.0 = search rules in
    rw z (step_no_number c.args.text.now c.args.at c.args.brackets c.requires.at_in_bounds c.requires.brackets_le_at (sym c.opens_number.ensures ∙ c.if-opens_number.true) (sym c.in_err-next.was ∙ c.number_at.ensures))

pub returns-then-opens_number : goal.returns-then-opens_number
returns-then-opens_number c = step_number c.args.text.now c.args.at c.args.brackets c.requires.at_in_bounds c.requires.brackets_le_at (sym c.opens_number.ensures ∙ c.if-opens_number.true) (sym c.in_ok-next.was ∙ c.number_at.ensures)

pub returns-in_err-opening : goal.returns-in_err-opening
returns-in_err-opening c =
    let z : c.from_residual-in_err-opening.result ≡ Err c.in_err-opening.field-0.0 = search rules in
    rw z (step_no_opening c.args.text.now c.args.at c.args.brackets c.requires.at_in_bounds c.requires.brackets_le_at (sym c.opens_number.ensures ∙ c.if-opens_number.false) (sym c.in_err-opening.was ∙ c.opening_at.ensures))

pub returns-in-Parameter : goal.returns-in-Parameter
returns-in-Parameter c = step_parameter c.args.text.now c.args.at c.args.brackets c.requires.at_in_bounds c.requires.brackets_le_at (sym c.opens_number.ensures ∙ c.if-opens_number.false) (placed c.in_ok-opening.was c.in-Parameter.is c.opening_at.ensures)

pub returns-in-Bracket : goal.returns-in-Bracket
returns-in-Bracket c =
    let o = sym c.opens_number.ensures ∙ c.if-opens_number.false in
    ⊎_elim
    (λ e. step_bracket c.args.text.now c.args.at c.args.brackets c.requires.at_in_bounds c.requires.brackets_le_at o (placed c.in_ok-opening.was e c.opening_at.ensures))
    (λ e. step_function c.args.text.now c.args.at c.args.brackets c.requires.at_in_bounds c.requires.brackets_le_at o (placed c.in_ok-opening.was e.1 c.opening_at.ensures))
    c.in-Bracket.is
