use mathlib.Core.Path.{◌≡◌, sym, ◌∙◌}
use Rattle.std.specs.Prelude.{Err}
use Rattle.std.proofs.Common.{rules}
use Rattle.reader.proofs.Evaluating.{placed}
use Rattle.reader.proofs.Skimming.{step_close, step_operator, step_no_following}
use Rattle.reader.proofs.passage.done_step.Goals as goal

pub returns-in_err-following : goal.returns-in_err-following
returns-in_err-following c =
    let z : c.from_residual.result ≡ Err c.in_err-following.field-0.0 = search rules in
    rw z (step_no_following c.args.text.now c.args.at c.args.brackets c.requires.at_in_bounds c.requires.brackets_le_at c.requires.open (sym c.in_err-following.was ∙ c.following_at.ensures))

pub returns-in-Close : goal.returns-in-Close
returns-in-Close c = step_close c.args.text.now c.args.at c.args.brackets c.requires.at_in_bounds c.requires.brackets_le_at c.requires.open (placed c.in_ok-following.was c.in-Close.is c.following_at.ensures)

pub returns-in-Operator : goal.returns-in-Operator
returns-in-Operator c = step_operator c.args.text.now c.args.at c.args.brackets c.requires.at_in_bounds c.requires.brackets_le_at c.requires.open (placed c.in_ok-following.was c.in-Operator.is c.following_at.ensures)
