-- `run::work` meets its contract.
-- Assumes nothing.
use mathlib.Core.Path.{◌∙◌}
use Rattle.rules.specs.Promise.{after}
use Rattle.run.specs.Stands.{going}
use Rattle.run.specs.Lending.{standing}
use Rattle.run.proofs.Branches.{line_leaves, line_works}
use Rattle.run.proofs.work.Goals as goal

pub returns-clause-works : goal.returns-clause-works
returns-clause-works c = λ space tree tells.
    let st = standing (going c.args.rec 0) space c.args.lent.now in
    let a = after c.interpret_in-report.result c.interpret_in-report.new.table c.interpret_in-report.new.out in
    line_leaves st a c.answer_frames-put.ensures.0 c.answer_frames-put.ensures.1 c.ends.ensures c.unwrap_or-lent.ensures
    ∙ line_works c.args.line.now st a c.interpret_in-report.ensures.0 tree tells
