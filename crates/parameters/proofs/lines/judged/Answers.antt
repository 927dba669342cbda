-- `parameters::lines::judged` meets its contract: by the line's number, and by its value where that is judged.
-- Assumes nothing.
use mathlib.Core.Path.{ap}
use Rattle.std.proofs.Common.{rules}
use Rattle.std.proofs.lemmas.Result.{err_from_is_err_and}
use Rattle.laws.proofs.Ints.{back}
use Rattle.parameters.specs.Places.{judged}
use Rattle.parameters.proofs.Lining.{judged_but, said_21, said_22, said_passed, said_unfit, said_value}
use Rattle.parameters.proofs.lines.judged.Goals as goal

pub returns-then-number-least : goal.returns-then-number-least
returns-then-number-least c = λ e q x. said_21 c.args.least c.requires e q c.if-number-least.true

pub returns-then-number-lt1 : goal.returns-then-number-lt1
returns-then-number-lt1 c = λ e q x. said_22 c.args.least c.requires e q c.if-number-least.false c.then-number-lt1.either

pub returns-in_err-value-in_default : goal.returns-in_err-value-in_default
returns-in_err-value-in_default c = λ e q x.
    let p = err_from_is_err_and c.from_residual.result c.from_residual.ensures.1 in
    rw (p.1, p.2) (said_unfit c.args.least c.requires e q c.if-number-least.false c.if-number-lt1.false c.if-number-gt5399.false c.stands_for.ensures (judged_but c.stands_for.result c.in_default.not-Passed) (c.in_err-value-in_default.ensures e.value x))

pub returns-in-Passed : goal.returns-in-Passed
returns-in-Passed c = λ e q x. said_passed c.args.least c.requires e q c.if-number-least.false c.if-number-lt1.false c.if-number-gt5399.false c.stands_for.ensures (ap judged c.in-Passed.is) _

pub returns-in_ok-value-in_default : goal.returns-in_ok-value-in_default
returns-in_ok-value-in_default c = λ e q x.
    rw (back c.in_ok-value-in_default.value (record { sfits = search rules })) (said_value c.args.least c.requires e q c.if-number-least.false c.if-number-lt1.false c.if-number-gt5399.false c.stands_for.ensures (judged_but c.stands_for.result c.in_default.not-Passed) c.in_ok-value-in_default.value (c.in_ok-value-in_default.ensures e.value x))
