-- `parameters::load::first_refused` meets its contract: line after line is judged.
-- Assumes nothing.
use Rattle.parameters.proofs.Going.{judge_on, judge_refused, judge_end}
use Rattle.parameters.proofs.load.first_refused.Goals as goal

pub returns-in-Err : goal.returns-in-Err
returns-in-Err c = judge_refused c.loop-front.invariant c.in-Some.ensures c.in-Err.why c.in-Err.ensures

pub loop-front-preserved : goal.loop-front-preserved
loop-front-preserved c = judge_on c.loop-front.invariant c.in-Some.ensures c.in-Ok.ensures

pub returns : goal.returns
returns c = judge_end c.loop-front.invariant c.in_default.ensures
