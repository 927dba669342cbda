-- What the loop of `parameters::accepted::Lines::value` keeps: the lines that are passed do not say the number, nor any behind it.
-- Assumes nothing.
use lib.ListN.{length}
use Rattle.parameters.specs.Told.{Remains}
use Rattle.parameters.proofs.accepted.Lines.value.Given as goal

abbrev pub invariant-loop-line : goal.invariant-loop-line
invariant-loop-line l = Remains l.initial.self.rest.now l.self.rest.now l.number

abbrev pub decreases-loop-line : goal.decreases-loop-line
decreases-loop-line l = length l.self.rest.now
