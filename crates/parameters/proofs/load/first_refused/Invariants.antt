-- What the loop of `parameters::load::first_refused` keeps: the lines of the rest are refused as the text is.
-- Assumes nothing.
use lib.ListN.{length}
use Rattle.parameters.proofs.Going.{Judging}
use Rattle.parameters.proofs.load.first_refused.Given as goal

abbrev pub invariant-loop-front : goal.invariant-loop-front
invariant-loop-front l = Judging l.text l.rest l.least l.line

abbrev pub decreases-loop-front : goal.decreases-loop-front
decreases-loop-front l = length l.rest
