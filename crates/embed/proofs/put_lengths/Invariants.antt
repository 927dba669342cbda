-- What the loop of `embed::put_lengths` keeps: those passed are put.
-- Assumes nothing.
use Rattle.embed.proofs.Runs.{Putting}
use Rattle.embed.proofs.put_lengths.Given as goal

abbrev pub invariant-loop-i : goal.invariant-loop-i
invariant-loop-i g l = Putting g.row.N l.initial.rec l.at l.lengths l.rec l.i
