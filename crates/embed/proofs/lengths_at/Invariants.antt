-- What the loop of `embed::lengths_at` keeps: those passed are the lengths that the numbers stand for.
-- Assumes nothing.
use Rattle.embed.proofs.Runs.{Reading}
use Rattle.embed.proofs.lengths_at.Given as goal

abbrev pub invariant-loop-i : goal.invariant-loop-i
invariant-loop-i g l = Reading g.row.N l.rec l.at l.amount-items l.i
