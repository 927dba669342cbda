-- `run::feed` meets its contract: from line to line, what is left of the piece comes to the same.
-- Assumes nothing.
use mathlib.Core.Path.{◌≡◌}
use Prim.Native.Nat.{◌-◌, ◌≤◌}
use lib.ListN.{length}
use Rattle.run.specs.Lending.{standing, Keeps}
use Rattle.run.specs.Promised.{Goes}
use Rattle.run.proofs.feed.Given as goal

abbrev pub invariant-loop-taken : goal.invariant-loop-taken
invariant-loop-taken l = record {
  within : l.taken ≤ length l.piece;
  long : length l.line ≡ length l.initial.line;
  held : l.now.held ≤ length l.line;
  keeps : Keeps l.initial.lent l.lent;
  goes : Goes l.piece 0 (standing l.initial.now l.initial.line l.initial.lent) l.taken (standing l.now l.line l.lent);
}

abbrev pub decreases-loop-taken : goal.decreases-loop-taken
decreases-loop-taken l = length l.piece - l.taken
