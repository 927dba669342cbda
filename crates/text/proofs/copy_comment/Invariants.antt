use mathlib.Core.Bool.{true}
use Prim.Native.Nat.{◌-◌}
use lib.ListN.{length}
use Rattle.text.proofs.Preparing.{Copying}
use Rattle.text.proofs.copy_comment.Given as goal

abbrev pub invariant-loop-i : goal.invariant-loop-i
invariant-loop-i l = Copying l.line l.initial.text l.text l.to l.at l.n l.i true

abbrev pub decreases-loop-i : goal.decreases-loop-i
decreases-loop-i l = length l.line - l.i
