use Prim.Native.Nat.{◌-◌}
use lib.ListN.{length}
use Rattle.reader.proofs.Gathering.{Checking}
use Rattle.reader.proofs.line.check_from.Given as goal

abbrev pub invariant-loop-i : goal.invariant-loop-i
invariant-loop-i l = Checking l.text l.at l.i

abbrev pub decreases-loop-i : goal.decreases-loop-i
decreases-loop-i l = length l.text - l.i
