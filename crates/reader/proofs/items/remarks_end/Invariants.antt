use lib.ListN.{length}
use Prim.Native.Nat.{◌-◌, ◌≤◌}
use Rattle.reader.specs.Places.{remarks_end}
use mathlib.Core.Path.{◌≡◌}
use Rattle.reader.proofs.items.remarks_end.Given as goal

abbrev pub invariant-loop-i : goal.invariant-loop-i
invariant-loop-i l = (remarks_end l.text l.i ≡ remarks_end l.text l.at) × (l.i ≤ length l.text)

abbrev pub decreases-loop-i : goal.decreases-loop-i
decreases-loop-i l = length l.text - l.i
