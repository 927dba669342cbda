use mathlib.Core.Path.{◌≡◌}
use Prim.Native.Nat.{◌≤◌}
use lib.ListN.{length}
use Rattle.reader.specs.Passage.{onward, left}
use Rattle.reader.proofs.passage.pass_from.Given as goal

abbrev pub invariant-loop-now : goal.invariant-loop-now
invariant-loop-now l = (onward l.text l.now ≡ onward l.text l.initial.now) × (l.now.at ≤ length l.text) × (l.now.brackets ≤ l.now.at)

abbrev pub decreases-loop-now : goal.decreases-loop-now
decreases-loop-now l = left l.text l.now
