use Rattle.text.specs.Prepare.{Done}
use mathlib.Core.Bool.{false}
use lib.ListN.{length}
use Prim.Native.Nat.{◌-◌}
use Rattle.text.proofs.prepare.Given as goal

abbrev pub invariant-loop-i : goal.invariant-loop-i
invariant-loop-i l = Done l.line l.initial.text l.text l.n l.i false

abbrev pub decreases-loop-i : goal.decreases-loop-i
decreases-loop-i l = length l.line - l.i
