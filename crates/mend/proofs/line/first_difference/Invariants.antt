-- `mend::line::first_difference` meets its contract: what differs from i on is what differs.
-- Assumes nothing.
use mathlib.Core.Path.{◌≡◌}
use Prim.Native.Nat.{◌+◌}
use lib.ListN.{drop}
use Rattle.mend.specs.Mend.{differs}
use Rattle.mend.proofs.line.first_difference.Given as goal

abbrev pub invariant-loop-i : goal.invariant-loop-i
invariant-loop-i l = differs (l.i + 1) (drop l.i l.a) (drop l.i l.b) ≡ differs 1 l.a l.b
