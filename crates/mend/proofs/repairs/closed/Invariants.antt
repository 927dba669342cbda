-- `mend::repairs::closed` meets its contract: what is asked from i on, with e open, is what was asked.
-- Assumes nothing.
use mathlib.Core.Path.{◌≡◌}
use Prim.Native.Nat.{◌≤◌}
use lib.ListN.{drop}
use Rattle.mend.specs.Repairs.{closed}
use Rattle.mend.proofs.repairs.closed.Given as goal

abbrev pub invariant-loop-i : goal.invariant-loop-i
invariant-loop-i l = (l.e ≤ l.i) × (closed l.e (drop l.i l.line) ≡ closed l.d (drop l.from l.line))
