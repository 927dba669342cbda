-- `mend::repairs::remark_at` meets its contract: the first remark from i on is the one asked for.
-- Assumes nothing.
use mathlib.Core.Path.{◌≡◌}
use Prim.Native.Nat.{◌≤◌}
use lib.ListN.{drop}
use Rattle.mend.specs.Places.{remark_place}
use Rattle.mend.proofs.repairs.remark_at.Given as goal

abbrev pub invariant-loop-i : goal.invariant-loop-i
invariant-loop-i l = (l.d ≤ l.i) × (remark_place l.d l.i (drop l.i l.line) ≡ remark_place 0 0 l.line)
