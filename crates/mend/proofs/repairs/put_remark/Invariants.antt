-- `mend::repairs::put_remark` meets its contract: the bytes put before i and those left behind it are the line with its remark.
-- Assumes nothing.
use mathlib.Core.Path.{◌≡◌}
use mathlib.Core.List.{◌++◌}
use Prim.Native.Nat.{◌≤◌}
use lib.ListN.{length, take, drop}
use Rattle.mend.specs.Places.{remark_bytes}
use Rattle.mend.proofs.repairs.put_remark.Given as goal

abbrev pub invariant-loop-i : goal.invariant-loop-i
invariant-loop-i l = (l.i ≤ length l.line) × (length l.out ≡ length l.initial.out) × (take l.i l.out ++ remark_bytes l.at l.i (drop l.i l.line) ≡ remark_bytes l.at 0 l.line)
