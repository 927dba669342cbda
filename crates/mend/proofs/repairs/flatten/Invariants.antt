-- `mend::repairs::flatten` meets its contract: what came out before i and what is left to do behind it are what is to come out, and it is known whether the outermost open comment ends.
-- Assumes nothing.
use mathlib.Core.Path.{◌≡◌}
use mathlib.Core.List.{◌++◌}
use Prim.Native.Nat.{◌≤◌}
use lib.ListN.{length, take, drop}
use Rattle.mend.specs.Repairs.{closed, flattened}
use Rattle.mend.proofs.repairs.flatten.Given as goal

abbrev pub invariant-loop-i : goal.invariant-loop-i
invariant-loop-i l = (l.d ≤ l.i) × (l.i ≤ length l.line) × (l.ends ≡ closed l.d (drop l.i l.line)) × (length l.line ≡ length l.initial.line) × (take l.i l.line ++ flattened l.d (drop l.i l.line) ≡ flattened 0 l.initial.line)
