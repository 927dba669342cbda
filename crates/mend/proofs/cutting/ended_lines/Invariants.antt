-- `mend::cutting::ended_lines` meets its contract: the last line feed before i is the one asked for.
-- Assumes nothing.
use mathlib.Core.Path.{◌≡◌}
use Prim.Native.Nat.{◌≤◌}
use lib.ListN.{length}
use Rattle.mend.specs.Joining.{ended_to, ended_lines}
use Rattle.mend.proofs.cutting.ended_lines.Given as goal

abbrev pub invariant-loop-i : goal.invariant-loop-i
invariant-loop-i l = (l.i ≤ length l.text) × (ended_to l.i l.text ≡ ended_lines l.text)
