-- `frames::frames_size` meets its contract: after k turns it is the length of the first k frames.
-- Assumes nothing.
use mathlib.Core.Path.{◌≡◌}
use Prim.Native.Nat.{◌*◌, ◌≤◌}
use lib.ListN.{length}
use Rattle.rules.specs.Frames.{frames_in}
use Rattle.frames.proofs.frames_size.Given as goal

abbrev pub invariant-loop-k : goal.invariant-loop-k
invariant-loop-k l = (l.k ≤ l.many) × (l.size ≡ length (frames_in l.k l.out)) × (l.size ≤ 73 * l.k)
