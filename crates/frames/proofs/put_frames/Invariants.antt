-- `frames::put_frames` meets its contract: after k turns the first k frames stand.
-- Assumes nothing.
use mathlib.Core.Path.{◌≡◌}
use Prim.Native.Nat.{◌+◌, ◌≤◌}
use lib.ListN.{length}
use lib.Seq.{sets}
use Rattle.rules.specs.Frames.{frames_in}
use Rattle.frames.proofs.put_frames.Given as goal

abbrev pub invariant-loop-k : goal.invariant-loop-k
invariant-loop-k l = (l.k ≤ l.many) × (length l.text ≡ length l.initial.text) × (l.to ≡ l.at + length (frames_in l.k l.out)) × (l.text ≡ sets l.initial.text l.at (frames_in l.k l.out))
