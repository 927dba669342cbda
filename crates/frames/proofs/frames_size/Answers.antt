-- `frames::frames_size` meets its contract: after k turns it is the length of the first k frames.
-- Assumes nothing.
use mathlib.Core.Path.{ap}
use Prim.Native.Nat.{◌*◌}
use native.Mathlib.Omega.{arith}
use lib.ListN.{length, length-append, drop}
use Rattle.rules.specs.Frames.{frame, frames_in}
use Rattle.frames.proofs.Command.{frames_more}
use Rattle.frames.proofs.frames_size.Goals as goal

pub loop-k-preserved : goal.loop-k-preserved
loop-k-preserved c =
    let more = ap length (frames_more c.loop-k.k c.args.out.now) in
    (omega arith, omega (arith, more, length-append (frames_in c.loop-k.k c.args.out.now) (frame (drop (8 * c.loop-k.k) c.args.out.now)), c.frame_size-size.ensures.0, c.loop-k.invariant.1), omega arith)
