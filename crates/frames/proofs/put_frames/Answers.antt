-- `frames::put_frames` meets its contract: after k turns the first k frames stand.
-- Assumes nothing.
use mathlib.Core.Path.{ap}
use Prim.Native.Nat.{◌+◌, ◌*◌}
use native.Mathlib.Omega.{arith}
use lib.ListN.{length, length-append, drop}
use Rattle.rules.specs.Frames.{frame, frames_in}
use Rattle.frames.proofs.Command.{frames_more, frames_grow, frame_added}
use Rattle.frames.proofs.put_frames.Goals as goal

pub put_frame-to-requires : goal.put_frame-to-requires
put_frame-to-requires c =
    let more = ap length (frames_more c.loop-k.k c.args.out.now) in
    omega (arith, more, length-append (frames_in c.loop-k.k c.args.out.now) (frame (drop (8 * c.loop-k.k) c.args.out.now)), frames_grow (c.loop-k.k + 1) c.args.many c.args.out.now (omega arith), c.loop-k.invariant.2)

pub loop-k-preserved : goal.loop-k-preserved
loop-k-preserved c =
    let added = frame_added c.args.text.now c.args.out.now c.args.at c.loop-k.k c.loop-k.invariant.2 c.loop-k.invariant.3 c.put_frame-to.ensures.0 c.put_frame-to.ensures.1 in
    (omega arith, omega arith, added.0, added.1)
