-- `frames::accepted` meets its contract: it tells first whether the commands are all there, then whether their frames have room.
-- Assumes nothing.
use native.Mathlib.Omega.{arith}
use Rattle.rules.specs.Frames.{frames_in}
use Rattle.frames.proofs.Command.{commands_there, commands_short, no_frame, no_room, has_room}
use Rattle.frames.proofs.accepted.Goals as goal

pub returns-then-out-many : goal.returns-then-out-many
returns-then-out-many c =
    no_frame c.args.text.now c.args.at (commands_short c.args.many c.args.out.now (omega arith))

pub returns-in_err-room : goal.returns-in_err-room
returns-in_err-room c =
    let f = frames_in c.args.many c.args.out.now in
    rw c.from_residual.ensures (no_room c.args.text.now c.args.at f (commands_there c.args.many c.args.out.now (omega arith)) (omega arith))

pub returns-then-room-size : goal.returns-then-room-size
returns-then-room-size c =
    let f = frames_in c.args.many c.args.out.now in
    no_room c.args.text.now c.args.at f (commands_there c.args.many c.args.out.now (omega arith)) (omega (arith, c.frames_size-size.ensures))

pub returns : goal.returns
returns c =
    let f = frames_in c.args.many c.args.out.now in
    has_room c.args.text.now c.args.at f (commands_there c.args.many c.args.out.now (omega arith)) (omega (arith, c.frames_size-size.ensures)) (omega (arith, c.frames_size-size.ensures)) c.put_frames.ensures
