-- `frames::refusal` meets its contract: the frame of a refusal is thirteen bytes long.
-- Assumes nothing.
use mathlib.Core.Path.{refl}
use native.Mathlib.Omega.{arith}
use Rattle.rules.specs.Frames.{refusal_frame}
use Rattle.frames.proofs.Command.{no_room, has_room}
use Rattle.frames.proofs.refusal.Goals as goal

pub returns-then-saturating_sub-lt13 : goal.returns-then-saturating_sub-lt13
unfolding refusal_frame
returns-then-saturating_sub-lt13 c =
    no_room c.args.text.now c.args.at (refusal_frame c.args.number) refl (omega arith)

pub returns : goal.returns
unfolding refusal_frame
returns c =
    has_room c.args.text.now c.args.at (refusal_frame c.args.number) refl (omega arith) (omega arith) c.put_refusal.ensures
