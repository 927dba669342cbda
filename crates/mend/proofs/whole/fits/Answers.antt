-- `mend::whole::fits` meets its contract: at the beginning all lines are left, and all of the room.
-- Assumes nothing.
use Rattle.mend.proofs.Fitting.{none_taken}
use Rattle.mend.proofs.whole.fits.Goals as goal

pub loop-piece-init : goal.loop-piece-init
loop-piece-init c = record { can = tt; ends = tt; still = rw (c.into_iter-piece-iterator.ensures.into_iter_gives) (none_taken c.args.text.now c.args.room) }
