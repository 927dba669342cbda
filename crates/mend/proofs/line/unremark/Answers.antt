-- `mend::line::unremark` meets its contract.
-- Assumes nothing.
use mathlib.Core.Path.{sym, ◌∙◌}
use Prim.Native.Nat.{◌+◌}
use native.Mathlib.Omega.{arith}
use lib.ListN.{length}
use lib.Seq.{length-take-le}
use Rattle.mend.proofs.Placing.{put_is}
use Rattle.mend.proofs.Fronts.{remark_front, plain_front}
use Rattle.mend.proofs.line.unremark.Goals as goal

pub put_remark-requires : goal.put_remark-requires
put_remark-requires c = ((put_is c.args.line.now c.in-Some.at (sym c.in-Some.is ∙ c.remark_at.ensures)).0, length-take-le (length c.args.line.now + 1) c.args.space.now (omega arith))

pub returns-in-Some : goal.returns-in-Some
returns-in-Some c = remark_front c.args.line.now c.args.space.now c.put_remark.new.out c.requires c.in-Some.at (sym c.in-Some.is ∙ c.remark_at.ensures) c.put_remark.ensures

pub returns-in-None : goal.returns-in-None
returns-in-None c = plain_front c.args.line.now c.args.space.now c.copy_from_slice.new.self c.requires (sym c.in-None.is ∙ c.remark_at.ensures) c.copy_from_slice.ensures.after
