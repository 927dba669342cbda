-- `embed::put_modes` meets its contract.
-- Assumes nothing.
use native.Mathlib.Omega.{arith}
use lib.ListN.{length-set}
use mir.Facts.{to_z_pos}
use mir.Syntax.{w64}
use Rattle.embed.proofs.put_modes.Goals as goal

pub bounds-rec-37 : goal.bounds-rec-37
bounds-rec-37 c = simp length-set (omega arith)

pub returns : goal.returns
returns c =
    simp (
      to_z_pos w64 {n = c.args.r.now.motion} (omega arith),
      to_z_pos w64 {n = c.args.r.now.plane} (omega arith),
      to_z_pos w64 {n = c.args.r.now.distance} (omega arith),
      to_z_pos w64 {n = c.args.r.now.units} (omega arith),
      to_z_pos w64 {n = c.args.r.now.system} (omega arith),
    )
