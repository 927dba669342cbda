-- `embed::put_quantities` meets its contract.
-- Assumes nothing.
use native.Mathlib.Omega.{arith}
use lib.ListN.{length-set}
use mir.Facts.{to_z_pos}
use mir.Syntax.{w64}
use borrow.Author.Rules.{rules}
use Rattle.laws.proofs.Ints.{back}
use Rattle.embed.proofs.put_quantities.Goals as goal

pub bounds-rec-42 : goal.bounds-rec-42
bounds-rec-42 c = simp length-set (omega arith)

pub returns : goal.returns
returns c =
    simp (
      back c.args.r.now.feed.0 (record { sfits = search rules }),
      back c.args.r.now.speed.0 (record { sfits = search rules }),
      to_z_pos w64 {n = c.args.r.now.tool} (omega arith),
      to_z_pos w64 {n = c.args.r.now.spindle} (omega arith),
      to_z_pos w64 {n = c.args.r.now.coolant} (omega arith),
    )
