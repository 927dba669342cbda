-- `run::hold` meets its contract: each byte of the loop is one more that is held.
-- Assumes nothing.
use mathlib.Core.Path.{refl}
use Prim.Native.Nat.{◌+◌}
use native.Mathlib.Omega.{arith}
use lib.ListN.{get_or, length-set}
use Rattle.run.proofs.Branches.{holds_more}
use Rattle.run.proofs.hold.Goals as goal

pub loop-many-preserved : goal.loop-many-preserved
loop-many-preserved c =
    let b = get_or c.args.piece.now (c.args.from + c.loop-many.many) 0 in (
      omega (arith, c.min-most.ensures),
      simp length-set (omega arith),
      simp length-set (omega (arith, c.min-most.ensures)),
      holds_more c.args.piece.now c.args.from c.args.line.now c.args.held c.loop-many.many c.loop-many.line b c.loop-many.invariant.3
          (omega (arith, c.min-most.ensures)) (omega (arith, c.min-most.ensures)) refl c.if-byte-eq10.false,
    )
