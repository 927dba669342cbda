-- `orders::arc` meets its contract.
-- Assumes nothing.
use mathlib.Core.Path.{refl}
use Prim.Native.Nat.{◌/◌}
use native.Mathlib.Omega.{arith}
use mir.Syntax.{w64}
use mir.ValLaws.{to_z_pos}
use borrow.Author.Rules.{rules}
use Rattle.laws.proofs.Ints.{back}
use Rattle.rules.specs.Reach.{at}
use Rattle.orders.proofs.Laying.{three, two}
use Rattle.orders.proofs.arc.Goals as goal

pub returns : goal.returns
returns c =
    rw (
      back (at c.args.to 0).0 (search rules),
      back (at c.args.to 1).0 (search rules),
      back (at c.args.to 2).0 (search rules),
      back (at c.args.centre 0).0 (search rules),
      back (at c.args.centre 1).0 (search rules),
      to_z_pos w64 (c.args.motion / 10) (omega arith),
      to_z_pos w64 (c.args.plane / 10) (omega arith),
    )
    (rw (← three c.args.to (search rules), ← two c.args.centre (search rules)) refl)
