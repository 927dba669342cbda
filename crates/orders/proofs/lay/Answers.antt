-- `orders::lay` meets its contract.
-- Assumes nothing.
use mathlib.Core.Path.{refl, ◌≡◌}
use Prim.Native.Nat.{◌+◌, ◌-◌}
use native.Mathlib.Omega.{arith}
use lib.IntN.{pos}
use lib.ListN.{length}
use mir.Syntax.{w64}
use mir.ValLaws.{to_z_pos}
use borrow.Author.Rules.{rules}
use Rattle.orders.proofs.Laying.{laid_behind}
use Rattle.orders.proofs.lay.Goals as goal

pub returns : goal.returns
returns c =
    let seven : length c.args.c.fields ≡ 7 = search rules in (
      refl,
      omega arith,
      rw (c.copy_from_slice.ensures.after, to_z_pos w64 c.args.c.kind (omega arith))
          (laid_behind c.args.out.now c.args.c.fields c.args.at (c.args.at + 8 - (c.args.at + 1)) (pos c.args.c.kind) (omega arith) (omega arith)),
    )
