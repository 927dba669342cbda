-- `index::space::Entries::remove` meets its contract: the numbers behind close up.
-- Assumes nothing.
use mathlib.Core.Path.{ap, ◌∙◌}
use mathlib.Core.List.{List}
use Prim.Native.Nat.{◌*◌, ◌≤◌}
use native.Mathlib.Omega.{arith}
use lib.ListN.{length}
use Rattle.std.specs.List.{remove}
use Rattle.index.specs.Index.{Entry}
use Rattle.index.proofs.Shifting.{numbers_removed}
use Rattle.index.proofs.space.Entries.remove.Goals as goal

pub returns : goal.returns
returns c =
    let l : 3 * c.self.inside.count ≤ length c.self.inside.space = omega (arith, c.self.invariant) in
    numbers_removed c.self.inside.space c.self.inside.count c.args.i l (rw c.self.view_is c.requires) c.copy_within.ensures.after
    ∙ ap (λ (x : List Entry). remove x c.args.i) c.self.view_is
