-- `index::space::Entries::write` meets its contract: three numbers are written.
-- Assumes nothing.
use mathlib.Core.Path.{ap, ◌∙◌}
use mathlib.Core.List.{List}
use Prim.Native.Nat.{◌*◌, ◌≤◌}
use native.Mathlib.Omega.{arith}
use lib.ListN.{length, set}
use Rattle.index.specs.Index.{Entry}
use Rattle.index.proofs.Shifting.{numbers_written}
use Rattle.index.proofs.space.Entries.write.Goals as goal

pub returns : goal.returns
returns c =
    let l : 3 * c.self.inside.count ≤ length c.self.inside.space = omega (arith, c.self.invariant) in
    numbers_written c.self.inside.space c.self.inside.count c.args.i l c.args.entry (rw c.self.view_is c.requires)
    ∙ ap (λ (x : List Entry). set x c.args.i c.args.entry) c.self.view_is
