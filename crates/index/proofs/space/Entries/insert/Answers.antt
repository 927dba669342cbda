-- `index::space::Entries::insert` meets its contract: the numbers behind make room, and three are written.
-- Assumes nothing.
use mathlib.Core.Path.{ap, ◌∙◌}
use mathlib.Core.List.{List}
use Prim.Native.Nat.{◌*◌, ◌≤◌}
use native.Mathlib.Omega.{arith}
use lib.ListN.{length}
use Rattle.std.specs.List.{insert}
use Rattle.index.specs.Index.{Entry}
use Rattle.index.proofs.Numbers.{kept_long}
use Rattle.index.proofs.Shifting.{numbers_inserted}
use Rattle.index.proofs.space.Entries.insert.Goals as goal

pub returns : goal.returns
returns c =
    let l : 3 * c.self.inside.count ≤ length c.self.inside.space = omega (arith, c.self.invariant) in
    let n = kept_long c.self.inside.space c.self.inside.count l in
    c.write.ensures
    ∙ numbers_inserted c.self.inside.space c.self.inside.count c.args.i l c.args.entry (rw c.self.view_is c.requires.0) (omega (arith, n, ap length c.self.view_is, c.requires.1)) c.copy_within.ensures.after
    ∙ ap (λ (x : List Entry). insert x c.args.i c.args.entry) c.self.view_is
