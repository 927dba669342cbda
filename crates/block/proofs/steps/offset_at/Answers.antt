-- `block::steps::offset_at` meets its contract.
-- Assumes nothing.
use mathlib.Core.Path.{◌∙◌}
use Prim.Native.Nat.{◌≤◌}
use lib.IntN.{nat_abs}
use Rattle.rules.specs.Reach.{converted}
use Rattle.block.proofs.Sums.{word_short, new_offset_is}
use Rattle.block.proofs.steps.offset_at.Goals as goal

pub returns-in-Some : goal.returns-in-Some
returns-in-Some c =
    let bound : nat_abs c.in-Some.v.0 ≤ 999999999 = rw c.in-Some.is at c.requires.value_bound in
    rw c.in-Some.is
    (c.subtract-in-Some.ensures ∙ rw (c.subtract.ensures, c.long.ensures)
    (new_offset_is c.args.here c.args.origin (converted c.args.units c.in-Some.v) c.requires.here_bound c.requires.origin_bound (word_short c.args.units c.in-Some.v bound)))
