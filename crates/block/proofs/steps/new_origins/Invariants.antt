-- `block::steps::new_origins` meets its contract. The loop's invariant: setting the axes still ahead comes to setting all.
-- Assumes nothing.
use mathlib.Core.Path.{◌≡◌}
use lib.ListN.{length, drop}
use Rattle.rules.specs.Block.{all_axes}
use Rattle.rules.specs.Steps.{origins_set}
use Rattle.block.proofs.steps.new_origins.Given as goal

abbrev pub invariant-loop-i : goal.invariant-loop-i
invariant-loop-i l = (length l.origins ≡ 27) × (origins_set l.b l.m (drop l.i all_axes) l.origins ≡ origins_set l.b l.m all_axes l.m.origins)
