-- `block::words::all_ranged` meets its contract. The loop's invariant: the values passed are in range, so those still ahead decide.
-- Assumes nothing.
use mathlib.Core.Path.{◌≡◌}
use lib.ListN.{drop}
use Rattle.block.specs.Execution.{all_in_range}
use Rattle.block.proofs.words.all_ranged.Given as goal

abbrev pub invariant-loop-value : goal.invariant-loop-value
invariant-loop-value l = all_in_range l.value-items ≡ all_in_range (drop l.value-index l.value-items)
