-- `index::space::first_from` meets its contract: the search goes on between low and high.
-- Assumes nothing.
use mathlib.Core.Path.{◌≡◌}
use Prim.Native.Nat.{◌-◌, ◌≤◌}
use lib.ListN.{length}
use Rattle.index.specs.Held.{held, halved, searched}
use Rattle.index.proofs.space.first_from.Given as goal

abbrev pub invariant-loop-low : goal.invariant-loop-low
invariant-loop-low l = (l.low ≤ l.high) × (l.high ≤ length (held l.numbers)) × (halved (l.high - l.low) (held l.numbers) l.n l.low l.high ≡ searched (held l.numbers) l.n)

abbrev pub decreases-loop-low : goal.decreases-loop-low
decreases-loop-low l = l.high - l.low
