-- `index::space::below` meets its contract: the entries before i have lower numbers.
-- Assumes nothing.
use mathlib.Core.Path.{◌≡◌}
use Prim.Native.Nat.{◌+◌}
use lib.ListN.{drop}
use Rattle.index.specs.Held.{held, before}
use Rattle.index.proofs.space.below.Given as goal

abbrev pub invariant-loop-i : goal.invariant-loop-i
invariant-loop-i l = before l.n (held l.numbers) ≡ l.i + before l.n (drop l.i (held l.numbers))
