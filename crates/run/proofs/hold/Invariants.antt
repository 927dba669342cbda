-- `run::hold` meets its contract: each byte of the loop is one more that is held.
-- Assumes nothing.
use mathlib.Core.Path.{◌≡◌}
use Prim.Native.Nat.{◌+◌, ◌≤◌}
use lib.ListN.{length}
use Rattle.run.specs.Promised.{Holds}
use Rattle.run.proofs.hold.Given as goal

abbrev pub invariant-loop-many : goal.invariant-loop-many
invariant-loop-many l = (l.from + l.many ≤ length l.piece) × (length l.line ≡ length l.initial.line) × (l.held + l.many ≤ length l.line) × Holds l.piece l.from l.initial.line l.held l.many l.line
