-- `parameters::numerals::digit_count` meets its contract.
-- Assumes nothing.
use mathlib.Core.Path.{◌≡◌}
use Prim.Native.Nat.{◌+◌, ◌≤◌}
use lib.ListN.{length}
use Rattle.parameters.specs.Writing.{digits_of}
use Rattle.parameters.proofs.numerals.digit_count.Given as goal

abbrev pub invariant-loop-rest : goal.invariant-loop-rest
invariant-loop-rest l = (l.count + length (digits_of l.rest) ≡ length (digits_of l.number) + 1) × (l.count + l.rest ≤ l.number + 1)

abbrev pub decreases-loop-rest : goal.decreases-loop-rest
decreases-loop-rest l = l.rest
