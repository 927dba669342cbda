-- `parameters::numerals::put_digits` meets its contract.
-- Assumes nothing.
use mathlib.Core.Path.{◌≡◌}
use Prim.Native.Nat.{◌≤◌}
use lib.Seq.{sets}
use lib.ListN.{length}
use Rattle.parameters.specs.Writing.{last}
use Rattle.parameters.proofs.numerals.put_digits.Given as goal

abbrev pub invariant-loop-left : goal.invariant-loop-left
invariant-loop-left l = (l.left ≤ l.many) × (length l.text ≡ length l.initial.text) × (sets l.text l.at (last l.left l.rest) ≡ sets l.initial.text l.at (last l.many l.number))
