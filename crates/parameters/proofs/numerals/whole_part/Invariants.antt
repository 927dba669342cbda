-- What the loop of `parameters::numerals::whole_part` keeps: without the digits that are left to drop, it is the number without them all.
-- Assumes nothing.
use mathlib.Core.Path.{◌≡◌}
use Prim.Native.Nat.{◌-◌, ◌≤◌}
use Rattle.parameters.specs.Writing.{without}
use Rattle.parameters.proofs.numerals.whole_part.Given as goal

abbrev pub invariant-loop-decimal : goal.invariant-loop-decimal
invariant-loop-decimal l = (without (l.decimals - l._decimal) l.rest ≡ without l.decimals l.number) × (l.rest ≤ l.number)
