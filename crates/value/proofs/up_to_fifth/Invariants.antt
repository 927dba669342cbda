use Prim.Native.Nat.{◌-◌, ◌/◌, ◌^◌, ◌≤◌}
use mathlib.Core.Path.{◌≡◌}
use Rattle.value.proofs.up_to_fifth.Given as goal

abbrev pub invariant-loop : goal.invariant-loop
invariant-loop l = (5 ≤ l.counter) × (l.kept ≡ l.digits / 10 ^ (l.counter - 5))
