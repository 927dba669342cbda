-- `orders::count` meets its contract: what was counted, and what is asked for from a place on, are all that is asked for.
-- Assumes nothing.
use mathlib.Core.Path.{◌≡◌}
use Prim.Native.Nat.{◌≤◌, ◌+◌}
use lib.ListN.{length, drop}
use Rattle.orders.specs.Orders.{asked}
use Rattle.orders.proofs.count.Given as goal

abbrev pub invariant-loop-order : goal.invariant-loop-order
invariant-loop-order l = (l.number ≤ l.order-index) × (l.number + length (asked (drop l.order-index l.fn.orders)) ≡ length (asked l.fn.orders))
