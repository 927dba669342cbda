-- `orders::lay_all` meets its contract: what is still to be laid is asked for among the orders from a place on.
-- Assumes nothing.
use mathlib.Core.Path.{◌≡◌}
use lib.ListN.{length, drop}
use Rattle.rules.specs.Promise.{over}
use Rattle.rules.specs.Commands.{written}
use Rattle.orders.specs.Orders.{asked}
use Rattle.orders.proofs.Laying.{Ahead}
use Rattle.orders.proofs.lay_all.Given as goal

abbrev pub invariant-loop-order : goal.invariant-loop-order
invariant-loop-order l = (length l.out ≡ length l.initial.out) × Ahead (over (written (asked l.fn.orders)) l.initial.out) l.at l.out (asked (drop l.order-index l.fn.orders))
