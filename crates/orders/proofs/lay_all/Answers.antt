-- `orders::lay_all` meets its contract: what is still to be laid is asked for among the orders from a place on.
-- Assumes nothing.
use mathlib.Core.Path.{refl, sym, ◌∙◌, ap, ◌≡◌}
use Prim.Native.Nat.{◌+◌}
use native.Mathlib.Omega.{arith}
use lib.ListN.{length, drop}
use borrow.Author.Rules.{rules}
use Rattle.orders.specs.Orders.{asked}
use Rattle.orders.proofs.Asked.{asked_from, asked_behind}
use Rattle.orders.proofs.Laying.{ahead_all, ahead_next, keeps_length, laid_none}
use Rattle.orders.proofs.lay_all.Goals as goal
use Rattle.orders.proofs.lay_all.Goals.{in-Some, in_default}

pub loop-order-init : goal.loop-order-init
loop-order-init c = (refl, ahead_all c.args.out.now (asked c.args.orders) c.requires)

pub returns : goal.returns
returns c =
    let nine : length c.args.orders ≡ 9 = search rules in
    sym (laid_none c.loop-order.out c.loop-order.at) ∙ (rw (asked_behind c.args.orders c.loop-order.order-index (omega arith)) at c.loop-order.invariant.1.rest)

pub loop-order-preserved : goal.loop-order-preserved
loop-order-preserved c =
    let nine : length c.args.orders ≡ 9 = search rules in
    let e = asked_from c.args.orders c.loop-order.order-index (omega arith) in
    elim c.match-order.branch [
      | in-Some w ↦
          let command = w.in-Some.command in
          let others = asked (drop (c.loop-order.order-index + 1) c.args.orders) in
          let s = rw (rw w.in-Some.is at e) at c.loop-order.invariant.1 in
          (ap length w.out-is ∙ keeps_length command others s w.lay-at.ensures ∙ c.loop-order.invariant.0, rw (w.out-is, w.at-is) (ahead_next command others s w.lay-at.ensures))
      | in_default w ↦
          (ap length w.out-is ∙ c.loop-order.invariant.0, rw (w.out-is, w.at-is) (rw (rw w.in_default.is at e) at c.loop-order.invariant.1))
    ]
