-- Numbers 13 and 14 and the move's command, by where the line goes.
-- Assumes nothing.
use mathlib.Core.Path.{◌≡◌, refl, ap, ◌∙◌}
use mathlib.Core.Bool.{Bool, true, false, cond, not, ◌&&◌, ◌||◌, and-eq-true_iff}
use mathlib.Core.List.{List, [], ◌∷◌, ◌++◌}
use Prim.Native.Nat.{◌/◌}
use lib.Dec.{eqb}
use lib.IntN.{pos}
use borrow.Author.Tests.{not-false}
use Rattle.grammar.specs.Bytes.{among}
use Rattle.rules.specs.Block.{moves, sets_origin, sets_offset}
use Rattle.rules.specs.Reach.{in_reach}
use Rattle.rules.specs.Steps.{motion_of, origin_of, origin_system, target}
use Rattle.rules.specs.Arcs.{arc_move, centre, bad_arc}
use Rattle.rules.specs.Commands.{command, commands, move_command, numbers}
use Rattle.rules.specs.Refusals.{too_far}
use Rattle.rules.specs.declared.Length.{Length}
use Rattle.rules.specs.declared.Block.{Block}
use Rattle.rules.specs.declared.Record.{Record}
use Rattle.std.specs.Bool.{then_some}
use Rattle.std.specs.Option.{option_map}
use Rattle.orders.specs.Orders.{asked, orders_of}
use Rattle.orders.proofs.Asked.{asked_of_line}
use Rattle.block.specs.Motion.{move_by, move_to, travel_of}
use Rattle.block.specs.Judged.{bad_ways, beyond}
use Rattle.block.proofs.Modes.{neither, not_both}
use Rattle.block.proofs.Ways.{bad_arc_is}

-- what is beyond reach where it is asked for
beyond_is : (asked : Bool) (ls : List Length) → beyond (then_some asked ls) ≡ (asked && not (in_reach ls))
beyond_is true ls = refl
beyond_is false ls = refl

module _ (b : Block) (m : Record) where
  -- number 13
  pub too_far_is : too_far b m
      ≡ (beyond (then_some (moves b) (target b m)) || beyond (then_some (arc_move b m) (centre b m))
      || sets_origin b && not (in_reach (origin_of m (origin_system b))) || sets_offset b && not (in_reach m.offset))
  unfolding too_far
  too_far_is = rw (beyond_is (moves b) (target b m), beyond_is (arc_move b m) (centre b m)) refl

  pub moving : arc_move b m ≡ true → moves b ≡ true
  unfolding arc_move
  moving h = ((and-eq-true_iff (moves b) (among (motion_of b m) (20 ∷ 30 ∷ []))).0 h).0

  -- an arc's target and centre where number 13 is not given
  pub reached : too_far b m ≡ false → arc_move b m ≡ true → (in_reach (target b m) ≡ true) × (in_reach (centre b m) ≡ true)
  unfolding too_far
  reached e a =
      let far = moves b && not (in_reach (target b m)) in
      let middle = arc_move b m && not (in_reach (centre b m)) in
      let origin = sets_origin b && not (in_reach (origin_of m (origin_system b))) in
      let offset = sets_offset b && not (in_reach m.offset) in
      let both = neither far middle (neither (far || middle) origin (neither (far || middle || origin) offset e).0).0 in (
        not-false (in_reach (target b m)) (not_both (moves b) (not (in_reach (target b m))) both.0 (moving a)),
        not-false (in_reach (centre b m)) (not_both (arc_move b m) (not (in_reach (centre b m))) both.1 a),
      )

  -- and what number 14 says of the arc
  pub bad_is : too_far b m ≡ false → arc_move b m ≡ true → in_reach m.position ≡ true → bad_ways m.position (target b m) (centre b m) m.plane m.units ≡ bad_arc b m
  bad_is e a near = let both = reached e a in bad_arc_is b m both.1 near both.0

  -- the move's command, where the line moves
  move_is : move_by (travel_of b m) m.plane ≡ then_some (moves b) (move_command b m)
  move_is = go (moves b) (arc_move b m)
    where
      go : (x y : Bool) → option_map (move_to (motion_of b m) m.plane (then_some y (centre b m))) (then_some x (target b m))
          ≡ then_some x (cond y (command 10 (pos (motion_of b m / 10) ∷ pos (m.plane / 10) ∷ numbers (target b m) ++ numbers (centre b m))) (command (cond (eqb (motion_of b m) 0) 8 9) (numbers (target b m))))
      go true true = refl
      go true false = refl
      go false y = refl

  -- so the orders of the line are its commands
  pub orders_are : asked (orders_of b m.feed m.speed m.tool (move_by (travel_of b m) m.plane)) ≡ commands b m
  orders_are = ap (λ move. asked (orders_of b m.feed m.speed m.tool move)) move_is ∙ asked_of_line b m
