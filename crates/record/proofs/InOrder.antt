-- What a record in order tells: a place in reach on each axis, and each field in its range.
-- Assumes nothing.
use mathlib.Core.Path.{◌≡◌, refl, sym, subst}
use mathlib.Core.Bool.{Bool, true, false, ◌&&◌, false≢true}
use mathlib.Core.List.{List, [], ◌∷◌}
use Prim.Native.Nat.{ℕ, zero, suc, ◌≤◌}
use native.Mathlib.Omega.{arith}
use lib.Dec.{T, eqb, leb, eqb→eq, leb→le}
use lib.IntN.{ℤ, pos, negsuc, nat_abs}
use borrow.Author.Tests.{leb-true}
use Rattle.laws.proofs.Bools.{and_left, and_right, T-eq}
use Rattle.laws.proofs.Ints.{Within, within_pos, within_le}
use Rattle.rules.specs.Numbers.{within, minus}
use Rattle.rules.specs.Codes.{g_group}
use Rattle.rules.specs.Reach.{at, in_reach, up_to, in_order}
use Rattle.rules.specs.declared.Length.{Length}
use Rattle.rules.specs.declared.Record.{Record}

holds : {b : Bool} → b ≡ true → T b
holds e = subst T (sym e) tt

-- every axis of a place in reach; an axis that is not there counts 0
pub on_axis : (place : List Length) → in_reach place ≡ true → (i : ℕ) → Within 1000000000 (at place i).0
on_axis place e = go place (holds e)
  where
    go : (ls : List Length) → T (in_reach ls) → (i : ℕ) → Within 1000000000 (at ls i).0
    go [] t i = within_le (omega arith) (within_pos 0)
    go (l ∷ ls) t zero = record { size = leb→le (nat_abs l.0) 1000000000 (and_left (within 1000000000 l.0) (in_reach ls) t) }
    go (l ∷ ls) t (suc i) = go ls (and_right (within 1000000000 l.0) (in_reach ls) t) i

-- a number from 0 to high
pub not_minus : (high : ℕ) (z : ℤ) → up_to high z ≡ true → minus z ≡ false
not_minus high (pos n) e = refl
not_minus high (negsuc n) e = absurd (false≢true e)

pub at_most : (high : ℕ) (z : ℤ) → up_to high z ≡ true → Within high z
at_most high (pos n) e = record { size = leb-true n high e }
at_most high (negsuc n) e = absurd (false≢true e)

pub record InOrder (r : Record) : Type 0 where
  pub position : in_reach r.position ≡ true
  pub origins : in_reach r.origins ≡ true
  pub offset : in_reach r.offset ≡ true
  pub feed : up_to 253999999746 r.feed.0 ≡ true
  pub speed : up_to 999999999 r.speed.0 ≡ true
  pub tool : r.tool ≤ 99
  pub spindle : r.spindle ≤ 2
  pub coolant : r.coolant ≤ 3
  pub motion : g_group r.motion ≡ 1
  pub plane : g_group r.plane ≡ 2
  pub distance : g_group r.distance ≡ 3
  pub units : g_group r.units ≡ 6
  pub system : g_group r.system ≡ 12

-- the test tells all of it
pub told : (r : Record) → in_order r ≡ true → InOrder r
unfolding in_order
told r e =
    let t1 = in_reach r.position in
    let t2 = t1 && in_reach r.origins in
    let t3 = t2 && in_reach r.offset in
    let t4 = t3 && up_to 253999999746 r.feed.0 in
    let t5 = t4 && up_to 999999999 r.speed.0 in
    let t6 = t5 && leb r.tool 99 in
    let t7 = t6 && leb r.spindle 2 in
    let t8 = t7 && leb r.coolant 3 in
    let t9 = t8 && eqb (g_group r.motion) 1 in
    let t10 = t9 && eqb (g_group r.plane) 2 in
    let t11 = t10 && eqb (g_group r.distance) 3 in
    let t12 = t11 && eqb (g_group r.units) 6 in
    let e13 = holds e in
    let e12 = and_left t12 (eqb (g_group r.system) 12) e13 in
    let e11 = and_left t11 (eqb (g_group r.units) 6) e12 in
    let e10 = and_left t10 (eqb (g_group r.distance) 3) e11 in
    let e9 = and_left t9 (eqb (g_group r.plane) 2) e10 in
    let e8 = and_left t8 (eqb (g_group r.motion) 1) e9 in
    let e7 = and_left t7 (leb r.coolant 3) e8 in
    let e6 = and_left t6 (leb r.spindle 2) e7 in
    let e5 = and_left t5 (leb r.tool 99) e6 in
    let e4 = and_left t4 (up_to 999999999 r.speed.0) e5 in
    let e3 = and_left t3 (up_to 253999999746 r.feed.0) e4 in
    let e2 = and_left t2 (in_reach r.offset) e3 in
    record {
      position = T-eq t1 (and_left t1 (in_reach r.origins) e2);
      origins = T-eq (in_reach r.origins) (and_right t1 (in_reach r.origins) e2);
      offset = T-eq (in_reach r.offset) (and_right t2 (in_reach r.offset) e3);
      feed = T-eq (up_to 253999999746 r.feed.0) (and_right t3 (up_to 253999999746 r.feed.0) e4);
      speed = T-eq (up_to 999999999 r.speed.0) (and_right t4 (up_to 999999999 r.speed.0) e5);
      tool = leb→le r.tool 99 (and_right t5 (leb r.tool 99) e6);
      spindle = leb→le r.spindle 2 (and_right t6 (leb r.spindle 2) e7);
      coolant = leb→le r.coolant 3 (and_right t7 (leb r.coolant 3) e8);
      motion = eqb→eq (g_group r.motion) 1 (and_right t8 (eqb (g_group r.motion) 1) e9);
      plane = eqb→eq (g_group r.plane) 2 (and_right t9 (eqb (g_group r.plane) 2) e10);
      distance = eqb→eq (g_group r.distance) 3 (and_right t10 (eqb (g_group r.distance) 3) e11);
      units = eqb→eq (g_group r.units) 6 (and_right t11 (eqb (g_group r.units) 6) e12);
      system = eqb→eq (g_group r.system) 12 (and_right t12 (eqb (g_group r.system) 12) e13);
    }
