-- Ways from an arc's centre: what the code works out on the plane's two axes is what number 14 says of its centre and radii.
-- Assumes nothing.
use mathlib.Core.Path.{◌≡◌, refl, sym, ap, ◌∙◌}
use mathlib.Core.Bool.{true, and-eq-true_iff}
use mathlib.Core.List.{List, [], ◌∷◌, map}
use Prim.Native.Nat.{ℕ}
use native.Mathlib.Nat.{le_trans}
use native.Mathlib.Omega.{arith}
use lib.ListN.{length, get_or}
use lib.IntN.{nat_abs, ◌-ℤ◌}
use borrow.Author.Tests.{leb-true, le-leb}
use Rattle.rules.specs.Numbers.{within}
use Rattle.rules.specs.Reach.{◌less◌, at, in_reach}
use Rattle.rules.specs.Steps.{target}
use Rattle.rules.specs.Arcs.{plane_axes, centre_at, centre, bad_arc}
use Rattle.rules.specs.declared.Length.{Length}
use Rattle.rules.specs.declared.Block.{Block}
use Rattle.rules.specs.declared.Record.{Record}
use Rattle.arcs.specs.Ways.{measurable}
use Rattle.arcs.proofs.BadArc.{way, bad_arc_holds}
use Rattle.checks.proofs.Axes.{plane_two}
use Rattle.lengths.specs.Saturated.{saturated}
use Rattle.block.specs.Judged.{ways, bad_ways}
use Rattle.block.proofs.Bounds.{in_reach_holds, less_under}
use Rattle.block.proofs.Sums.{less_is}

-- ---- two lengths
both_ways : (a b : Length) (cs : List Length) → length cs ≡ 2 → ◌≡◌ {A = List Length} ((a less at cs 0) ∷ (b less at cs 1) ∷ []) (ways (a ∷ b ∷ []) cs)
both_ways a b [] e = absurd (omega arith)
both_ways a b (c ∷ []) e = absurd (omega arith)
both_ways a b (c ∷ d ∷ []) e = refl
both_ways a b (c ∷ d ∷ x ∷ cs) e = absurd (omega arith)

-- ---- the axes of the plane, of a place in reach
seen_reach : (place : List Length) (is : List ℕ) → in_reach place ≡ true → in_reach (map (at place) is) ≡ true
seen_reach place [] e = refl
seen_reach place (i ∷ is) e = rw (le-leb (nat_abs (at place i).0) 1000000000 (in_reach_holds place e i)) (seen_reach place is e)

module _ (place : List Length) (plane : ℕ) (cs : List Length) (near : in_reach place ≡ true) (two : length cs ≡ 2) (reached : in_reach cs ≡ true) where
  difference : (i k : ℕ) → saturated ((at place i).0 -ℤ (at cs k).0) ≡ (at place i less at cs k)
  difference i k = less_is (at place i) (at cs k) (le_trans (in_reach_holds place near i) (omega arith)) (le_trans (in_reach_holds cs reached k) (omega arith))

  pub way_is : ◌≡◌ {A = List Length} (saturated ((at place (get_or (plane_axes plane) 0 0)).0 -ℤ (at cs 0).0) ∷ saturated ((at place (get_or (plane_axes plane) 1 0)).0 -ℤ (at cs 1).0) ∷ []) (ways (map (at place) (plane_axes plane)) cs)
  way_is =
      rw (difference (get_or (plane_axes plane) 0 0) 0, difference (get_or (plane_axes plane) 1 0) 1)
      (both_ways (at place (get_or (plane_axes plane) 0 0)) (at place (get_or (plane_axes plane) 1 0)) cs two
      ∙ ap (λ (is : List ℕ). ways (map (at place) is) cs) (plane_two plane))

-- ---- ways between places in reach can be measured
ways_measurable : (ps cs : List Length) → in_reach ps ≡ true → in_reach cs ≡ true → measurable (ways ps cs) ≡ true
ways_measurable [] cs e f = refl
ways_measurable (p ∷ ps) [] e f = refl
ways_measurable (p ∷ ps) (c ∷ cs) e f =
    let g = (and-eq-true_iff (within 1000000000 p.0) (in_reach ps)).0 e in
    let h = (and-eq-true_iff (within 1000000000 c.0) (in_reach cs)).0 f in
    rw (le-leb (nat_abs (p less c).0) 2000000000
    (less_under p c 1000000000 1000000000 (leb-true (nat_abs p.0) 1000000000 g.0) (leb-true (nat_abs c.0) 1000000000 h.0)))
    (ways_measurable ps cs g.1 h.1)

ways_mapped : (f g : ℕ → Length) (is : List ℕ) → ways (map f is) (map g is) ≡ map (λ (i : ℕ). f i less g i) is
ways_mapped f g [] = refl
ways_mapped f g (i ∷ is) = ap (λ (ls : List Length). (f i less g i) ∷ ls) (ways_mapped f g is)

module _ (b : Block) (m : Record) (middle : in_reach (centre b m) ≡ true) where
  abbrev way_to : List Length → List Length
  way_to place = ways (map (at place) (plane_axes m.plane)) (centre b m)

  to_place : (place : List Length) → way_to place ≡ way b m place
  unfolding centre
  to_place place = ways_mapped (at place) (centre_at b m) (plane_axes m.plane)

  to_measure : (place : List Length) → in_reach place ≡ true → measurable (way b m place) ≡ true
  to_measure place near =
      ap measurable (sym (to_place place)) ∙ ways_measurable (map (at place) (plane_axes m.plane)) (centre b m) (seen_reach place (plane_axes m.plane) near) middle

  pub bad_arc_is : in_reach m.position ≡ true → in_reach (target b m) ≡ true
      → bad_ways m.position (target b m) (centre b m) m.plane m.units ≡ bad_arc b m
  bad_arc_is near far =
      rw (to_place m.position, to_place (target b m)) (bad_arc_holds b m (to_measure m.position near) (to_measure (target b m) far))
