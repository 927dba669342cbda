-- Number 14 by the functions of this crate: for measurable ways they say what rules says.
-- Assumes nothing.
use mathlib.Core.Path.{◌≡◌, refl}
use mathlib.Core.Bool.{true, ◌||◌}
use mathlib.Core.List.{List, map}
use Prim.Native.Nat.{ℕ}
use lib.Dec.{eqb}
use Rattle.rules.specs.Reach.{at, ◌less◌}
use Rattle.rules.specs.Steps.{target}
use Rattle.rules.specs.Arcs.{plane_axes, centre_at, slack, bad_arc}
use Rattle.rules.specs.declared.Length.{Length}
use Rattle.rules.specs.declared.Block.{Block}
use Rattle.rules.specs.declared.Record.{Record}
use Rattle.arcs.specs.Ways.{summed, measurable, too_unequal}
use Rattle.arcs.proofs.Ways.{summed_squares}

-- the way from an arc's centre to a place, on the plane's axes
abbrev pub way : Block → Record → List Length → List Length
way b r place = map (λ (i : ℕ). at place i less centre_at b r i) (plane_axes r.plane)

pub bad_arc_holds : (b : Block) (r : Record) → measurable (way b r r.position) ≡ true → measurable (way b r (target b r)) ≡ true
    → (eqb (summed (way b r r.position)) 0 || too_unequal (way b r r.position) (way b r (target b r)) (slack r.units)) ≡ bad_arc b r
unfolding too_unequal bad_arc
bad_arc_holds b r s e =
    rw (s, e, summed_squares b r r.position (plane_axes r.plane), summed_squares b r (target b r) (plane_axes r.plane)) refl
