-- Arcs: centre and radii.
-- Assumes nothing.
use Rattle.std.specs.Prelude.{Bool, cond, ◌&&◌, ◌||◌, List, [], ◌∷◌, map, ℕ, ◌+◌, ◌-◌, ◌*◌, eqb, ltb, ℤ, nat_abs}
use Rattle.grammar.specs.Bytes.{among}
use Rattle.rules.specs.Block.{amount, offset, moves}
use Rattle.rules.specs.Reach.{◌plus◌, ◌less◌, at}
use Rattle.rules.specs.Steps.{long, target, motion_of}
use Rattle.rules.specs.declared.Length.{Length}
use Rattle.rules.specs.declared.Block.{Block}
use Rattle.rules.specs.declared.Record.{Record}

-- a move by G2 or G3
unfoldable pub arc_move : Block → Record → Bool
arc_move b r = moves b && among (motion_of b r) (20 ∷ 30 ∷ [])

-- the plane's axes, in axis order
unfoldable pub plane_axes : ℕ → List ℕ
plane_axes plane = cond (eqb plane 170) (0 ∷ 1 ∷ []) (cond (eqb plane 180) (0 ∷ 2 ∷ []) (1 ∷ 2 ∷ []))

-- "centre = position + offset words on the plane (X with I, Y with J, Z with K; a missing one counts 0), under G91 too"
abbrev pub centre_at : Block → Record → ℕ → Length
centre_at b r i = at r.position i plus long r (amount (offset b i))

unfoldable pub centre : Block → Record → List Length
centre b r = map (centre_at b r) (plane_axes r.plane)

-- "the summed squares" of the way from the centre to a place, on the plane
abbrev pub square : ℤ → ℕ
square z = nat_abs z * nat_abs z

abbrev pub squares : Block → Record → List Length → List ℕ → ℕ
squares b r p [] = 0
squares b r p (i ∷ is) = square (at p i less centre_at b r i).0 + squares b r p is

abbrev pub away : Block → Record → List Length → ℕ
away b r p = squares b r p (plane_axes r.plane)

-- "200 counts under G21, 508 under G20"
abbrev pub slack : ℕ → ℕ
slack units = cond (eqb units 200) 508 200

-- "The true distances are to be compared: the roots of the two sums of squares, unrounded, may differ by at most" t counts, over whole numbers: √a and √b differ by
-- at most t exactly when a + b - t² is at most 2√ab; where t² is the larger, the difference is 0
abbrev pub unequal : ℕ → ℕ → ℕ → Bool
unequal t a b = ltb (4 * (a * b)) ((a + b - t * t) * (a + b - t * t))

-- number 14: "an arc's start is its centre, or radii too unequal"
unfoldable pub bad_arc : Block → Record → Bool
bad_arc b r =
    eqb (away b r r.position) 0
    || unequal (slack r.units) (away b r r.position) (away b r (target b r))
