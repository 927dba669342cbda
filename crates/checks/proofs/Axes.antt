-- The axes of a plane are two, each X, Y or Z.
-- Assumes nothing.
use mathlib.Core.Path.{◌≡◌, refl}
use mathlib.Core.Bool.{Bool, true, false, cond}
use mathlib.Core.List.{List, [], ◌∷◌}
use Prim.Native.Nat.{ℕ, ◌<◌}
use native.Mathlib.Omega.{arith}
use lib.Dec.{eqb}
use lib.ListN.{get_or}
use Rattle.rules.specs.Arcs.{plane_axes}

module _ (plane : ℕ) where
  -- which of the three it is
  pub plane_cases : (P : List ℕ → Type 0) → P (0 ∷ 1 ∷ []) → P (0 ∷ 2 ∷ []) → P (1 ∷ 2 ∷ []) → P (plane_axes plane)
  unfolding plane_axes
  plane_cases P xy xz yz = go (eqb plane 170) (eqb plane 180)
    where
      go : (c d : Bool) → P (cond c (0 ∷ 1 ∷ []) (cond d (0 ∷ 2 ∷ []) (1 ∷ 2 ∷ [])))
      go true d = xy
      go false true = xz
      go false false = yz

  pub plane_two : get_or (plane_axes plane) 0 0 ∷ get_or (plane_axes plane) 1 0 ∷ [] ≡ plane_axes plane
  plane_two = plane_cases (λ is. get_or is 0 0 ∷ get_or is 1 0 ∷ [] ≡ is) refl refl refl

  pub plane_axis : (get_or (plane_axes plane) 0 0 < 3) × (get_or (plane_axes plane) 1 0 < 3)
  plane_axis = plane_cases (λ is. (get_or is 0 0 < 3) × (get_or is 1 0 < 3)) (omega arith, omega arith) (omega arith, omega arith) (omega arith, omega arith)
