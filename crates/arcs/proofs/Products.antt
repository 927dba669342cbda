-- Number 14 by two products, which 128 bits hold.
-- Assumes nothing.
use mathlib.Core.Path.{◌≡◌, sym}
use Prim.Native.Nat.{ℕ, ◌+◌, ◌-◌, ◌*◌, ◌^◌, ◌≤◌, ◌<◌}
use native.Mathlib.Nat.{mul-le-mul}
use native.Mathlib.Omega.{arith}
use lib.Dec.{ltb}
use Rattle.rules.specs.Arcs.{unequal}
use Rattle.rules.proofs.Radii.{by_difference}

pub slack_small : (t : ℕ) → t < 2 ^ 16 → t * t ≤ 4294836225
slack_small t h = mul-le-mul {n₁ = t} {m₁ = t} {n₂ = 65535} {m₂ = 65535} (omega arith) (omega arith)

pub by_products : (t a b : ℕ) → b + t * t < a → ltb (b * (4 * (t * t))) ((a - b - t * t) * (a - b - t * t)) ≡ unequal t a b
by_products t a b h = go (a - b - t * t) (omega arith)
  where
    go : (d : ℕ) → a ≡ d + b + t * t → ltb (b * (4 * (t * t))) (d * d) ≡ unequal t a b
    go d e = let f : b * (4 * (t * t)) ≡ 4 * (b * (t * t)) = omega arith in rw (e, f) (sym (by_difference t b d))
