-- A product by halves of 32 bits comes out in its two parts of 64 bits: so a machine without numbers of 128 bits can have it too.
-- Assumes nothing.
use mathlib.Core.Path.{◌≡◌, refl, ◌∙◌}
use Prim.Native.Nat.{ℕ, ◌+◌, ◌*◌, ◌/◌, ◌%◌, ◌^◌}
use native.Mathlib.Omega.{arith}

columns : (x₁ x₀ y₁ y₀ low middle upper : ℕ) → low ≡ x₀ * y₀ → middle ≡ x₁ * y₀ + low / 2 ^ 32 → upper ≡ x₀ * y₁ + middle % 2 ^ 32
    → (x₁ * y₁ + middle / 2 ^ 32 + upper / 2 ^ 32) * 2 ^ 64 + (upper % 2 ^ 32 * 2 ^ 32 + low % 2 ^ 32) ≡ (x₁ * 2 ^ 32 + x₀) * (y₁ * 2 ^ 32 + y₀)
columns x₁ x₀ y₁ y₀ low middle upper e f g = omega arith

module _ (x y : ℕ) where
  abbrev low : ℕ
  low = x % 4294967296 * (y % 4294967296)

  abbrev middle : ℕ
  middle = x / 4294967296 * (y % 4294967296) + low / 4294967296

  abbrev upper : ℕ
  upper = x % 4294967296 * (y / 4294967296) + middle % 4294967296

  abbrev high : ℕ
  high = x / 4294967296 * (y / 4294967296) + middle / 4294967296 + upper / 4294967296

  abbrev last : ℕ
  last = upper % 4294967296 * 4294967296 + low % 4294967296

  by_halves : high * 2 ^ 64 + last ≡ x * y
  by_halves =
      let f : x / 4294967296 * 2 ^ 32 + x % 4294967296 ≡ x = omega arith in
      let g : y / 4294967296 * 2 ^ 32 + y % 4294967296 ≡ y = omega arith in
      columns (x / 4294967296) (x % 4294967296) (y / 4294967296) (y % 4294967296) low middle upper refl refl refl ∙ rw (f, g) refl

  -- the upper part and the lower one
  pub product_is : (high ≡ x * y / 2 ^ 64) × (last ≡ x * y % 2 ^ 64)
  product_is = (omega (arith, by_halves), omega (arith, by_halves))
