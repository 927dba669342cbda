-- Two different constructors are not equal: what congruence makes of such an equation, `cc`, is that 0 is 1.
-- Assumes nothing.
use mathlib.Core.Path.{◌≡◌}
use Prim.Native.Nat.{ℕ}
use native.Mathlib.Omega.{arith}

pub clash : {X : Type 0} → ◌≡◌ {A = ℕ} 0 1 → X
clash e = absurd (omega arith)
