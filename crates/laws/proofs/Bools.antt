-- Tests that compute: what the truth of a test tells of its parts, and a test of every number below a bound.
-- Assumes nothing.
use mathlib.Core.Path.{◌≡◌, refl}
use mathlib.Core.Bool.{Bool, true, false, ◌&&◌, ◌||◌, not}
use Prim.Native.Nat.{ℕ, zero, suc, ◌<◌}
use native.Mathlib.Omega.{arith}
use native.Mathlib.Decide.{ℕ_discrete}
use lib.Dec.{T}

pub and_left : (a b : Bool) → T (a && b) → T a
and_left true b t = tt
and_left false b t = t

pub and_right : (a b : Bool) → T (a && b) → T b
and_right true b t = t
and_right false b t = absurd t

pub or_cases : {X : Type 0} (a b : Bool) → (T a → X) → (T b → X) → T (a || b) → X
or_cases true b f g t = f t
or_cases false b f g t = g t

pub neither_left : (a b : Bool) → T (not (a || b)) → T (not a)
neither_left true b t = t
neither_left false b t = tt

pub neither_right : (a b : Bool) → T (not (a || b)) → T (not b)
neither_right true b t = absurd t
neither_right false b t = t

pub T-eq : (b : Bool) → T b → b ≡ true
T-eq true t = refl
T-eq false t = absurd t

pub not_eq : (b : Bool) → T (not b) → b ≡ false
not_eq true t = absurd t
not_eq false t = refl

-- a test of all numbers below a bound, computed, and its rule at each
abbrev pub all_below : (ℕ → Bool) → ℕ → Bool
all_below p zero = true
all_below p (suc n) = p n && all_below p n

pub below : (p : ℕ → Bool) (n : ℕ) → T (all_below p n) → (k : ℕ) → k < n → T (p k)
below p zero t k h = absurd (omega arith)
below p (suc n) t k h = go (ℕ_discrete k n) (λ l. below p n (and_right (p n) (all_below p n) t) k l)
  where
    go : Dec (k ≡ n) → (k < n → T (p k)) → T (p k)
    go (yes e) f = rw e (and_left (p n) (all_below p n) t)
    go (no e) f = f (omega arith)
