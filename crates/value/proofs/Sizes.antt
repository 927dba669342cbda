-- Rounding and nearness by sign and size: what the functions of src/ compute is what `rules` says. All that is rounded goes through `nearest_by`, the
-- one rounding law, at its own divisor.
-- Assumes nothing.
use mathlib.Core.Path.{◌≡◌, refl, sym, ap, ◌∙◌}
use mathlib.Core.Bool.{Bool, true, false}
use mathlib.Core.Logic.{◌⊎◌, inl, inr, ⊎_elim}
use Prim.Native.Nat.{ℕ, zero, suc, ◌+◌, ◌-◌, ◌*◌, ◌/◌, ◌%◌, ◌^◌, ◌≤◌, ◌<◌}
use native.Mathlib.Omega.{arith}
use native.Mathlib.Nat as N
use lib.Dec.{leb, ltb}
use lib.IntN.{ℤ, pos, nat_abs, ◌-ℤ◌, ◌*ℤ◌}
use borrow.Author.Tests.{le-leb, lt-leb, ltb-true, ltb-false}
use Rattle.rules.specs.Numbers.{minus, signed, differ, within, nearest, near}
use Rattle.std.specs.Prelude.{Some, None}
use Rattle.rules.proofs.Signs.{signed_abs}
use Rattle.rules.proofs.Nearest.{nearest_by, signed_times, signed_apart}
use Rattle.value.specs.Guarded.{nearest_size, apart, near_size}

-- ---- to the nearest
-- what is divided by 0 is 0
pub none_by_zero : (n : ℕ) {d : ℕ} → d ≡ 0 → 0 ≡ nearest_size n d
none_by_zero n e = rw e (sym (N.div-zero (2 * n + 0)))

module _ (n d : ℕ) (h : 0 < d) where
  -- less than half is left: down
  pub nearest_down : n % d < d - n % d → n / d ≡ nearest_size n d
  nearest_down l = sym (N.div-eq_of_lt-le (2 * d) (omega (arith, N.div-add-mod' n d)) (omega (arith, N.div-add-mod' n d)))

  -- half or more is left: up
  pub nearest_up : d - n % d ≤ n % d → n / d + 1 ≡ nearest_size n d
  nearest_up l = sym (N.div-eq_of_lt-le (2 * d) (omega (arith, N.div-add-mod' n d, N.mod-lt n h)) (omega (arith, N.div-add-mod' n d, N.mod-lt n h)))

  -- how far n lies from the nearest multiple of d
  apart_down : n % d < d - n % d → apart n (nearest_size n d * d) ≡ n % d
  apart_down l = rw (← nearest_down l) (omega (arith, N.div-add-mod' n d))

  apart_up : d - n % d ≤ n % d → apart n (nearest_size n d * d) ≡ d - n % d
  apart_up l = rw (← nearest_up l) (omega (arith, N.div-add-mod' n d, N.mod-lt n h))

  either : (n % d < d - n % d) ⊎ (d - n % d ≤ n % d)
  either = go (ltb (n % d) (d - n % d)) refl
    where
      go : (t : Bool) → ltb (n % d) (d - n % d) ≡ t → (n % d < d - n % d) ⊎ (d - n % d ≤ n % d)
      go true e = inl (ltb-true (n % d) (d - n % d) e)
      go false e = inr (ltb-false (n % d) (d - n % d) e)

  pub near_below : n % d ≤ 1 → true ≡ near_size n d
  near_below l = sym (le-leb (apart n (nearest_size n d * d)) 1 (⊎_elim (λ k. rw (apart_down k) l) (λ k. rw (apart_up k) (omega arith)) either))

  pub near_above : 1 < n % d → leb (d - n % d) 1 ≡ near_size n d
  near_above l = ⊎_elim
      (λ k. rw (apart_down k) (lt-leb (d - n % d) 1 (omega arith) ∙ sym (lt-leb (n % d) 1 l)))
      (λ k. rw (apart_up k))
      either

  -- where it is rounded up something was left, so the next quotient is no larger than n
  pub one_more : d - n % d ≤ n % d → n / d + 1 ≤ n
  one_more l = omega (arith, N.div-add-mod' n d, N.mod-lt n h, N.mul-le-mul (N.le_refl (n / d)) h)

-- the nearest multiple is at most half a step above n
nearest_low : (n d : ℕ) → 2 * (nearest_size n d * d) ≤ 2 * n + d
nearest_low n d = omega (arith, N.mul-div-le (2 * n + d) (2 * d))

pub nearest_fits : (n d : ℕ) → 1000 ≤ d → n < 2 ^ 64 → nearest_size n d < 2 ^ 63
nearest_fits n d h l = go (nearest_size n d) (nearest_low n d)
  where
    go : (q : ℕ) → 2 * (q * d) ≤ 2 * n + d → q < 2 ^ 63
    go zero k = omega arith
    go (suc q) k = omega (arith, N.mul-le-mul (N.le_refl q) h)

pub differ_false : (s : Bool) → differ s false ≡ s
differ_false true = refl
differ_false false = refl

pub nearest_signed : (s : Bool) (n step : ℕ) → nearest (signed s n) (pos step) ≡ signed s (nearest_size n step)
nearest_signed s n step = nearest_by s n (pos step) ∙ ap (λ (t : Bool). signed t (nearest_size n step)) (differ_false s)

nearest_steps : (a : ℤ) (step : ℕ) → nearest a (pos step) ≡ signed (minus a) (nearest_size (nat_abs a) step)
nearest_steps a step = ap (λ (z : ℤ). nearest z (pos step)) (sym (signed_abs a)) ∙ nearest_signed (minus a) (nat_abs a) step

-- the multiple of the step
pub steps_by : (a : ℤ) (step : ℕ) → nearest a (pos step) *ℤ pos step ≡ signed (minus a) (nearest_size (nat_abs a) step * step)
steps_by a step =
    ap (λ (z : ℤ). z *ℤ pos step) (nearest_steps a step ∙ ap (λ (t : Bool). signed t (nearest_size (nat_abs a) step)) (sym (differ_false (minus a))))
    ∙ signed_times (minus a) (nearest_size (nat_abs a) step) (pos step)

-- ---- near a multiple of the step, or not
apart_by : (a : ℤ) (step : ℕ) → nat_abs (a -ℤ nearest a (pos step) *ℤ pos step) ≡ apart (nat_abs a) (nearest_size (nat_abs a) step * step)
apart_by a step =
    ap nat_abs (ap (λ (z : ℤ). a -ℤ z) (steps_by a step) ∙ ap (λ (z : ℤ). z -ℤ signed (minus a) (nearest_size (nat_abs a) step * step)) (sym (signed_abs a)))
    ∙ signed_apart (minus a) (nat_abs a) (nearest_size (nat_abs a) step * step)

near_by : (a : ℤ) (step : ℕ) → within 1 (a -ℤ nearest a (pos step) *ℤ pos step) ≡ near_size (nat_abs a) step
near_by a step = ap (λ (k : ℕ). leb k 1) (apart_by a step)

-- n is the size of a, and t the test of it
module _ (a : ℤ) (step : ℕ) {n : ℕ} {t : Bool} (size : n ≡ nat_abs a) (test : t ≡ near_size n step) where
  tested : {u : Bool} → t ≡ u → within 1 (a -ℤ nearest a (pos step) *ℤ pos step) ≡ u
  tested e = near_by a step ∙ rw (← size) (sym test ∙ e)

  pub near_is : {s : Bool} {k : ℕ} → s ≡ minus a → k ≡ nearest_size n step → t ≡ true → Some (signed s k) ≡ near step a
  unfolding near
  near_is sign steps e = rw (tested e, sign, steps, size) (ap Some (sym (nearest_steps a step)))

  pub near_none : t ≡ false → None ≡ near step a
  unfolding near
  near_none e = rw (tested e)
