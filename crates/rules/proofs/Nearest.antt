-- The rounding fact, once for any divisor d that is not 0: the whole number nearest to n / d, and of two equally near the one further from zero, is `nearest n d`
-- (`nearest_meets`) and no other (`nearest_is`), so that two are equal (`nearest_one`). `*`, `/`, ROUND, whole numbers and tenths all rest on it.
-- Assumes nothing.
use mathlib.Core.Path.{◌≡◌, refl, sym, ap, ◌∙◌}
use mathlib.Core.Bool.{Bool, true, false}
use mathlib.Core.Logic.{◌⊎◌, inl, inr, ⊎_elim}
use Prim.Native.Nat.{ℕ, zero, suc, ◌+◌, ◌-◌, ◌*◌, ◌/◌, ◌≤◌, ◌<◌}
use native.Mathlib.Omega.{arith}
use native.Mathlib.Nat as N
use lib.IntN.{ℤ, pos, negsuc, neg_ℤ, nat_abs, neg_ℤ-+ℤ, ◌-ℤ◌, ◌*ℤ◌}
use Rattle.laws.proofs.Ints.{up_neg, dn_neg, diff_is, abs_is, abs_parts, one_side, abs_neg, abs_product}
use Rattle.rules.proofs.Signs.{abs_signed, signed_abs}
use Rattle.rules.specs.Numbers.{minus, signed, differ, nearest}

-- "to the nearest .., halves away from zero": r is the quotient of n by d, rounded
pub record Nearest (n d r : ℤ) : Type 0 where
  -- within half of d
  pub near : 2 * nat_abs (n -ℤ r *ℤ d) ≤ nat_abs d
  -- and where it is just half, r * d is further from zero than n
  pub away : 2 * nat_abs (n -ℤ r *ℤ d) ≡ nat_abs d → nat_abs n ≤ nat_abs (r *ℤ d)

-- ---- by sign and size
pub product_signed : (a b : ℤ) → a *ℤ b ≡ signed (differ (minus a) (minus b)) (nat_abs a * nat_abs b)
product_signed (pos a) (pos b) = refl
product_signed (pos a) (negsuc b) = refl
product_signed (negsuc a) (pos b) = refl
product_signed (negsuc a) (negsuc b) = refl

pub signed_zero : (s t : Bool) (n : ℕ) → n ≡ 0 → signed s n ≡ signed t n
signed_zero true true n e = refl
signed_zero true false n e = rw e
signed_zero false true n e = rw e
signed_zero false false n e = refl

-- the sizes' quotient
pub half_div : (D : ℕ) → D / (2 * D) ≡ 0
half_div zero = refl
half_div (suc D) = N.div-eq_of_lt (omega arith)

pub nearest_by : (s : Bool) (m : ℕ) (d : ℤ) → nearest (signed s m) d ≡ signed (differ s (minus d)) ((2 * m + nat_abs d) / (2 * nat_abs d))
unfolding nearest
nearest_by false m d = refl
nearest_by true zero d = signed_zero (differ false (minus d)) (differ true (minus d)) ((2 * 0 + nat_abs d) / (2 * nat_abs d)) (rw (N.zero-add (nat_abs d)) (half_div (nat_abs d)))
nearest_by true (suc k) d = refl

-- ---- r is `nearest n d`
pub abs_diff_l : (n p : ℤ) → nat_abs n ≤ nat_abs p + nat_abs (n -ℤ p)
abs_diff_l n p = abs_parts n (nat_abs p + nat_abs (n -ℤ p)) (omega (arith, abs_is p, abs_is (n -ℤ p), diff_is n p)) (omega (arith, abs_is p, abs_is (n -ℤ p), diff_is n p))

pub abs_diff_r : (n p : ℤ) → nat_abs p ≤ nat_abs n + nat_abs (n -ℤ p)
abs_diff_r n p = abs_parts p (nat_abs n + nat_abs (n -ℤ p)) (omega (arith, abs_is n, abs_is (n -ℤ p), diff_is n p)) (omega (arith, abs_is n, abs_is (n -ℤ p), diff_is n p))

le_cases : (x y : ℕ) → x ≤ y → (x < y) ⊎ (x ≡ y)
le_cases zero zero h = inr refl
le_cases zero (suc y) h = inl (omega arith)
le_cases (suc x) zero h = absurd (omega arith)
le_cases (suc x) (suc y) h = ⊎_elim (λ j. inl (omega arith)) (λ e. inr (ap suc e)) (le_cases x y (omega arith))

-- the size: R is the quotient of the sizes, rounded
size_is : (n d r : ℤ) → 0 < nat_abs d → Nearest n d r → (2 * nat_abs n + nat_abs d) / (2 * nat_abs d) ≡ nat_abs r
size_is n d r h s =
    let p = abs_product r d in
    let l = abs_diff_l n (r *ℤ d) in
    let k = abs_diff_r n (r *ℤ d) in
    let a = s.near in
    let strict : 2 * nat_abs n < 2 * nat_abs (r *ℤ d) + nat_abs d = ⊎_elim (λ j. omega arith) (λ e. let m = s.away e in omega arith) (le_cases (2 * nat_abs (n -ℤ r *ℤ d)) (nat_abs d) a) in
    N.div-eq_of_lt-le (2 * nat_abs d) (omega arith) (omega arith)

-- the sign
sign_is : (n d r : ℤ) → 0 < nat_abs d → 2 * nat_abs (n -ℤ r *ℤ d) ≤ nat_abs d → (nat_abs r ≡ 0) ⊎ (minus r ≡ differ (minus n) (minus d))
sign_is n d (pos zero) h a = inl refl
sign_is (pos n) (pos d) (pos (suc r)) h a = inr refl
sign_is (negsuc n) (negsuc d) (pos (suc r)) h a = inr refl
sign_is (negsuc n) (pos d) (pos (suc r)) h a = absurd (omega (arith, abs_is (negsuc n -ℤ pos (suc r) *ℤ pos d), diff_is (negsuc n) (pos (suc r) *ℤ pos d)))
sign_is (pos n) (negsuc d) (pos (suc r)) h a = absurd (omega (arith, abs_is (pos n -ℤ pos (suc r) *ℤ negsuc d), diff_is (pos n) (pos (suc r) *ℤ negsuc d), up_neg (pos (suc r * suc d)), dn_neg (pos (suc r * suc d))))
sign_is (pos n) (negsuc d) (negsuc r) h a = inr refl
sign_is (negsuc n) (pos d) (negsuc r) h a = inr refl
sign_is (pos n) (pos d) (negsuc r) h a = absurd (omega (arith, abs_is (pos n -ℤ negsuc r *ℤ pos d), diff_is (pos n) (negsuc r *ℤ pos d), up_neg (pos (suc r * d)), dn_neg (pos (suc r * d))))
sign_is (negsuc n) (negsuc d) (negsuc r) h a = absurd (omega (arith, abs_is (negsuc n -ℤ negsuc r *ℤ negsuc d), diff_is (negsuc n) (negsuc r *ℤ negsuc d)))

pub nearest_is : (n d r : ℤ) → 0 < nat_abs d → Nearest n d r → r ≡ nearest n d
unfolding nearest
nearest_is n d r h s =
    let e = size_is n d r h s in
    sym (signed_abs r) ∙ ⊎_elim
    (λ z. signed_zero (minus r) (differ (minus n) (minus d)) (nat_abs r) z ∙ ap (signed (differ (minus n) (minus d))) (sym e))
    (λ m. ap (λ (b : Bool). signed b (nat_abs r)) m ∙ ap (signed (differ (minus n) (minus d))) (sym e))
    (sign_is n d r h s.near)

-- one solution
pub nearest_one : (n d r t : ℤ) → 0 < nat_abs d → Nearest n d r → Nearest n d t → r ≡ t
nearest_one n d r t h s u = nearest_is n d r h s ∙ sym (nearest_is n d t h u)

-- ---- and `nearest n d` is such a number
pub signed_times : (s : Bool) (q : ℕ) (d : ℤ) → signed (differ s (minus d)) q *ℤ d ≡ signed s (q * nat_abs d)
signed_times false q (pos d) = refl
signed_times false zero (negsuc d) = rw (N.zero-mul (suc d))
signed_times false (suc q) (negsuc d) = refl
signed_times true zero (pos d) = rw (N.zero-mul d)
signed_times true (suc q) (pos d) = refl
signed_times true q (negsuc d) = refl

abs_apart : (a b : ℕ) → nat_abs (pos a -ℤ pos b) ≡ (a - b) + (b - a)
abs_apart a b = ⊎_elim (λ e. omega (arith, abs_is (pos a -ℤ pos b), diff_is (pos a) (pos b))) (λ e. omega (arith, abs_is (pos a -ℤ pos b), diff_is (pos a) (pos b))) (one_side (pos a -ℤ pos b))

pub signed_apart : (s : Bool) (a b : ℕ) → nat_abs (signed s a -ℤ signed s b) ≡ (a - b) + (b - a)
signed_apart false a b = abs_apart a b
signed_apart true a b = rw (← neg_ℤ-+ℤ (pos a) (neg_ℤ (pos b)), abs_neg (pos a -ℤ pos b)) (abs_apart a b)

-- n less r * d, by sizes
pub left_over : (n d : ℤ) (q : ℕ) → nat_abs (n -ℤ signed (differ (minus n) (minus d)) q *ℤ d) ≡ (nat_abs n - q * nat_abs d) + (q * nat_abs d - nat_abs n)
left_over n d q =
    ap nat_abs (ap (λ (z : ℤ). n -ℤ z) (signed_times (minus n) q d) ∙ ap (λ (z : ℤ). z -ℤ signed (minus n) (q * nat_abs d)) (sym (signed_abs n)))
    ∙ signed_apart (minus n) (nat_abs n) (q * nat_abs d)

pub nearest_meets : (n d : ℤ) → 0 < nat_abs d → Nearest n d (nearest n d)
unfolding nearest
nearest_meets n d h =
    let D = nat_abs d in
    let q = (2 * nat_abs n + D) / (2 * D) in
    let lo : 2 * D * q ≤ 2 * nat_abs n + D = N.mul-div-le (2 * nat_abs n + D) (2 * D) in
    let hi : 2 * nat_abs n + D < 2 * D * (q + 1) = N.lt-mul-div-succ (2 * nat_abs n + D) (omega arith) in
    let e = left_over n d q in
    let p = abs_product (signed (differ (minus n) (minus d)) q) d in
    let a = abs_signed (differ (minus n) (minus d)) q in
    record { near = rw e (omega arith); away = λ t. rw (p, a) (omega (arith, rw e at t)) }
