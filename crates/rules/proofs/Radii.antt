-- Number 14 by true distances: whenever fractions show that two roots lie more than t apart, the pair is refused (`too_unequal`); whenever they
-- show that the roots lie within t, it passes (`near_enough`); and what passes also passed by roots rounded down (`narrower`).
-- Assumes nothing.
use mathlib.Core.Path.{◌≡◌, refl, sym, ◌∙◌, subst}
use mathlib.Core.Bool.{Bool, true, false}
use Prim.Native.Nat.{ℕ, ◌+◌, ◌-◌, ◌*◌, ◌≤◌, ◌<◌}
use native.Mathlib.Nat as N
use native.Mathlib.Omega.{arith}
use lib.Dec.{T, leb, ltb}
use borrow.Author.Tests.{leb-true, leb-false, ltb-true, ltb-false, lt-ltb, le-ltb}
use Rattle.rules.specs.Arcs.{unequal}

-- which of the two comes first does not matter
pub same_way : (t a b : ℕ) → unequal t a b ≡ unequal t b a
same_way t a b = rw (N.add_comm a b, N.mul_comm a b) refl

-- the root of b is at most y, and d is by how much a exceeds b + t²
apart : (t b y d : ℕ) → b ≤ y * y → 2 * (y * t) < d → 4 * ((d + b + t * t) * b) < (d + b + b) * (d + b + b)
apart t b y d h k =
    let m : (2 * (y * t) + 1) * (2 * (y * t) + 1) ≤ d * d = N.mul-le-mul (omega arith) (omega arith) in
    let n : b * (t * t) ≤ y * y * (t * t) = N.mul-le-mul h (N.le_refl (t * t)) in
    omega arith

-- the root of b is at most y, and that of a more than y + t
far : (t a b y : ℕ) → b ≤ y * y → b + 2 * (y * t) + t * t < a → unequal t a b ≡ true
far t a b y h k = go (a - b - t * t) (omega arith) (omega arith)
  where
    go : (d : ℕ) → a ≡ d + b + t * t → 2 * (y * t) < d → unequal t a b ≡ true
    go d e l =
        let s : a + b - t * t ≡ d + b + b = omega arith in
        lt-ltb (4 * (a * b)) ((a + b - t * t) * (a + b - t * t)) (rw (s, e) (apart t b y d h l))

squares_far : (t y x : ℕ) → y + t ≤ x → y * y + 2 * (y * t) + t * t ≤ x * x
squares_far t y x h = let m : (y + t) * (y + t) ≤ x * x = N.mul-le-mul h h in omega arith

-- the larger sum exceeds the other and t² by d: the rule is then 2t√b < d, whose squares are smaller
pub by_difference : (t b d : ℕ) → unequal t (d + b + t * t) b ≡ ltb (4 * (b * (t * t))) (d * d)
by_difference t b d = let s : d + b + t * t + b - t * t ≡ d + b + b = omega arith in rw s (go (ltb (4 * (b * (t * t))) (d * d)) refl)
  where
    go : (c : Bool) → ltb (4 * (b * (t * t))) (d * d) ≡ c → ltb (4 * ((d + b + t * t) * b)) ((d + b + b) * (d + b + b)) ≡ c
    go true e = let m = ltb-true (4 * (b * (t * t))) (d * d) e in lt-ltb (4 * ((d + b + t * t) * b)) ((d + b + b) * (d + b + b)) (omega arith)
    go false e = let m = ltb-false (4 * (b * (t * t))) (d * d) e in le-ltb (4 * ((d + b + t * t) * b)) ((d + b + b) * (d + b + b)) (omega arith)

-- ---- by fractions

-- what passes still does where all lengths are d times as long
scaled : (t a b d : ℕ) → unequal t a b ≡ false → unequal (t * d) (a * (d * d)) (b * (d * d)) ≡ false
scaled t a b d e = le-ltb (4 * (a * (d * d) * (b * (d * d)))) _ (longer (a + b - t * t) _ (ltb-false (4 * (a * b)) _ e) (less (a + b - t * t) (omega arith)))
  where
    less : (s : ℕ) → a + b ≤ s + t * t → a * (d * d) + b * (d * d) - t * d * (t * d) ≤ s * (d * d)
    less s h = let m : (a + b) * (d * d) ≤ (s + t * t) * (d * d) = N.mul-le-mul h (N.le_refl (d * d)) in omega arith

    longer : (s z : ℕ) → s * s ≤ 4 * (a * b) → z ≤ s * (d * d) → z * z ≤ 4 * (a * (d * d) * (b * (d * d)))
    longer s z h k =
        let m : z * z ≤ s * (d * d) * (s * (d * d)) = N.mul-le-mul k k in
        let n : s * s * (d * d * (d * d)) ≤ 4 * (a * b) * (d * d * (d * d)) = N.mul-le-mul h (N.le_refl (d * d * (d * d))) in
        omega arith

pub clash : {c : Bool} → c ≡ true → c ≡ false → ⊥
clash p q = subst T (sym p ∙ q) tt

not-false : (c : Bool) → (c ≡ false → ⊥) → c ≡ true
not-false true h = refl
not-false false h = absurd (h refl)

-- x / d is at most the root of a, y / d at least that of b, and they lie more than t apart: the pair is refused, whichever is the start
pub too_unequal : (t a b x y d : ℕ) → x * x ≤ a * (d * d) → b * (d * d) ≤ y * y → y + t * d < x → (unequal t a b ≡ true) × (unequal t b a ≡ true)
too_unequal t a b x y d h k l =
    let f = far (t * d) (a * (d * d)) (b * (d * d)) y k (omega (arith, squares_far (t * d + 1) y x (omega arith))) in
    let u = not-false (unequal t a b) (λ e. clash f (scaled t a b d e)) in
    (u, same_way t b a ∙ u)

-- the root of b is at least y, and that of a, the larger, at most y + t
pub close : (t a b y : ℕ) → b ≤ a → y * y ≤ b → a ≤ b + 2 * (y * t) + t * t → unequal t a b ≡ false
close t a b y l h k = le-ltb (4 * (a * b)) ((a + b - t * t) * (a + b - t * t)) (go (leb a (b + t * t)) refl)
  where
    near : (s : ℕ) → s ≤ b + b → s * s ≤ 4 * (a * b)
    near s m =
        let p : s * s ≤ (b + b) * (b + b) = N.mul-le-mul m m in
        let q : b * b ≤ a * b = N.mul-le-mul l (N.le_refl b) in
        omega arith

    apart : (d : ℕ) → a ≡ d + b + t * t → d ≤ 2 * (y * t) → (a + b - t * t) * (a + b - t * t) ≤ 4 * (a * b)
    apart d e g =
        let s : a + b - t * t ≡ d + b + b = omega arith in
        let p : d * d ≤ 2 * (y * t) * (2 * (y * t)) = N.mul-le-mul g g in
        let q : y * y * (t * t) ≤ b * (t * t) = N.mul-le-mul h (N.le_refl (t * t)) in
        rw (s, e) (omega arith)

    go : (c : Bool) → leb a (b + t * t) ≡ c → (a + b - t * t) * (a + b - t * t) ≤ 4 * (a * b)
    go true e = let m = leb-true a (b + t * t) e in near (a + b - t * t) (omega arith)
    go false e = let m = leb-false a (b + t * t) e in apart (a - b - t * t) (omega arith) (omega arith)

-- what passes where all lengths are d times as long passes
unscaled : (t a b d : ℕ) → 0 < d → unequal (t * d) (a * (d * d)) (b * (d * d)) ≡ false → unequal t a b ≡ false
unscaled t a b d one e = le-ltb (4 * (a * b)) _ (shorter (a + b - t * t) _ (less (leb (t * t) (a + b)) refl) (ltb-false (4 * (a * (d * d) * (b * (d * d)))) _ e))
  where
    less : (c : Bool) → leb (t * t) (a + b) ≡ c → (a + b - t * t) * (d * d) ≤ a * (d * d) + b * (d * d) - t * d * (t * d)
    less true e = exact (a + b - t * t) (let m = leb-true (t * t) (a + b) e in omega arith)
      where
        exact : (s : ℕ) → s + t * t ≡ a + b → s * (d * d) ≤ a * (d * d) + b * (d * d) - t * d * (t * d)
        exact s h = let m : (s + t * t) * (d * d) ≡ (a + b) * (d * d) = rw h in omega arith
    less false e = let z : a + b - t * t ≡ 0 = (let m = leb-false (t * t) (a + b) e in omega arith) in rw (z, N.zero-mul (d * d)) (omega arith)

    shorter : (s z : ℕ) → s * (d * d) ≤ z → z * z ≤ 4 * (a * (d * d) * (b * (d * d))) → s * s ≤ 4 * (a * b)
    shorter s z h k = go (leb (s * s) (4 * (a * b))) refl
      where
        go : (c : Bool) → leb (s * s) (4 * (a * b)) ≡ c → s * s ≤ 4 * (a * b)
        go true e = leb-true (s * s) (4 * (a * b)) e
        go false e =
            let m : s * (d * d) * (s * (d * d)) ≤ z * z = N.mul-le-mul h h in
            let n : (4 * (a * b) + 1) * (d * d * (d * d)) ≤ s * s * (d * d * (d * d)) = N.mul-le-mul (let p = leb-false (s * s) (4 * (a * b)) e in omega arith) (N.le_refl (d * d * (d * d))) in
            let two : 1 * 1 ≤ d * d = N.mul-le-mul one one in
            let four : 1 * 1 ≤ d * d * (d * d) = N.mul-le-mul two two in
            absurd (omega arith)

-- x / d is at least the root of a, the larger, y / d at most that of b, and they lie at most t apart: the pair passes, whichever is the start
pub near_enough : (t a b x y d : ℕ) → 0 < d → b ≤ a → a * (d * d) ≤ x * x → y * y ≤ b * (d * d) → x ≤ y + t * d → (unequal t a b ≡ false) × (unequal t b a ≡ false)
near_enough t a b x y d one l h k m =
    let w : x * x ≤ (y + t * d) * (y + t * d) = N.mul-le-mul m m in
    let f = close (t * d) (a * (d * d)) (b * (d * d)) y (N.mul-le-mul l (N.le_refl (d * d))) k (omega arith) in
    let u = unscaled t a b d one f in
    (u, same_way t b a ∙ u)

-- ---- against roots rounded down

-- "whole square roots, rounded down"
pub record IsRoot (n r : ℕ) : Type 0 where
  pub low : r * r ≤ n
  pub high : n < (r + 1) * (r + 1)

-- where the rule passes, the larger root is no more than t above the other
one_way : (t a b r s : ℕ) → IsRoot a r → IsRoot b s → unequal t a b ≡ false → r ≤ s + t
one_way t a b r s p q e = go (leb r (s + t)) refl
  where
    go : (c : Bool) → leb r (s + t) ≡ c → r ≤ s + t
    go true f = leb-true r (s + t) f
    go false f =
        let h : s + 1 + t ≤ r = omega (arith, leb-false r (s + t) f) in
        absurd (clash (far t a b (s + 1) (omega (arith, q.high)) (omega (arith, p.low, q.high, squares_far t (s + 1) r h))) e)

-- what passes by true distances passed by roots rounded down
pub narrower : (t a b r s : ℕ) → IsRoot a r → IsRoot b s → unequal t a b ≡ false → (r ≤ s + t) × (s ≤ r + t)
narrower t a b r s p q e = (one_way t a b r s p q e, one_way t b a s r q p (same_way t b a ∙ e))
