-- Number 14 and true roots: a pair is refused exactly when two fractions show it, one at most the longer root and one at least the shorter, that
-- lie more than t apart (`shown_unequal`, `unequal_shown`). The witness, in steps of 1 / d with d large enough: the shorter root rounded up, and t and a step more.
-- Assumes nothing.
use mathlib.Core.Path.{◌≡◌, refl, sym, ap, ◌∙◌, subst}
use mathlib.Core.Bool.{Bool, true, false}
use mathlib.Core.Logic.{◌⊎◌, inl, inr}
use Prim.Native.Nat.{ℕ, zero, suc, ◌+◌, ◌-◌, ◌*◌, ◌≤◌, ◌<◌}
use native.Mathlib.Nat as N
use native.Mathlib.Omega.{arith}
use lib.Dec.{leb}
use borrow.Author.Tests.{leb-true, leb-false, ltb-true}
use Rattle.rules.specs.Arcs.{unequal}
use Rattle.rules.proofs.Radii.{IsRoot, clash, same_way, close, by_difference, too_unequal}

-- x / d is at most the root of a, y / d at least that of b, and they lie more than t apart
pub record Shown (t a b : ℕ) : Type 0 where
  pub x : ℕ
  pub y : ℕ
  pub d : ℕ
  pub some : 0 < d
  pub longer : x * x ≤ a * (d * d)
  pub shorter : b * (d * d) ≤ y * y
  pub apart : y + t * d < x

-- every number has a whole root
rooted : (n : ℕ) → (r : ℕ) × IsRoot n r
rooted zero = (0, record { low = omega arith; high = omega arith })
rooted (suc n) = let r = rooted n in go r.0 r.1 (leb ((r.0 + 1) * (r.0 + 1)) (suc n)) refl
  where
    go : (r : ℕ) → IsRoot n r → (c : Bool) → leb ((r + 1) * (r + 1)) (suc n) ≡ c → (r : ℕ) × IsRoot (suc n) r
    go r i true e = (r + 1, record { low = leb-true _ _ e; high = omega (arith, i.high) })
    go r i false e = (r, record { low = omega (arith, i.low); high = leb-false _ _ e })

-- what is at most, since it cannot be more
not_more : (m n : ℕ) → (n < m → ⊥) → m ≤ n
not_more m n h = go (leb m n) refl
  where
    go : (c : Bool) → leb m n ≡ c → m ≤ n
    go true e = leb-true m n e
    go false e = absurd (h (leb-false m n e))

squares_less : (m n : ℕ) → m < n → m * m < n * n
squares_less m n h = let k : (m + 1) * (m + 1) ≤ n * n = N.mul-le-mul (omega arith) (omega arith) in omega arith

module _ (t b m s d : ℕ) (some : 0 < m) (wide : d ≡ 8 * (m * (b + t + 2))) (root : IsRoot (b * (d * d)) s) (more : 4 * (b * (t * t)) < m * m) where
  one : 0 < d
  one = let h : 1 * 1 ≤ m * (b + t + 2) = N.mul-le-mul {n₁ = 1} {m₁ = 1} some (omega arith) in omega arith

  -- the root is at most (b + 1) d
  root_small : s ≤ (b + 1) * d
  root_small = not_more s ((b + 1) * d) (λ h.
      let k : (b + 1) * d * ((b + 1) * d) < s * s = squares_less ((b + 1) * d) s h in
      omega (arith, root.low))

  -- twice the root times t is less than m d, by d / 2m at least: e is the square of m less 1
  less : (e : ℕ) → m * m ≡ e + 1 → 4 * (s * t * m) ≤ (2 * e + 1) * d
  less e f = not_more (4 * (s * t * m)) ((2 * e + 1) * d) (λ h.
      let g : s * s * (t * t * (m * m)) ≤ b * (d * d) * (t * t * (m * m)) = N.mul-le-mul root.low (N.le_refl (t * t * (m * m))) in
      let k : 4 * (b * (t * t)) * (d * d * (m * m)) ≤ e * (d * d * (m * m)) = N.mul-le-mul (omega (arith, more)) (N.le_refl (d * d * (m * m))) in
      let l : e * (d * d * (m * m)) ≡ e * (d * d * (e + 1)) = rw f refl in
      omega (arith, squares_less ((2 * e + 1) * d) (4 * (s * t * m)) h))

  fits : (s + 2 + t * d) * (s + 2 + t * d) ≤ (m + b + t * t) * (d * d)
  fits = not_more _ _ (λ h.
      let k : 2 * m * ((m + b + t * t) * (d * d) + 1) ≤ 2 * m * ((s + 2 + t * d) * (s + 2 + t * d)) = N.mul-le-mul (N.le_refl (2 * m)) (omega (arith, h)) in
      let g : 2 * m * (s * s) ≤ 2 * m * (b * (d * d)) = N.mul-le-mul (N.le_refl (2 * m)) root.low in
      let l : m * s ≤ m * ((b + 1) * d) = N.mul-le-mul (N.le_refl m) root_small in
      let o : m * 1 ≤ m * d = N.mul-le-mul (N.le_refl m) one in
      let w : d * d ≡ 8 * (m * (b + t + 2)) * d = ap (λ (z : ℕ). z * d) wide in
      let q : 4 * (s * t * m) * d ≤ (2 * (m * m - 1) + 1) * d * d = N.mul-le-mul (less (m * m - 1) (omega (arith, more))) (N.le_refl d) in
      last (m * m - 1) (omega (arith, more)) q k g l o w)
    where
      last : (e : ℕ) → m * m ≡ e + 1 → 4 * (s * t * m) * d ≤ (2 * e + 1) * d * d
          → 2 * m * ((m + b + t * t) * (d * d) + 1) ≤ 2 * m * ((s + 2 + t * d) * (s + 2 + t * d)) → 2 * m * (s * s) ≤ 2 * m * (b * (d * d))
          → m * s ≤ m * ((b + 1) * d) → m * 1 ≤ m * d → d * d ≡ 8 * (m * (b + t + 2)) * d → ⊥
      last e f q k g l o w =
          let r : 2 * (m * m) * (d * d) ≡ 2 * (e + 1) * (d * d) = rw f refl in
          omega arith

-- the larger sum exceeds the other and t² by m
from_more : (t b m : ℕ) → 0 < m → 4 * (b * (t * t)) < m * m → Shown t (m + b + t * t) b
from_more t b m some more =
    let d = 8 * (m * (b + t + 2)) in
    let r = rooted (b * (d * d)) in
    record {
      x = r.0 + 2 + t * d;
      y = r.0 + 1;
      d = d;
      some = one t b m r.0 d some refl r.1 more;
      longer = fits t b m r.0 d some refl r.1 more;
      shorter = N.le_of_lt r.1.high;
      apart = omega arith;
    }

one_way : (t a b : ℕ) → b ≤ a → unequal t a b ≡ true → Shown t a b
one_way t a b l e =
    let h = not_more (suc (b + t * t)) a (λ k. clash e (close t a b 0 l (omega arith) (omega (arith, k)))) in
    go (a - b - t * t) (omega (arith, h)) (omega (arith, h))
  where
    go : (m : ℕ) → a ≡ m + b + t * t → 0 < m → Shown t a b
    go m f some = subst (λ (n : ℕ). Shown t n b) (sym f) (from_more t b m some (ltb-true (4 * (b * (t * t))) (m * m) (sym (by_difference t b m) ∙ ap (λ (n : ℕ). unequal t n b) (sym f) ∙ e)))

-- what is refused is shown by fractions
pub shown_unequal : (t a b : ℕ) → unequal t a b ≡ true → Shown t a b ⊎ Shown t b a
shown_unequal t a b e = go (leb b a) refl
  where
    go : (c : Bool) → leb b a ≡ c → Shown t a b ⊎ Shown t b a
    go true l = inl (one_way t a b (leb-true b a l) e)
    go false l = inr (one_way t b a (N.le_of_lt (leb-false b a l)) (same_way t b a ∙ e))

-- and what fractions show is refused
pub unequal_shown : (t a b : ℕ) → Shown t a b ⊎ Shown t b a → unequal t a b ≡ true
unequal_shown t a b (inl s) = (too_unequal t a b s.x s.y s.d s.longer s.shorter s.apart).0
unequal_shown t a b (inr s) = (too_unequal t b a s.x s.y s.d s.longer s.shorter s.apart).1
