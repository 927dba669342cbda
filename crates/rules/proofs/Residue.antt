-- MOD, FIX, FUP and ROUND by what they mean, each with exactly one solution. `residue n d` is the one number from 0 to below the size of d that differs from n by
-- a whole number of d; `down a` the one whole number of units that is at most a and less than a unit below it; `upward a` the one that is at least a and less than
-- a unit above it; `rounded a` the one nearest to a, halves away from zero.
-- Each has two laws: the definition meets the meaning (`-meets`), and whatever meets the meaning is the definition (`-is`), so that two are equal (`-one`).
-- Assumes nothing.
use mathlib.Core.Path.{◌≡◌, refl, sym, ap, ◌∙◌}
use mathlib.Core.Bool.{true, false}
use mathlib.Core.Logic.{◌⊎◌, inl, inr, ⊎_elim}
use Prim.Native.Nat.{ℕ, zero, suc, ◌+◌, ◌-◌, ◌*◌, ◌/◌, ◌%◌, ◌<◌}
use native.Mathlib.Omega.{arith}
use native.Mathlib.Nat as N
use lib.IntN.{ℤ, pos, negsuc, neg_ℤ, nat_abs, neg_ℤ-neg_ℤ, ◌+ℤ◌, ◌-ℤ◌, ◌*ℤ◌}
use lib.Signed.{◌≤ℤ◌, ◌<ℤ◌}
use Rattle.laws.proofs.Ints.{up, dn, up_neg, dn_neg, sum_is, diff_is, abs_is, abs_parts, eq_parts, parts_eq, parts_≤, parts_<, ≤_parts, <_parts, abs_product, up_product, dn_product}
use Rattle.rules.specs.Numbers.{minus, signed, differ, residue, nearest, down, upward, rounded}
use Rattle.rules.proofs.Nearest.{Nearest, nearest_is, nearest_meets, signed_times}

-- "MOD lies from 0 to below the divisor's size and differs from the dividend by a whole number of divisors"
pub record Residue (n d r : ℤ) : Type 0 where
  pub low : pos 0 ≤ℤ r
  pub high : r <ℤ pos (nat_abs d)
  -- n is r and a whole number of d
  pub times : ℤ
  pub whole : n ≡ r +ℤ times *ℤ d

-- ---- one solution
abs_small : (m D : ℕ) → m * D < D → m ≡ 0
abs_small zero D h = refl
abs_small (suc m) D h = absurd (omega arith)

times_diff : (a b c : ℤ) → (a -ℤ b) *ℤ c ≡ a *ℤ c -ℤ b *ℤ c
times_diff a b c = eq_parts ((a -ℤ b) *ℤ c) (a *ℤ c -ℤ b *ℤ c)
    (omega (
      arith,
      diff_is (a *ℤ c) (b *ℤ c),
      up_product (a -ℤ b) c,
      dn_product (a -ℤ b) c,
      up_product a c,
      dn_product a c,
      up_product b c,
      dn_product b c,
      ap (λ (k : ℕ). k * up c) (diff_is a b),
      ap (λ (k : ℕ). k * dn c) (diff_is a b),
    ))

pub residue_one : (n d r t : ℤ) → Residue n d r → Residue n d t → r ≡ t
residue_one n d r t p q =
    let k = p.times in
    let l = q.times in
    let e : r -ℤ t ≡ (l -ℤ k) *ℤ d = eq_parts (r -ℤ t) ((l -ℤ k) *ℤ d)
    (rw (times_diff l k d) (omega (arith, parts_eq n (r +ℤ k *ℤ d) p.whole, parts_eq n (t +ℤ l *ℤ d) q.whole, sum_is r (k *ℤ d), sum_is t (l *ℤ d), diff_is r t, diff_is (l *ℤ d) (k *ℤ d)))) in
    let s : nat_abs (r -ℤ t) ≡ nat_abs (l -ℤ k) * nat_abs d = ap nat_abs e ∙ abs_product (l -ℤ k) d in
    let h : nat_abs (r -ℤ t) < nat_abs d = below in
    let z : nat_abs (l -ℤ k) ≡ 0 = abs_small (nat_abs (l -ℤ k)) (nat_abs d) (omega arith) in
    let y : nat_abs (r -ℤ t) ≡ 0 = s ∙ simp (z, N.zero-mul) in
    eq_parts r t (omega (arith, abs_is (r -ℤ t), diff_is r t))
  where
    below : nat_abs (r -ℤ t) < nat_abs d
    below =
        let a = parts_≤ (pos 0) r p.low in
        let b = parts_< r (pos (nat_abs d)) p.high in
        let c = parts_≤ (pos 0) t q.low in
        let e = parts_< t (pos (nat_abs d)) q.high in
        let g = abs_parts (r -ℤ t) (nat_abs d - 1) (omega (arith, diff_is r t)) (omega (arith, diff_is r t)) in
        omega arith

-- ---- and `residue n d` is it
-- a size with its residue is a whole number of D
rest : (n D : ℕ) → 0 < D → (q : ℕ) × (n + (D - n % D) % D ≡ q * D)
rest n D h = ⊎_elim none some (zero_or (n % D))
  where
    zero_or : (k : ℕ) → (k ≡ 0) ⊎ (0 < k)
    zero_or zero = inl refl
    zero_or (suc k) = inr (omega arith)

    e : n / D * D + n % D ≡ n
    e = N.div-add-mod' n D

    l : n % D < D
    l = N.mod-lt n h

    none : n % D ≡ 0 → (q : ℕ) × (n + (D - n % D) % D ≡ q * D)
    none z = (n / D, rw (z, N.sub-zero D, N.mod_self D) (omega (arith, e)))

    some : 0 < n % D → (q : ℕ) × (n + (D - n % D) % D ≡ q * D)
    some k = (n / D + 1, simp (N.mod-eq_of_lt {n = D - n % D} {m = D} (omega (arith, l))) (omega (arith, e, l)))

pub residue_meets : (n d : ℤ) → 0 < nat_abs d → Residue n d (residue n d)
unfolding residue
residue_meets (pos n) d h =
    record {
      low = ≤_parts (pos 0) (pos (n % nat_abs d)) (omega arith);
      high = <_parts (pos (n % nat_abs d)) (pos (nat_abs d)) (omega (arith, N.mod-lt n h));
      times = signed (differ false (minus d)) (n / nat_abs d);
      whole = rw (signed_times false (n / nat_abs d) d) (ap pos (omega (arith, N.div-add-mod' n (nat_abs d))));
    }
residue_meets (negsuc n) d h =
    let D = nat_abs d in
    let r = (D - suc n % D) % D in
    let w = rest (suc n) D h in
    record {
      low = ≤_parts (pos 0) (pos r) (omega arith);
      high = <_parts (pos r) (pos D) (omega (arith, N.mod-lt (D - suc n % D) h));
      times = signed (differ true (minus d)) w.0;
      whole = rw (signed_times true w.0 d) (eq_parts (negsuc n) (pos r +ℤ neg_ℤ (pos (w.0 * D)))
          (omega (arith, w.1, sum_is (pos r) (neg_ℤ (pos (w.0 * D))), up_neg (pos (w.0 * D)), dn_neg (pos (w.0 * D)))));
    }

pub residue_is : (n d r : ℤ) → 0 < nat_abs d → Residue n d r → r ≡ residue n d
residue_is n d r h p = residue_one n d r (residue n d) p (residue_meets n d h)

-- ---- whole units
-- "FIX goes down"
pub record Floor (a f : ℤ) : Type 0 where
  pub units : ℤ
  pub whole : f ≡ units *ℤ pos 10000
  pub below : f ≤ℤ a
  pub near : a <ℤ (f +ℤ pos 10000)

floor_residue : (a f : ℤ) → Floor a f → Residue a (pos 10000) (a -ℤ f)
floor_residue a f p =
    record {
      low = ≤_parts (pos 0) (a -ℤ f) (omega (arith, diff_is a f, parts_≤ f a p.below));
      high = <_parts (a -ℤ f) (pos 10000) (omega (arith, diff_is a f, sum_is f (pos 10000), parts_< a (f +ℤ pos 10000) p.near));
      times = p.units;
      whole = rw (← p.whole) (eq_parts a (a -ℤ f +ℤ f) (omega (arith, diff_is a f, sum_is (a -ℤ f) f)));
    }

pub floor_is : (a f : ℤ) → Floor a f → f ≡ down a
floor_is a f p =
    let r = residue a (pos 10000) in
    let e : a -ℤ f ≡ r = residue_one a (pos 10000) (a -ℤ f) r (floor_residue a f p) (residue_meets a (pos 10000) (omega arith)) in
    eq_parts f (a -ℤ r) (omega (arith, parts_eq (a -ℤ f) r e, diff_is a f, diff_is a r))

pub floor_one : (a f g : ℤ) → Floor a f → Floor a g → f ≡ g
floor_one a f g p q = floor_is a f p ∙ sym (floor_is a g q)

pub down_meets : (a : ℤ) → Floor a (down a)
down_meets a =
    let r = residue a (pos 10000) in
    let p = residue_meets a (pos 10000) (omega arith) in
    let k = p.times *ℤ pos 10000 in
    record {
      units = p.times;
      whole = eq_parts (a -ℤ r) k (omega (arith, parts_eq a (r +ℤ k) p.whole, diff_is a r, sum_is r k));
      below = ≤_parts (a -ℤ r) a (omega (arith, diff_is a r, parts_≤ (pos 0) r p.low));
      near = <_parts a (a -ℤ r +ℤ pos 10000) (omega (arith, diff_is a r, sum_is (a -ℤ r) (pos 10000), parts_< r (pos 10000) p.high));
    }

-- "FUP up"
pub record Ceil (a f : ℤ) : Type 0 where
  pub units : ℤ
  pub whole : f ≡ units *ℤ pos 10000
  pub above : a ≤ℤ f
  pub near : f <ℤ (a +ℤ pos 10000)

neg_times : (k d : ℤ) → neg_ℤ (k *ℤ d) ≡ neg_ℤ k *ℤ d
neg_times k d = eq_parts (neg_ℤ (k *ℤ d)) (neg_ℤ k *ℤ d)
    (rw (up_neg (k *ℤ d), dn_neg (k *ℤ d), up_product (neg_ℤ k) d, dn_product (neg_ℤ k) d, up_product k d, dn_product k d, up_neg k, dn_neg k) (omega arith))

ceil_floor : (a f : ℤ) → Ceil a f → Floor (neg_ℤ a) (neg_ℤ f)
ceil_floor a f p =
    record {
      units = neg_ℤ p.units;
      whole = ap neg_ℤ p.whole ∙ neg_times p.units (pos 10000);
      below = ≤_parts (neg_ℤ f) (neg_ℤ a) (omega (arith, up_neg a, dn_neg a, up_neg f, dn_neg f, parts_≤ a f p.above));
      near = <_parts (neg_ℤ a) (neg_ℤ f +ℤ pos 10000) (omega (arith, up_neg a, dn_neg a, up_neg f, dn_neg f, sum_is (neg_ℤ f) (pos 10000), sum_is a (pos 10000), parts_< f (a +ℤ pos 10000) p.near));
    }

pub ceil_is : (a f : ℤ) → Ceil a f → f ≡ upward a
ceil_is a f p = sym (neg_ℤ-neg_ℤ f) ∙ ap neg_ℤ (floor_is (neg_ℤ a) (neg_ℤ f) (ceil_floor a f p))

pub ceil_one : (a f g : ℤ) → Ceil a f → Ceil a g → f ≡ g
ceil_one a f g p q = ceil_is a f p ∙ sym (ceil_is a g q)

pub upward_meets : (a : ℤ) → Ceil a (upward a)
upward_meets a =
    let p = down_meets (neg_ℤ a) in
    let f = down (neg_ℤ a) in
    record {
      units = neg_ℤ p.units;
      whole = ap neg_ℤ p.whole ∙ neg_times p.units (pos 10000);
      above = ≤_parts a (neg_ℤ f) (omega (arith, up_neg a, dn_neg a, up_neg f, dn_neg f, parts_≤ f (neg_ℤ a) p.below));
      near = <_parts (neg_ℤ f) (a +ℤ pos 10000) (omega (arith, up_neg a, dn_neg a, up_neg f, dn_neg f, sum_is f (pos 10000), sum_is a (pos 10000), parts_< (neg_ℤ a) (f +ℤ pos 10000) p.near));
    }

-- "ROUND to nearest, halves away from zero"
pub record Rounded (a f : ℤ) : Type 0 where
  pub units : ℤ
  pub whole : f ≡ units *ℤ pos 10000
  pub nearest·units : Nearest a (pos 10000) units

pub rounded_is : (a f : ℤ) → Rounded a f → f ≡ rounded a
rounded_is a f p = p.whole ∙ ap (λ (k : ℤ). k *ℤ pos 10000) (nearest_is a (pos 10000) p.units (omega arith) p.nearest·units)

pub rounded_one : (a f g : ℤ) → Rounded a f → Rounded a g → f ≡ g
rounded_one a f g p q = rounded_is a f p ∙ sym (rounded_is a g q)

pub rounded_meets : (a : ℤ) → Rounded a (rounded a)
rounded_meets a = record { units = nearest a (pos 10000); whole = refl; nearest·units = nearest_meets a (pos 10000) (omega arith) }
