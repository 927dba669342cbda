-- Entries that rise: what is found in them, one entry put right, and that what is found tells them all.
-- Assumes nothing.
use mathlib.Core.Path.{◌≡◌, refl, sym, ap, ◌∙◌}
use mathlib.Core.List.{List, [], ◌∷◌}
use Rattle.std.specs.Prelude.{Option, None, Some}
use Prim.Native.Nat.{ℕ, suc, ◌≤◌, ◌<◌}
use native.Mathlib.Omega.{arith}
use native.Mathlib.Decide.{ℕ_discrete, dec_lt}
use borrow.Author.Tests.{ne_eqb, eq-eqb}
use Rattle.std.proofs.lemmas.Bool.Decides.{nat_tests}
use Rattle.index.specs.Index.{Place, Entry, RisingFrom, find, front, put}

pub lower : (m n : ℕ) (es : List Entry) → m ≤ n → RisingFrom n es → RisingFrom m es
lower m n [] h r = tt
lower m n (e ∷ es) h r = (omega (arith, r.0), r.1)

-- nothing is found below the first number
pub find_below : (m n : ℕ) (es : List Entry) → m < n → RisingFrom n es → find m es ≡ None
find_below m n [] h r = refl
find_below m n (e ∷ es) h r = rw (ne_eqb e.number m (λ p. omega (arith, r.0))) (find_below m (suc e.number) es (omega (arith, r.0)) r.1)

find_here : (n : ℕ) (e : Entry) (es : List Entry) → e.number ≡ n → find n (e ∷ es) ≡ Some e.place
find_here n e es h = rw (eq-eqb e.number n h)

find_past : (n : ℕ) (e : Entry) (es : List Entry) → (e.number ≡ n → ⊥) → find n (e ∷ es) ≡ find n es
find_past n e es h = rw (ne_eqb e.number n h)

apart : (x y : ℕ) → (x ≡ y → ⊥) → y ≤ x → y < x
apart x y f h = omega arith

-- ---- an entry put right

front_rises : (b n : ℕ) (o : Option Place) (es : List Entry) → b ≤ n → RisingFrom (suc n) es → RisingFrom b (front n o es)
front_rises b n None es h r = lower b (suc n) es (omega arith) r
front_rises b n (Some p) es h r = (h, r)

pub put_rises : (b n : ℕ) (o : Option Place) (es : List Entry) → b ≤ n → RisingFrom b es → RisingFrom b (put n o es)
put_rises b n o [] h r = front_rises b n o [] h tt
put_rises b n o (e ∷ es) h r = grind (arith, nat_tests, put_rises (suc e.number) n o es, lower (suc n) (suc e.number) es, front_rises b n o es, front_rises b n o (e ∷ es))

front_same : (n : ℕ) (o : Option Place) (es : List Entry) → find n es ≡ None → find n (front n o es) ≡ o
front_same n None es h = h
front_same n (Some p) es h = rw (eq-eqb n n refl)

front_other : (m n : ℕ) (o : Option Place) (es : List Entry) → (n ≡ m → ⊥) → find m (front n o es) ≡ find m es
front_other m n None es h = refl
front_other m n (Some p) es h = rw (ne_eqb n m h)

pub put_same : (b n : ℕ) (o : Option Place) (es : List Entry) → RisingFrom b es → find n (put n o es) ≡ o
put_same b n o [] r = front_same n o [] refl
put_same b n o (e ∷ es) r = grind (arith, nat_tests, put_same (suc e.number) n o es, front_same n o es, front_same n o (e ∷ es), find_below n (suc e.number) es)

pub put_other : (m n : ℕ) (o : Option Place) (es : List Entry) → (n ≡ m → ⊥) → find m (put n o es) ≡ find m es
put_other m n o [] h = front_other m n o [] h
put_other m n o (e ∷ es) h = grind (arith, nat_tests, put_other m n o es h, front_other m n o es h, front_other m n o (e ∷ es) h)

-- ---- two lists that rise and answer alike are one

entry_is : (e f : Entry) → e.number ≡ f.number → e.place ≡ f.place → e ≡ f
entry_is e f p q =
    ap (λ (x : ℕ). let z : Entry = record { number = x; place = e.place } in z) p
    ∙ ap (λ (x : Place). let z : Entry = record { number = f.number; place = x } in z) q

-- what the first entry is, where both are found alike
heads : (e f : Entry) (es fs : List Entry) → e.number ≡ f.number → find e.number (e ∷ es) ≡ find e.number (f ∷ fs) → e ≡ f
heads e f es fs k h =
    let p : Some e.place ≡ Some f.place = sym (find_here e.number e es refl) ∙ h ∙ find_here e.number f fs (sym k) in
    let q : e.place ≡ f.place = cc in
    entry_is e f k q

tails : (e f : Entry) (es fs : List Entry) → e.number ≡ f.number → RisingFrom (suc e.number) es → RisingFrom (suc e.number) fs → ((n : ℕ) → find n (e ∷ es) ≡ find n (f ∷ fs))
    → (n : ℕ) → find n es ≡ find n fs
tails e f es fs k r q h n = grind (arith, nat_tests, h n, find_below n (suc e.number) es, find_below n (suc e.number) fs)

-- the lower of two first numbers is found in one list only
lower_found : (e f : Entry) (es fs : List Entry) → e.number < f.number → RisingFrom (suc f.number) fs → find e.number (e ∷ es) ≡ find e.number (f ∷ fs) → ⊥
lower_found e f es fs l q h = grind (arith, nat_tests, find_below e.number (suc f.number) fs)

pub same_entries : (b : ℕ) (es fs : List Entry) → RisingFrom b es → RisingFrom b fs → ((n : ℕ) → find n es ≡ find n fs) → es ≡ fs
same_entries b [] [] r q h = refl
same_entries b [] (f ∷ fs) r q h = grind (arith, nat_tests, h f.number)
same_entries b (e ∷ es) [] r q h = grind (arith, nat_tests, h e.number)
same_entries b (e ∷ es) (f ∷ fs) r q h = go (ℕ_discrete e.number f.number) (λ s g. same_entries (suc e.number) es fs r.1 s g)
  where
    go : Dec (e.number ≡ f.number) → (RisingFrom (suc e.number) fs → ((n : ℕ) → find n es ≡ find n fs) → es ≡ fs) → e ∷ es ≡ f ∷ fs
    go (yes k) rest =
        let s = lower (suc e.number) (suc f.number) fs (omega arith) q.1 in
        let a : e ≡ f = heads e f es fs k (h e.number) in
        let b : es ≡ fs = rest s (tails e f es fs k r.1 s h) in
        cc
    go (no k) rest = absurd (by (dec_lt e.number f.number))
      where
        by : Dec (e.number < f.number) → ⊥
        by (yes l) = lower_found e f es fs l q.1 (h e.number)
        by (no l) = lower_found f e fs es (apart e.number f.number k (omega arith)) r.1 (sym (h f.number))
