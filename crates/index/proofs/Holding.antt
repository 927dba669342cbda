-- Entries in order or not: what comes before a number, what stands there, and what the entries are once its place is put right.
-- Assumes nothing.
use mathlib.Core.Path.{◌≡◌, refl, sym, ap, ◌∙◌}
use mathlib.Core.Bool.{Bool, true, false, cond}
use mathlib.Core.List.{List, [], ◌∷◌, ◌++◌}
use Rattle.std.specs.Prelude.{Option, None, Some, Ok, Err}
use Rattle.std.specs.List.{insert, remove}
use Prim.Native.Nat.{ℕ, suc, ◌≤◌, ◌<◌}
use native.Mathlib.Omega.{arith}
use Rattle.std.proofs.lemmas.Bool.Decides.{nat_tests}
use lib.ListN.{length, take, drop, set, take-append-drop}
use Rattle.std.proofs.lemmas.List.{set_split}
use Rattle.index.specs.Index.{Place, place, Entry, front, put}
use Rattle.index.specs.Held.{nth, before, present, spot, found_at}
use Rattle.index.specs.Update.{seek, here, added}

-- ---- what comes before a number, and what stands there

pub before_most : (n : ℕ) (es : List Entry) → before n es ≤ length es
before_most n [] = omega arith
before_most n (e ∷ es) = grind (arith, nat_tests, before_most n es)

abbrev pub There : ℕ → List Entry → Type 0
There n es = (before n es < length es) × ((nth es (before n es)).number ≡ n)

module _ (n : ℕ) where
  -- an entry put right
  put_there : (o : Option Place) (es : List Entry) → There n es → put n o es ≡ take (before n es) es ++ front n o (drop (suc (before n es)) es)
  put_there o [] w = absurd (omega (arith, w.0))
  put_there o (e ∷ es) w = grind (arith, nat_tests, put_there o es)

  put_new : (o : Option Place) (es : List Entry) → ¬ There n es → put n o es ≡ take (before n es) es ++ front n o (drop (before n es) es)
  put_new o [] w = refl
  put_new o (e ∷ es) w = grind (arith, nat_tests, put_new o es)

  -- what is sought
  seek_there : (es : List Entry) → There n es → seek n es ≡ Some (nth es (before n es)).place
  seek_there [] w = absurd (omega (arith, w.0))
  seek_there (e ∷ es) w = grind (arith, nat_tests, seek_there es)

  seek_not : (es : List Entry) → ¬ There n es → seek n es ≡ None
  seek_not [] w = refl
  seek_not (e ∷ es) w = grind (arith, nat_tests, seek_not es)

-- ---- what a search tells

-- the entry i is one of them, and has the number n
abbrev Has : List Entry → ℕ → ℕ → Type 0
Has es i n = (i < length es) × ((nth es i).number ≡ n)

-- so does one that it found
pub spot_ok : (es : List Entry) (i n : ℕ) {j : ℕ} → spot es i n ≡ Ok j → (j ≡ i) × Has es i n
spot_ok es i n e = (grind (arith, nat_tests), (grind (arith, nat_tests), grind (arith, nat_tests)))

-- and no other
pub spot_err : (es : List Entry) (i n : ℕ) {j : ℕ} → spot es i n ≡ Err j → (j ≡ i) × ¬ Has es i n
spot_err es i n e = (grind (arith, nat_tests), λ w. grind (arith, nat_tests))

-- what it found is one of them
pub spot_inside : (es : List Entry) (i n : ℕ) {j : ℕ} → Ok j ≡ spot es i n → j < length es
spot_inside es i n e = let w = spot_ok es i n (sym e) in omega (arith, w.0, w.1.0)

-- the place that it found, or that there is none
pub spot_place : (es : List Entry) (i n : ℕ) {j : ℕ} → Ok j ≡ spot es i n → Some (nth es j).place ≡ found_at es i n
spot_place es i n e = grind (arith, nat_tests)

pub spot_none : (es : List Entry) (i n : ℕ) {j : ℕ} → Err j ≡ spot es i n → None ≡ found_at es i n
spot_none es i n e = grind (arith, nat_tests)

-- the place that stands there is the one that is sought
pub seek_at : (es : List Entry) (n : ℕ) {i : ℕ} → i ≡ before n es → found_at es i n ≡ seek n es
seek_at es n {i} b = go (present es i n) refl
  where
    go : (t : Bool) → present es i n ≡ t → cond t (Some (nth es i).place) None ≡ seek n es
    go true e = let w : There n es = rw (← b) (spot_ok es i n (ap (λ (x : Bool). cond x (Ok i) (Err i)) e)).1 in ap (λ (x : ℕ). Some (nth es x).place) b ∙ sym (seek_there n es w)
    go false e = let w : ¬ There n es = rw (← b) (spot_err es i n (ap (λ (x : Bool). cond x (Ok i) (Err i)) e)).1 in sym (seek_not n es w)

-- ---- what the entries are then

module _ (es : List Entry) (n : ℕ) {i : ℕ} where
  module _ (e : Ok i ≡ spot es (before n es) n) where
    there : There n es
    there = (spot_ok es (before n es) n (sym e)).1

    same : i ≡ before n es
    same = (spot_ok es (before n es) n (sym e)).0

    pub spot_within : i < length es
    spot_within = spot_inside es (before n es) n e

    -- the entry is there, and is written over
    pub put_over : (p : Place) → set es i (record { number = n; place = p }) ≡ put n (Some p) es
    put_over p = let x : Entry = record { number = n; place = p } in set_split es i x spot_within ∙ rw same (sym (put_there n (Some p) es there))

    -- it is taken out
    pub put_out : remove es i ≡ put n None es
    put_out = rw same (sym (put_there n None es there))

    pub added_there : (k at : ℕ) → es ≡ added (Some n) k at es
    added_there k at = sym (ap (λ (o : Option Place). cond (here o) es (put n (Some (place k at)) es)) (seek_there n es there))

  module _ (e : Err i ≡ spot es (before n es) n) where
    not_there : ¬ There n es
    not_there = (spot_err es (before n es) n (sym e)).1

    behind : i ≡ before n es
    behind = (spot_err es (before n es) n (sym e)).0

    pub spot_low : i ≤ length es
    spot_low = omega (arith, behind, before_most n es)

    -- it is not, and comes in
    pub put_in : (p : Place) → insert es i (record { number = n; place = p }) ≡ put n (Some p) es
    put_in p = rw behind (sym (put_new n (Some p) es not_there))

    -- it is not, and nothing is done
    pub put_none : es ≡ put n None es
    put_none = sym (put_new n None es not_there ∙ take-append-drop (before n es) es)

    pub added_new : (p : Place) → insert es i (record { number = n; place = p }) ≡ added (Some n) p.line p.start es
    added_new p = put_in p ∙ sym (ap (λ (o : Option Place). cond (here o) es (put n (Some p) es)) (seek_not n es not_there))
