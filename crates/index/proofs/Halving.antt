-- A search that halves: where it ends does not depend on the steps allowed, and where the entries rise it ends at the first number that is not below.
-- Assumes nothing.
use mathlib.Core.Path.{◌≡◌, refl, ap, ◌∙◌}
use mathlib.Core.Bool.{Bool, cond}
use mathlib.Core.List.{List, [], ◌∷◌}
use Prim.Native.Nat.{ℕ, zero, suc, ◌+◌, ◌-◌, ◌/◌, ◌≤◌, ◌<◌}
use native.Mathlib.Omega.{arith}
use borrow.Author.Tests.{lt-ltb, le-ltb}
use lib.Dec.{ltb}
use Rattle.std.proofs.lemmas.Bool.Decides.{nat_tests}
use lib.ListN.{length}
use Rattle.index.specs.Index.{Entry, RisingFrom, find}
use Rattle.index.specs.Held.{nth, before, halved, searched, sought}
use Rattle.index.specs.Update.{seek}
use Rattle.index.proofs.Entries.{find_below}
use Rattle.index.proofs.Holding.{before_most, seek_at}

-- ---- the steps

module _ (l : List Entry) (n : ℕ) where
  abbrev step : (ℕ → ℕ → ℕ) → ℕ → ℕ → ℕ
  step rest low high = cond (ltb low high) (cond (ltb ((nth l (low + (high - low) / 2)).number) n) (rest (low + (high - low) / 2 + 1) high) (rest low (low + (high - low) / 2))) low

  -- so many steps are enough
  pub enough : (f g low high : ℕ) → high - low ≤ f → high - low ≤ g → halved f l n low high ≡ halved g l n low high
  enough zero zero low high a b = refl
  enough zero (suc g) low high a b = grind (arith, nat_tests)
  enough (suc f) zero low high a b = grind (arith, nat_tests)
  enough (suc f) (suc g) low high a b = grind (arith, nat_tests, enough f g (low + (high - low) / 2 + 1) high, enough f g low (low + (high - low) / 2))

  module _ (low high : ℕ) (h : low < high) where
    one_step : halved (high - low) l n low high ≡ step (halved (high - low - 1) l n) low high
    one_step = let e : high - low ≡ suc (high - low - 1) = omega arith in ap (λ (f : ℕ). halved f l n low high) e

    pub halve_up : (nth l (low + (high - low) / 2)).number < n → halved (high - low) l n low high ≡ halved (high - (low + (high - low) / 2 + 1)) l n (low + (high - low) / 2 + 1) high
    halve_up g =
        one_step
        ∙ ap (λ (t : Bool). cond t (cond (ltb ((nth l (low + (high - low) / 2)).number) n) (halved (high - low - 1) l n (low + (high - low) / 2 + 1) high) (halved (high - low - 1) l n low (low + (high - low) / 2))) low) (lt-ltb low high h)
        ∙ ap (λ (t : Bool). cond t (halved (high - low - 1) l n (low + (high - low) / 2 + 1) high) (halved (high - low - 1) l n low (low + (high - low) / 2))) (lt-ltb ((nth l (low + (high - low) / 2)).number) n g)
        ∙ enough (high - low - 1) (high - (low + (high - low) / 2 + 1)) (low + (high - low) / 2 + 1) high (omega arith) (omega arith)

    pub halve_down : n ≤ (nth l (low + (high - low) / 2)).number → halved (high - low) l n low high ≡ halved (low + (high - low) / 2 - low) l n low (low + (high - low) / 2)
    halve_down g =
        one_step
        ∙ ap (λ (t : Bool). cond t (cond (ltb ((nth l (low + (high - low) / 2)).number) n) (halved (high - low - 1) l n (low + (high - low) / 2 + 1) high) (halved (high - low - 1) l n low (low + (high - low) / 2))) low) (lt-ltb low high h)
        ∙ ap (λ (t : Bool). cond t (halved (high - low - 1) l n (low + (high - low) / 2 + 1) high) (halved (high - low - 1) l n low (low + (high - low) / 2))) (le-ltb ((nth l (low + (high - low) / 2)).number) n g)
        ∙ enough (high - low - 1) (low + (high - low) / 2 - low) low (low + (high - low) / 2) (omega arith) (omega arith)

  pub halves_all : halved (length l - 0) l n 0 (length l) ≡ searched l n
  unfolding searched
  halves_all = enough (length l - 0) (length l) 0 (length l) (omega arith) (omega arith)

-- ---- where the entries rise

rising_above : (b : ℕ) (es : List Entry) (i : ℕ) → RisingFrom b es → i < length es → b ≤ (nth es i).number
rising_above b [] i r h = absurd (omega arith)
rising_above b (e ∷ es) zero r h = r.0
rising_above b (e ∷ es) (suc i) r h = let k = rising_above (suc e.number) es i r.1 (omega arith) in omega (arith, r.0)

-- an entry with a lower number comes before
lower_before : (b n : ℕ) (es : List Entry) (i : ℕ) → RisingFrom b es → i < length es → (nth es i).number < n → i < before n es
lower_before b n [] i r h l = absurd (omega arith)
lower_before b n (e ∷ es) zero r h l = grind (arith, nat_tests)
lower_before b n (e ∷ es) (suc i) r h l = grind (arith, nat_tests, rising_above (suc e.number) es i, lower_before (suc e.number) n es i)

-- any other does not
other_behind : (n : ℕ) (es : List Entry) (i : ℕ) → i < length es → n ≤ (nth es i).number → before n es ≤ i
other_behind n [] i h l = absurd (omega arith)
other_behind n (e ∷ es) zero h l = grind (arith, nat_tests)
other_behind n (e ∷ es) (suc i) h l = grind (arith, nat_tests, other_behind n es i)

module _ (l : List Entry) (n : ℕ) (r : RisingFrom 0 l) where
  between : (f low high : ℕ) → high - low ≤ f → high ≤ length l → low ≤ before n l → before n l ≤ high → halved f l n low high ≡ before n l
  between zero low high a b x y = omega arith
  between (suc f) low high a b x y =
      grind (arith, nat_tests, between f (low + (high - low) / 2 + 1) high, between f low (low + (high - low) / 2), lower_before 0 n l (low + (high - low) / 2) r, other_behind n l (low + (high - low) / 2))

  -- the search counts the entries with lower numbers
  pub search_is : searched l n ≡ before n l
  unfolding searched
  search_is = between (length l) 0 (length l) (omega arith) (omega arith) (omega arith) (before_most n l)

-- ---- and asking is answered

pub seek_find : (b n : ℕ) (es : List Entry) → RisingFrom b es → seek n es ≡ find n es
seek_find b n [] r = refl
seek_find b n (e ∷ es) r = grind (arith, nat_tests, seek_find (suc e.number) n es, find_below n (suc e.number) es)

-- "Asking for a number gives that place, or `none`"
pub sought_is : (l : List Entry) (n : ℕ) → RisingFrom 0 l → sought l n ≡ find n l
unfolding sought
sought_is l n r = seek_at l n (search_is l n r) ∙ seek_find 0 n l r
