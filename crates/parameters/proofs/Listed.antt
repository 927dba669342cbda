-- The entries that are written: each is of right form, none is refused, and each gives back what was held.
-- Assumes nothing.
use mathlib.Core.Path.{◌≡◌, refl, ap, ◌∙◌, subst}
use mathlib.Core.Bool.{Bool, true, false, cond, ◌&&◌, ◌||◌}
use mathlib.Core.List.{[], ◌∷◌, ◌++◌, map}
use mathlib.Core.Option.{some}
use Prim.Native.Nat.{ℕ, zero, suc, ◌+◌, ◌≤◌, ◌<◌}
use native.Mathlib.Omega.{arith}
use lib.Dec.{T, eqb, eqb-suc-zero}
use lib.ListN.{length}
use lib.IntN.{ℤ, pos, negsuc}
use borrow.Author.Tests.{le-leb, le-ltb, ne_eqb, eqb-true, eqb-false}
use Rattle.laws.proofs.Bools.{T-eq}
use Rattle.rules.specs.Numbers.{is_true}
use Rattle.parameters.specs.File.{EntryOk}
use Rattle.parameters.specs.Places.{stands_for, decimals, allowed, fine, judged, unfit}
use Rattle.parameters.specs.declared.places.Place.{Place}
use Rattle.parameters.specs.Reading.{number_of, line_refusal, refusal, unsaid, value_at, given}
use Rattle.parameters.specs.Writing.{shortest, entry_for, said, entries_from}
use Rattle.parameters.proofs.Digits.{digits_all, digits_back, digits_some, value_back, value_fine, shortest_ok}
use Rattle.parameters.proofs.Cut.{All}

-- ---- one entry
pub entry_ok : (n : ℕ) (z : ℤ) → EntryOk (entry_for n z)
unfolding entry_for
entry_ok n z = record { digits = digits_all n; blanks = tt; some = digits_some n; apart = omega arith; number = shortest_ok (decimals (stands_for n)) z }

pub number_is : (n : ℕ) (z : ℤ) → number_of (entry_for n z) ≡ n
unfolding entry_for
number_is n z = digits_back n

value_of : (n : ℕ) (z : ℤ) → (entry_for n z).value ≡ shortest (decimals (stands_for n)) z
unfolding entry_for
value_of n z = refl

pub value_is : (n : ℕ) (z : ℤ) → value_at (entry_for n z) ≡ z
value_is n z = rw (number_is n z, value_of n z) (value_back (decimals (stands_for n)) z)

fit : (p : Place) (z : ℤ) → T (allowed p z) → unfit p (shortest (decimals p) z) ≡ false
unfolding unfit
fit p z t = rw (le-ltb (decimals p) (length (fine (shortest (decimals p) z))) (value_fine (decimals p) z), value_back (decimals p) z, T-eq (allowed p z) t) (never (judged p))
  where
    never : (c : Bool) → (c && false) ≡ false
    never true = refl
    never false = refl

not_refused : (least n : ℕ) (z : ℤ) → least ≤ n → 1 ≤ n → n ≤ 5399 → T (allowed (stands_for n) z) → line_refusal least (some (entry_for n z)) ≡ 0
unfolding line_refusal
not_refused least n z h l m t =
    rw (number_is n z, value_of n z) (rw (le-ltb n least h, le-leb 1 n l, le-leb n 5399 m, fit (stands_for n) z t))

-- ---- all of them
module _ (hold : ℕ → ℤ) where
  pub entries_ok : (n many : ℕ) → All EntryOk (entries_from hold n many)
  entries_ok n zero = tt
  entries_ok n (suc many) = by (said n (hold n)) (entries_ok (suc n) many)
    where
      by : (c : Bool) → All EntryOk (entries_from hold (suc n) many) → All EntryOk (cond c (entry_for n (hold n) ∷ []) [] ++ entries_from hold (suc n) many)
      by true h = (entry_ok n (hold n), h)
      by false h = h

  pub none_refused : ((n : ℕ) → T (allowed (stands_for n) (hold n))) → (least n many : ℕ) → least ≤ n → 1 ≤ n → n + many ≤ 5400 → refusal least (map some (entries_from hold n many)) ≡ 0
  none_refused fits least n zero h l m = refl
  none_refused fits least n (suc many) h l m =
      by (said n (hold n)) (λ low g. none_refused fits low (suc n) many g (omega arith) (omega arith))
    where
      by : (c : Bool) → ((low : ℕ) → low ≤ suc n → refusal low (map some (entries_from hold (suc n) many)) ≡ 0)
          → refusal least (map some (cond c (entry_for n (hold n) ∷ []) [] ++ entries_from hold (suc n) many)) ≡ 0
      by true f = rw (not_refused least n (hold n) h l (omega arith) (fits n), number_is n (hold n)) (f (suc n) (omega arith))
      by false f = f least (omega arith)

  -- a number that comes before them is not said
  given_none : (n many m : ℕ) → m < n → given (entries_from hold n many) m ≡ unsaid m
  given_none n zero m h = refl
  given_none n (suc many) m h = by (said n (hold n)) (given_none (suc n) many m (omega arith))
    where
      by : (c : Bool) → given (entries_from hold (suc n) many) m ≡ unsaid m → given (cond c (entry_for n (hold n) ∷ []) [] ++ entries_from hold (suc n) many) m ≡ unsaid m
      by true e = rw (number_is n (hold n), ne_eqb n m (λ q. omega arith)) e
      by false e = e

  -- what is not said is what a file means that does not say it
  unsaid_is : (n : ℕ) → said n (hold n) ≡ false → unsaid n ≡ hold n
  unsaid_is n e = by (hold n) (eqb n 5220) e
    where
      by : (z : ℤ) (c : Bool) → (is_true z || c) ≡ false → pos (cond c 1 0) ≡ z
      by (pos zero) true q = absurd (subst T q tt)
      by (pos zero) false q = refl
      by (pos (suc k)) c q = absurd (subst T (rw (eqb-suc-zero k) at q) tt)
      by (negsuc k) c q = absurd (subst T (rw (eqb-suc-zero k) at q) tt)

  pub given_is : (n many m : ℕ) → n ≤ m → m < n + many → given (entries_from hold n many) m ≡ hold m
  given_is n zero m h l = absurd (omega arith)
  given_is n (suc many) m h l = by (eqb n m) refl (λ g. given_is (suc n) many m g (omega arith))
    where
      later : (c : Bool) → eqb n m ≡ false → given (entries_from hold (suc n) many) m ≡ hold m → given (cond c (entry_for n (hold n) ∷ []) [] ++ entries_from hold (suc n) many) m ≡ hold m
      later true q e = rw (number_is n (hold n), q) e
      later false q e = e

      here : (c : Bool) → said n (hold n) ≡ c → eqb n m ≡ true → n ≡ m → given (cond c (entry_for n (hold n) ∷ []) [] ++ entries_from hold (suc n) many) m ≡ hold m
      here true s q e = rw (number_is n (hold n), q) ((rw (number_is n (hold n)) at (value_is n (hold n))) ∙ ap hold e)
      here false s q e = given_none (suc n) many m (omega arith) ∙ subst (λ (k : ℕ). unsaid k ≡ hold k) e (unsaid_is n s)

      by : (c : Bool) → eqb n m ≡ c → (suc n ≤ m → given (entries_from hold (suc n) many) m ≡ hold m) → given (entries_from hold n (suc many)) m ≡ hold m
      by true q f = here (said n (hold n)) refl q (eqb-true n m q)
      by false q f = later (said n (hold n)) q (f (let d = eqb-false n m q in omega arith))
