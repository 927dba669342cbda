-- The first byte in which two lines differ, byte by byte; and that a repair changed a line where there is one.
-- Assumes nothing.
use mathlib.Core.Path.{◌≡◌, refl, sym, ◌∙◌}
use mathlib.Core.Bool.{Bool, true, false, cond, ◌&&◌, not}
use mathlib.Core.List.{List, [], ◌∷◌}
use Prim.Native.Nat.{ℕ, suc, ◌+◌, ◌≤◌, ◌<◌, min}
use native.Mathlib.Omega.{arith}
use borrow.Author.Tests.{eq-eqb, ne_eqb, eqb-true, ltb-true, ltb-false}
use lib.Dec.{eqb, ltb}
use lib.ListN.{length, drop, drop_of_length-le}
use lib.Seq.{drop-cons}
use Rattle.mend.specs.Repairs.{lone_percent, emptied, remarked, unremarked, repaired}
use Rattle.mend.specs.Mend.{same, differs, which}
use Rattle.mend.specs.Line.{added_up, number_of, repairs_in}

module _ (a b : List ℕ) (i k : ℕ) where
  pub differs_shorter : i < length a → length b ≤ i → k ≡ differs k (drop i a) (drop i b)
  differs_shorter h n = rw (drop-cons a i 0 h, drop_of_length-le b n)

  pub differs_longer : length a ≤ i → i < length b → k ≡ differs k (drop i a) (drop i b)
  differs_longer h n = rw (drop_of_length-le a h, drop-cons b i 0 n)

  pub differs_none : length a ≤ i → length b ≤ i → 0 ≡ differs k (drop i a) (drop i b)
  differs_none h n = rw (drop_of_length-le a h, drop_of_length-le b n)

-- there is none where the lines are the same, and only there
same_differs : (k : ℕ) (a b : List ℕ) → same a b ≡ eqb (differs (suc k) a b) 0
same_differs k [] [] = refl
same_differs k [] (y ∷ ys) = sym (ne_eqb (suc k) 0 (λ (e : suc k ≡ 0). omega arith))
same_differs k (x ∷ xs) [] = sym (ne_eqb (suc k) 0 (λ (e : suc k ≡ 0). omega arith))
same_differs k (x ∷ xs) (y ∷ ys) = by (eqb x y) (same_differs (suc k) xs ys)
  where
    by : (t : Bool) → same xs ys ≡ eqb (differs (suc (suc k)) xs ys) 0 → (t && same xs ys) ≡ eqb (cond t (differs (suc (suc k)) xs ys) (suc k)) 0
    by true e = e
    by false e = sym (ne_eqb (suc k) 0 (λ (f : suc k ≡ 0). omega arith))

same_self : (s : List ℕ) → same s s ≡ true
same_self [] = refl
same_self (x ∷ s) = rw (eq-eqb x x refl) (same_self s)

pub same_only : (a b : List ℕ) → same a b ≡ true → a ≡ b
same_only [] [] e = refl
same_only [] (y ∷ ys) e = cc
same_only (x ∷ xs) [] e = cc
same_only (x ∷ xs) (y ∷ ys) e = by (eqb x y) refl e (same_only xs ys)
  where
    by : (t : Bool) → eqb x y ≡ t → (t && same xs ys) ≡ true → (same xs ys ≡ true → xs ≡ ys) → x ∷ xs ≡ y ∷ ys
    by true h k f = let p = eqb-true x y h in let q = f k in cc
    by false h k f = cc

-- two lines that are alike as far as the shorter goes
pub differs_end : (a b : List ℕ) (i : ℕ) → i ≡ min (length a) (length b) → differs (i + 1) (drop i a) (drop i b) ≡ differs 1 a b → (a ≡ b → ⊥) → i + 1 ≡ differs 1 a b
differs_end a b i m e n = by (ltb i (length a)) (ltb i (length b)) refl refl
  where
    by : (t u : Bool) → ltb i (length a) ≡ t → ltb i (length b) ≡ u → i + 1 ≡ differs 1 a b
    by true true p q = absurd (omega (arith, ltb-true i (length a) p, ltb-true i (length b) q))
    by true false p q = differs_shorter a b i (i + 1) (ltb-true i (length a) p) (ltb-false i (length b) q) ∙ e
    by false true p q = differs_longer a b i (i + 1) (ltb-false i (length a) p) (ltb-true i (length b) q) ∙ e
    by false false p q =
        let z : 0 ≡ differs 1 a b = differs_none a b i (i + 1) (ltb-false i (length a) p) (ltb-false i (length b) q) ∙ e in
        absurd (n (same_only a b (same_differs 0 a b ∙ rw (← z))))

-- a line that is one `%` and blanks has a byte
pub lone_some : (s : List ℕ) → true ≡ lone_percent s → (differs 1 s [] ≡ 1) × (same s [] ≡ false)
lone_some [] e = let z : ◌≡◌ {A = ℕ} 0 1 = cc in absurd (omega arith)
lone_some (b ∷ s) e = (refl, refl)

-- which repairs changed a line that is not one `%` and blanks
pub repairs_are : (s : List ℕ) → false ≡ lone_percent s
    → record { percent = false; remark = not (same s (remarked 0 s)); nested = not (same (remarked 0 s) (repaired s)) } ≡ repairs_in (which s)
unfolding which emptied unremarked
repairs_are s h = rw (← h, same_self s) (by (same s (remarked 0 s)) (same (remarked 0 s) (repaired s)))
  where
    by : (t u : Bool) → record { percent = false; remark = not t; nested = not u } ≡ repairs_in (cond t (cond u [] (3 ∷ [])) (2 ∷ cond u [] (3 ∷ [])))
    by true true = refl
    by true false = refl
    by false true = refl
    by false false = refl

-- the repairs as one number
pub number_is : (s : List ℕ) → number_of (repairs_in (which s)) ≡ added_up (which s)
unfolding which
number_is s = by (same s (emptied s)) (same (emptied s) (unremarked s)) (same (unremarked s) (repaired s))
  where
    by : (t u v : Bool) → number_of (repairs_in (cond t (cond u (cond v [] (3 ∷ [])) (2 ∷ cond v [] (3 ∷ []))) (1 ∷ cond u (cond v [] (3 ∷ [])) (2 ∷ cond v [] (3 ∷ [])))))
        ≡ added_up (cond t (cond u (cond v [] (3 ∷ [])) (2 ∷ cond v [] (3 ∷ []))) (1 ∷ cond u (cond v [] (3 ∷ [])) (2 ∷ cond v [] (3 ∷ []))))
    by true true true = refl
    by true true false = refl
    by true false true = refl
    by true false false = refl
    by false true true = refl
    by false true false = refl
    by false false true = refl
    by false false false = refl

-- and by the bytes in which each changed the line: none where it did not
pub added_is : (s : List ℕ) → false ≡ lone_percent s
    → cond (eqb (differs 1 s (remarked 0 s)) 0) 0 2 + cond (eqb (differs 1 (remarked 0 s) (repaired s)) 0) 0 4 ≡ added_up (which s)
unfolding which emptied unremarked
added_is s h = rw (← h, same_self s, same_differs 0 s (remarked 0 s), same_differs 0 (remarked 0 s) (repaired s)) (by (eqb (differs 1 s (remarked 0 s)) 0) (eqb (differs 1 (remarked 0 s) (repaired s)) 0))
  where
    by : (t u : Bool) → cond t 0 2 + cond u 0 4 ≡ added_up (cond t (cond u [] (3 ∷ [])) (2 ∷ cond u [] (3 ∷ [])))
    by true true = refl
    by true false = refl
    by false true = refl
    by false false = refl
