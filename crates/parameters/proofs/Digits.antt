-- Digits: what is written of a whole number, and of a number in shortest decimals, is read back.
-- Assumes nothing.
use mathlib.Core.Path.{◌≡◌, refl, ap, ◌∙◌, subst}
use mathlib.Core.Bool.{Bool, true, false, cond, ◌&&◌}
use mathlib.Core.List.{List, [], ◌∷◌, ◌++◌}
use Prim.Native.Nat.{ℕ, zero, suc, ◌+◌, ◌-◌, ◌*◌, ◌/◌, ◌%◌, ◌≤◌, ◌<◌}
use native.Mathlib.Omega.{arith}
use native.Mathlib.Nat as N
use native.Mathlib.Numerals.{unary_clauses}
use lib.Dec.{T, eqb, ltb}
use lib.ListN.{length, replicate, length-append}
use lib.IntN.{ℤ, pos, negsuc, nat_abs}
use borrow.Author.Tests.{ltb-true, ltb-false, eqb-true, le-leb}
use Rattle.laws.proofs.Bools.{and_left, and_right, T-eq}
use Rattle.grammar.specs.Bytes.{byte, all}
use Rattle.grammar.specs.Grammar.{NumOk, fraction_digits, digit}
use Rattle.rules.specs.Numbers.{signed, minus}
use Rattle.rules.specs.Meaning.{decimal, negative}
use Rattle.parameters.specs.Places.{before, trimmed, fine, filled, value_in}
use Rattle.parameters.specs.Writing.{last_digit, digits_in, digits_of, without, last, fraction, sign_of, shortest}

-- ---- lists of a class
module _ (p : ℕ → Bool) where
  pub all_append : (xs ys : List ℕ) → T (all p xs) → T (all p ys) → T (all p (xs ++ ys))
  all_append [] ys t h = h
  all_append (x ∷ xs) ys t h = both (p x) t (λ s. all_append xs ys s h)
    where
      both : (c : Bool) → T (c && all p xs) → (T (all p xs) → T (all p (xs ++ ys))) → T (c && all p (xs ++ ys))
      both true s f = f s
      both false s f = s

-- ---- a digit
last_is : (n : ℕ) → last_digit n - byte "0" ≡ n % 10
last_is n = omega arith

last_digit_holds : (n : ℕ) → T (digit (last_digit n))
last_digit_holds n =
    let h : n % 10 < 10 = N.mod-lt n (omega arith) in
    rw (le-leb (byte "0") (last_digit n) (omega arith), le-leb (last_digit n) (byte "9") (omega arith)) tt

-- ---- whole numbers
pub decimal_append : (v : ℕ) (ds es : List ℕ) → decimal v (ds ++ es) ≡ decimal (decimal v ds) es
unfolding decimal
decimal_append v [] es = refl
decimal_append v (d ∷ ds) es = decimal_append (v * 10 + (d - byte "0")) ds es

decimal_last : (v n : ℕ) → decimal v (last_digit n ∷ []) ≡ v * 10 + n % 10
unfolding decimal
decimal_last v n = rw (last_is n)

digits_all_in : (k n : ℕ) → T (all digit (digits_in k n))
digits_all_in zero n = tt
digits_all_in (suc k) n = by (ltb n 10) (digits_all_in k (n / 10))
  where
    one : T (all digit (last_digit n ∷ []))
    one = rw (T-eq (digit (last_digit n)) (last_digit_holds n)) tt

    by : (c : Bool) → T (all digit (digits_in k (n / 10))) → T (all digit (cond c [] (digits_in k (n / 10)) ++ last_digit n ∷ []))
    by true h = one
    by false h = all_append digit (digits_in k (n / 10)) (last_digit n ∷ []) h one

digits_back_in : (k n : ℕ) → n < k → decimal 0 (digits_in k n) ≡ n
digits_back_in zero n h = absurd (omega arith)
digits_back_in (suc k) n h = by (ltb n 10) refl (λ l. digits_back_in k (n / 10) l)
  where
    by : (c : Bool) → ltb n 10 ≡ c → (n / 10 < k → decimal 0 (digits_in k (n / 10)) ≡ n / 10) → decimal 0 (cond c [] (digits_in k (n / 10)) ++ last_digit n ∷ []) ≡ n
    by true e f =
        let l : n < 10 = ltb-true n 10 e in
        decimal_last 0 n ∙ omega arith
    by false e f =
        let l : 10 ≤ n = ltb-false n 10 e in
        decimal_append 0 (digits_in k (n / 10)) (last_digit n ∷ []) ∙ rw (f (omega arith)) (decimal_last (n / 10) n ∙ omega arith)

pub digits_all : (n : ℕ) → T (all digit (digits_of n))
unfolding digits_of
digits_all n = digits_all_in (suc n) n

pub digits_back : (n : ℕ) → decimal 0 (digits_of n) ≡ n
unfolding digits_of
digits_back n = digits_back_in (suc n) n (omega arith)

pub digits_some : (n : ℕ) → 1 ≤ length (digits_of n)
unfolding digits_of
digits_some n = omega (arith, length-append (cond (ltb n 10) [] (digits_in n (n / 10))) (last_digit n ∷ []))

-- ---- the last digits, and what stands before them
decimal_none : (n : ℕ) → decimal n [] ≡ n
unfolding decimal
decimal_none n = refl

last_back : (k n : ℕ) → decimal (without k n) (last k n) ≡ n
last_back zero n = decimal_none n
last_back (suc k) n =
    decimal_append (without k (n / 10)) (last k (n / 10)) (last_digit n ∷ []) ∙ rw (last_back k (n / 10)) (decimal_last (n / 10) n ∙ omega arith)

pub last_length : (k n : ℕ) → length (last k n) ≡ k
last_length zero n = refl
last_length (suc k) n = omega (arith, length-append (last k (n / 10)) (last_digit n ∷ []), last_length k (n / 10))

last_all : (k n : ℕ) → T (all digit (last k n))
last_all zero n = tt
last_all (suc k) n = all_append digit (last k (n / 10)) (last_digit n ∷ []) (last_all k (n / 10)) (rw (T-eq (digit (last_digit n)) (last_digit_holds n)) tt)

-- ---- zeros at the end
pub trim_twice : (ds : List ℕ) → trimmed (trimmed ds) ≡ trimmed ds
trim_twice [] = refl
trim_twice (d ∷ ds) = by (trimmed ds) (trim_twice ds)
  where
    one : (c : Bool) → eqb d (byte "0") ≡ c → trimmed (cond c [] (d ∷ [])) ≡ cond c [] (d ∷ [])
    one true e = refl
    one false e = rw e

    by : (t : List ℕ) → trimmed t ≡ t → trimmed (before d t) ≡ before d t
    by [] e = one (eqb d (byte "0")) refl
    by (x ∷ xs) e = ap (before d) e

pub trim_short : (ds : List ℕ) → length (trimmed ds) ≤ length ds
trim_short [] = omega arith
trim_short (d ∷ ds) = by (trimmed ds) (trim_short ds)
  where
    one : (c : Bool) → length (cond c [] (d ∷ [])) ≤ 1
    one true = omega arith
    one false = omega arith

    by : (t : List ℕ) → length t ≤ length ds → length (before d t) ≤ suc (length ds)
    by [] h = omega (arith, one (eqb d (byte "0")))
    by (x ∷ xs) h = omega arith

trim_all : (ds : List ℕ) → T (all digit ds) → T (all digit (trimmed ds))
trim_all [] t = tt
trim_all (d ∷ ds) t = by (trimmed ds) (trim_all ds (and_right (digit d) (all digit ds) t))
  where
    first : T (digit d)
    first = and_left (digit d) (all digit ds) t

    one : (c : Bool) → T (all digit (cond c [] (d ∷ [])))
    one true = tt
    one false = rw (T-eq (digit d) first) tt

    by : (u : List ℕ) → T (all digit u) → T (all digit (before d u))
    by [] h = one (eqb d (byte "0"))
    by (x ∷ xs) h = rw (T-eq (digit d) first) h

-- filled up again, they are as they were
fill_trim : (ds : List ℕ) → filled (length ds) (trimmed ds) ≡ ds
fill_trim [] = refl
fill_trim (d ∷ ds) = by (trimmed ds) (fill_trim ds)
  where
    one : (c : Bool) → eqb d (byte "0") ≡ c → replicate (length ds) (byte "0") ≡ ds → filled (suc (length ds)) (cond c [] (d ∷ [])) ≡ d ∷ ds
    one true e h = rw (eqb-true d (byte "0") e) (simp unary_clauses (ap (λ (l : List ℕ). byte "0" ∷ l) h))
    one false e h = simp unary_clauses (ap (λ (l : List ℕ). d ∷ l) h)

    by : (t : List ℕ) → filled (length ds) t ≡ ds → filled (suc (length ds)) (before d t) ≡ d ∷ ds
    by [] h = one (eqb d (byte "0")) refl (simp unary_clauses at h)
    by (x ∷ xs) h = simp unary_clauses (ap (λ (l : List ℕ). d ∷ l) (simp unary_clauses at h))

-- ---- shortest decimals
pub fraction_digits_holds : (ds : List ℕ) → fraction_digits (fraction ds) ≡ ds
fraction_digits_holds [] = refl
fraction_digits_holds (d ∷ ds) = refl

sign_back : (z : ℤ) → signed (negative (sign_of (minus z))) (nat_abs z) ≡ z
sign_back (pos n) = refl
sign_back (negsuc n) = refl

pub value_back : (k : ℕ) (z : ℤ) → value_in k (shortest k z) ≡ z
unfolding value_in shortest
value_back k z =
    let m = nat_abs z in
    let f : filled k (trimmed (fraction_digits (fraction (trimmed (last k m))))) ≡ last k m =
    rw (fraction_digits_holds (trimmed (last k m)), trim_twice (last k m)) (subst (λ (j : ℕ). filled j (trimmed (last k m)) ≡ last k m) (last_length k m) (fill_trim (last k m))) in
    rw f (ap (signed (negative (sign_of (minus z)))) (decimal_append 0 (digits_of (without k m)) (last k m) ∙ rw (digits_back (without k m)) (last_back k m)) ∙ sign_back z)

pub value_fine : (k : ℕ) (z : ℤ) → length (fine (shortest k z)) ≤ k
unfolding shortest
value_fine k z =
    let l = last k (nat_abs z) in
    rw (fraction_digits_holds (trimmed l), trim_twice l) (omega (arith, trim_short l, last_length k (nat_abs z)))

pub shortest_ok : (k : ℕ) (z : ℤ) → NumOk (shortest k z)
unfolding shortest
shortest_ok k z =
    let m = nat_abs z in
    record {
      left = digits_all (without k m);
      right = rw (fraction_digits_holds (trimmed (last k m))) (trim_all (last k m) (last_all k m));
      some = omega (arith, length-append (digits_of (without k m)) (fraction_digits (fraction (trimmed (last k m)))), digits_some (without k m));
    }
