-- Digits as code comes to them: counted, cut and put one after the other.
-- Assumes nothing.
use mathlib.Core.Path.{◌≡◌, refl, sym, ap, ◌∙◌, subst}
use mathlib.Core.Bool.{Bool, true, false, cond}
use mathlib.Core.List.{List, [], ◌∷◌, ◌++◌}
use Prim.Native.Nat.{ℕ, zero, suc, ◌+◌, ◌-◌, ◌/◌, ◌%◌, ◌≤◌, ◌<◌}
use native.Mathlib.Omega.{arith}
use lib.Dec.{ltb}
use lib.IntN.{nat_abs}
use lib.ListN.{length, set, length-append}
use lib.Seq.{sets}
use borrow.Author.Tests.{ltb-false, lt-ltb, le-ltb, ne_eqb}
use Rattle.grammar.specs.Bytes.{byte}
use Rattle.grammar.specs.Grammar.{spell_sign, write_fraction, write_number}
use Rattle.rules.specs.Numbers.{minus, signed}
use Rattle.frames.proofs.Stores.{sets_append, set_behind}
use Rattle.parameters.specs.Places.{before, trimmed}
use Rattle.parameters.specs.Writing.{last_digit, digits_in, digits_of, without, last, fraction, sign_of, shortest}
use Rattle.parameters.specs.Text.{Cut}
use Rattle.parameters.proofs.Digits.{last_length, trim_short}

-- ---- counted
enough : (k j n : ℕ) → n < k → n < j → digits_in k n ≡ digits_in j n
enough zero j n h l = absurd (omega arith)
enough (suc k) zero n h l = absurd (omega arith)
enough (suc k) (suc j) n h l = by (ltb n 10) refl (λ a b. enough k j (n / 10) a b)
  where
    by : (c : Bool) → ltb n 10 ≡ c → (n / 10 < k → n / 10 < j → digits_in k (n / 10) ≡ digits_in j (n / 10))
        → cond c [] (digits_in k (n / 10)) ++ last_digit n ∷ [] ≡ cond c [] (digits_in j (n / 10)) ++ last_digit n ∷ []
    by true e f = refl
    by false e f =
        let g : 10 ≤ n = ltb-false n 10 e in
        ap (λ (t : List ℕ). t ++ last_digit n ∷ []) (f (omega arith) (omega arith))

pub count_one : (n : ℕ) → n < 10 → length (digits_of n) ≡ 1
unfolding digits_of
count_one n h = rw (lt-ltb n 10 h)

digits_step : (n : ℕ) → 10 ≤ n → digits_of n ≡ digits_of (n / 10) ++ last_digit n ∷ []
unfolding digits_of
digits_step n h = rw (le-ltb n 10 h) (ap (λ (t : List ℕ). t ++ last_digit n ∷ []) (enough n (suc (n / 10)) (n / 10) (omega arith) (omega arith)))

pub count_step : (n : ℕ) → 10 ≤ n → length (digits_of n) ≡ suc (length (digits_of (n / 10)))
count_step n h = ap length (digits_step n h) ∙ omega (arith, length-append (digits_of (n / 10)) (last_digit n ∷ []))

last_in : (k n : ℕ) → n < k → last (length (digits_in k n)) n ≡ digits_in k n
last_in zero n h = absurd (omega arith)
last_in (suc k) n h = by (ltb n 10) refl (λ a. last_in k (n / 10) a)
  where
    by : (c : Bool) → ltb n 10 ≡ c → (n / 10 < k → last (length (digits_in k (n / 10))) (n / 10) ≡ digits_in k (n / 10))
        → last (length (cond c [] (digits_in k (n / 10)) ++ last_digit n ∷ [])) n ≡ cond c [] (digits_in k (n / 10)) ++ last_digit n ∷ []
    by true e f = refl
    by false e f =
        let g : 10 ≤ n = ltb-false n 10 e in
        let ds = digits_in k (n / 10) in
        let l : length (ds ++ last_digit n ∷ []) ≡ suc (length ds) = length-append ds (last_digit n ∷ []) ∙ omega arith in
        subst (λ (m : ℕ). last m n ≡ ds ++ last_digit n ∷ []) (sym l) (ap (λ (t : List ℕ). t ++ last_digit n ∷ []) (f (omega arith)))

pub last_digits : (n : ℕ) → last (length (digits_of n)) n ≡ digits_of n
unfolding digits_of
last_digits n = last_in (suc n) n (omega arith)

-- ---- cut
pub without_next : (k n : ℕ) → without (suc k) n ≡ without k n / 10
without_next zero n = refl
without_next (suc k) n = without_next k (n / 10)

pub without_less : (k n : ℕ) → without k n ≤ n
without_less zero n = omega arith
without_less (suc k) n = omega (arith, without_less k (n / 10))

pub without_step : (left rest : ℕ) → 0 < left → without (left - 1) (rest / 10) ≡ without left rest
without_step zero rest h = absurd (omega arith)
without_step (suc k) rest h = let e : suc k - 1 ≡ k = omega arith in rw e

pub trim_zero : (ds : List ℕ) (d : ℕ) → d ≡ byte "0" → trimmed (ds ++ d ∷ []) ≡ trimmed ds
trim_zero [] d e = rw e
trim_zero (x ∷ ds) d e = ap (before x) (trim_zero ds d e)

pub trim_keep : (ds : List ℕ) (d : ℕ) → (d ≡ byte "0" → ⊥) → trimmed (ds ++ d ∷ []) ≡ ds ++ d ∷ []
trim_keep [] d e = rw (ne_eqb d (byte "0") e)
trim_keep (x ∷ ds) d e = ap (before x) (trim_keep ds d e) ∙ kept ds
  where
    kept : (s : List ℕ) → before x (s ++ d ∷ []) ≡ x ∷ s ++ d ∷ []
    kept [] = refl
    kept (y ∷ s) = refl

pub zero_cut : (left rest : ℕ) → 0 < left → rest % 10 ≡ 0 → trimmed (last (left - 1) (rest / 10)) ≡ trimmed (last left rest)
zero_cut zero rest h e = absurd (omega arith)
zero_cut (suc k) rest h e =
    let p : suc k - 1 ≡ k = omega arith in
    rw p (sym (trim_zero (last k (rest / 10)) (last_digit rest) (omega arith)))

last_kept : (left rest : ℕ) → 0 < left → (rest % 10 ≡ 0 → ⊥) → trimmed (last left rest) ≡ last left rest
last_kept zero rest h e = absurd (omega arith)
last_kept (suc k) rest h e = trim_keep (last k (rest / 10)) (last_digit rest) (λ q. e (omega arith))

-- left and rest after some zeros: what is cut is what it was, and rest is the number without as many digits
pub record Cutting (k n left rest : ℕ) : Type 0 where
  pub low : left ≤ k
  pub same : trimmed (last left rest) ≡ trimmed (last k n)
  pub part : rest ≡ without (k - left) n

pub cut_on : (k n left rest : ℕ) → 0 < left → rest % 10 ≡ 0 → Cutting k n left rest → Cutting k n (left - 1) (rest / 10)
cut_on k n left rest h e c =
    let p : k - (left - 1) ≡ suc (k - left) = omega (arith, c.low) in
    record { low = omega (arith, c.low); same = zero_cut left rest h e ∙ c.same; part = rw p (rw (without_next (k - left) n) (ap (λ (m : ℕ). m / 10) c.part)) }

pub cut_stop : (k n left rest : ℕ) → 0 < left → (rest % 10 ≡ 0 → ⊥) → Cutting k n left rest → Cut k n left rest
cut_stop k n left rest h e c =
    let q = last_kept left rest h e in
    let d : last left rest ≡ trimmed (last k n) = sym q ∙ c.same in
    record { many = sym (last_length left rest) ∙ ap length d; left = c.part; digits = d }

-- ---- put
last_first : (l : List ℕ) (at k n : ℕ) → sets (set l (at + k) (last_digit n)) at (last k (n / 10)) ≡ sets l at (last (suc k) n)
last_first l at k n =
    let a = last k (n / 10) in
    let d = last_digit n in
    sym (set_behind a l at (at + k) d (omega (arith, last_length k (n / 10))))
    ∙ ap (λ (m : ℕ). set (sets l at a) (at + m) d) (sym (last_length k (n / 10)))
    ∙ sym (sets_append a (d ∷ []) l at)

pub digit_put : (l : List ℕ) (at left rest : ℕ) → 0 < left
    → sets (set l (at + (left - 1)) (last_digit rest)) at (last (left - 1) (rest / 10)) ≡ sets l at (last left rest)
digit_put l at left rest h =
    let p : suc (left - 1) ≡ left = omega arith in
    last_first l at (left - 1) rest ∙ ap (λ (k : ℕ). sets l at (last k rest)) p

-- ---- the parts of a number, put
pub whole_put : {t : List ℕ} {count : ℕ} (l : List ℕ) (at n : ℕ) → count ≡ length (digits_of n) → t ≡ sets l at (last count n)
    → (at + count ≡ at + length (digits_of n)) × (t ≡ sets l at (digits_of n))
whole_put l at n e h = (ap (λ (k : ℕ). at + k) e, h ∙ ap (sets l at) (ap (λ (k : ℕ). last k n) e ∙ last_digits n))

-- the text of the decimals
abbrev pub decimals_text : ℕ → ℕ → List ℕ
decimals_text k n = write_fraction (fraction (trimmed (last k n)))

fraction_of : (ds : List ℕ) → 1 ≤ length ds → write_fraction (fraction ds) ≡ byte "." ∷ ds
fraction_of [] h = absurd (omega arith)
fraction_of (d ∷ ds) h = refl

pub fraction_size : {k n count rest : ℕ} → Cut k n count rest → (count ≡ 0 → ⊥) → length (decimals_text k n) ≡ suc count
fraction_size {k} {n} {count} {rest} c h = ap length (fraction_of (trimmed (last k n)) (omega (arith, c.many))) ∙ ap suc (sym c.many)

pub fraction_small : {k n count rest : ℕ} → Cut k n count rest → count ≤ k
fraction_small {k} {n} {count} {rest} c = omega (arith, c.many, trim_short (last k n), last_length k n)

-- the text of a number by its parts
pub size_of : (b : Bool) (n : ℕ) → nat_abs (signed b n) ≡ n
size_of true zero = refl
size_of true (suc n) = refl
size_of false n = refl

abbrev pub sign_text : Bool → ℕ → List ℕ
sign_text b n = spell_sign (sign_of (minus (signed b n)))

pub number_text : (k : ℕ) (b : Bool) (n : ℕ) → write_number (shortest k (signed b n)) ≡ sign_text b n ++ (digits_of (without k n) ++ decimals_text k n)
unfolding shortest
number_text k b n = rw (size_of b n)

pub number_size : (k : ℕ) (b : Bool) (n : ℕ) → length (write_number (shortest k (signed b n))) ≡ length (sign_text b n) + (length (digits_of (without k n)) + length (decimals_text k n))
number_size k b n =
    ap length (number_text k b n)
    ∙ omega (arith, length-append (sign_text b n) (digits_of (without k n) ++ decimals_text k n), length-append (digits_of (without k n)) (decimals_text k n))

pub three_put : {t t₁ t₂ : List ℕ} {first second third : ℕ} (l : List ℕ) (at : ℕ) (a b c x : List ℕ) → x ≡ a ++ (b ++ c)
    → first ≡ at + length a → t₁ ≡ sets l at a
    → second ≡ first + length b → t₂ ≡ sets t₁ first b
    → third ≡ second + length c → t ≡ sets t₂ second c
    → (third ≡ at + length x) × (t ≡ sets l at x)
three_put {t} {t₁} {t₂} {first} {second} {third} l at a b c x ex e₁ h₁ e₂ h₂ e₃ h₃ = (
  omega (arith, ap length ex, length-append a (b ++ c), length-append b c),
  h₃ ∙ rw (e₂, h₂, e₁, h₁) (sym (ap (sets l at) ex ∙ sets_append a (b ++ c) l at ∙ sets_append b c (sets l at a) (at + length a))),
)
