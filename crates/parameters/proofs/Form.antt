-- What is written is a file of right form: rising numbers, one space, a digit before any point, no zero at the end of decimals or needlessly at the beginning.
-- Assumes nothing.
use mathlib.Core.Path.{◌≡◌, refl, sym, ◌∙◌}
use mathlib.Core.Bool.{Bool, true, false, cond}
use mathlib.Core.List.{List, [], ◌∷◌, ◌++◌, map}
use mathlib.Core.Logic.{◌⊎◌, inl, inr}
use Prim.Native.Nat.{ℕ, zero, suc, ◌/◌, ◌≤◌, ◌<◌}
use native.Mathlib.Omega.{arith}
use lib.Dec.{ltb}
use lib.ListN.{length, get_or, length-append, get_or-append}
use lib.IntN.{ℤ, nat_abs}
use borrow.Author.Tests.{ltb-true, ltb-false}
use Rattle.grammar.specs.Bytes.{byte, bytes}
use Rattle.grammar.specs.Grammar.{Sign, unsigned, plus, minus, Fraction, whole, point, Number, num}
use Rattle.rules.specs.Numbers.{minus as below}
use Rattle.rules.specs.Frames.{lines}
use Rattle.rules.specs.declared.Record.{Record}
use Rattle.parameters.specs.File.{Entry, EntryOk, write_entry}
use Rattle.parameters.specs.Places.{stands_for, decimals, trimmed}
use Rattle.parameters.specs.Reading.{number_of}
use Rattle.parameters.specs.Writing.{last_digit, digits_in, digits_of, without, last, fraction, sign_of, shortest, held, entry_for, said, entries_from, entries, file}
use Rattle.parameters.proofs.Digits.{trim_twice}
use Rattle.parameters.proofs.Cut.{All}
use Rattle.parameters.proofs.Listed.{entry_ok, number_is}
use Rattle.parameters.proofs.RoundTrip.{file_lines}

-- one digit, or the first of them is not 0
abbrev pub Short : List ℕ → Type 0
Short ds = (length ds ≡ 1) ⊎ ((1 ≤ length ds) × (get_or ds 0 (byte "0") ≡ byte "0" → ⊥))

-- no point, or digits behind it with no zero at the end
abbrev pub NeatFraction : Fraction → Type 0
NeatFraction whole = Unit {0}
NeatFraction (point ds) = (1 ≤ length ds) × (trimmed ds ≡ ds)

abbrev pub NoPlus : Sign → Type 0
NoPlus unsigned = Unit {0}
NoPlus plus = ⊥
NoPlus minus = Unit {0}

abbrev pub NeatNumber : Number → Type 0
NeatNumber (num s ds f) = NoPlus s × Short ds × NeatFraction f

pub record Neat (e : Entry) : Type 0 where
  pub ok : EntryOk e
  pub short : Short e.digits
  pub space : e.blanks ≡ bytes " "
  pub number : NeatNumber e.value

-- every number is at least so much, and more than the one before it
abbrev pub Rising : ℕ → List Entry → Type 0
Rising least [] = Unit {0}
Rising least (e ∷ es) = (least ≤ number_of e) × Rising (suc (number_of e)) es

-- ---- one entry
in_some : (k n : ℕ) → n < k → 1 ≤ length (digits_in k n)
in_some zero n h = absurd (omega arith)
in_some (suc k) n h = omega (arith, length-append (cond (ltb n 10) [] (digits_in k (n / 10))) (last_digit n ∷ []))

not_zero : (k n : ℕ) → 1 ≤ n → n < k → get_or (digits_in k n) 0 (byte "0") ≡ byte "0" → ⊥
not_zero zero n l h = absurd (omega arith)
not_zero (suc k) n l h = by (ltb n 10) refl (λ a b. not_zero k (n / 10) a b)
  where
    by : (c : Bool) → ltb n 10 ≡ c → (1 ≤ n / 10 → n / 10 < k → get_or (digits_in k (n / 10)) 0 (byte "0") ≡ byte "0" → ⊥)
        → get_or (cond c [] (digits_in k (n / 10)) ++ last_digit n ∷ []) 0 (byte "0") ≡ byte "0" → ⊥
    by true e f q =
        let g : n < 10 = ltb-true n 10 e in
        omega arith
    by false e f q =
        let g : 10 ≤ n = ltb-false n 10 e in
        let ds = digits_in k (n / 10) in
        f (omega arith) (omega arith) (sym (get_or-append ds (last_digit n ∷ []) (byte "0") 0 (in_some k (n / 10) (omega arith))) ∙ q)

in_one : (n : ℕ) → n < 10 → length (digits_in (suc n) n) ≡ 1
in_one n h = by (ltb n 10) refl
  where
    by : (c : Bool) → ltb n 10 ≡ c → length (cond c [] (digits_in n (n / 10)) ++ last_digit n ∷ []) ≡ 1
    by true e = refl
    by false e = absurd (omega (arith, ltb-false n 10 e))

digits_short : (n : ℕ) → Short (digits_of n)
unfolding digits_of
digits_short n = by (ltb n 10) refl
  where
    by : (c : Bool) → ltb n 10 ≡ c → Short (digits_in (suc n) n)
    by true e = inl (in_one n (ltb-true n 10 e))
    by false e =
        let g : 10 ≤ n = ltb-false n 10 e in
        inr (in_some (suc n) n (omega arith), not_zero (suc n) n (omega arith) (omega arith))

fraction_neat : (ds : List ℕ) → trimmed ds ≡ ds → NeatFraction (fraction ds)
fraction_neat [] e = tt
fraction_neat (d ∷ ds) e = (omega arith, e)

sign_neat : (b : Bool) → NoPlus (sign_of b)
sign_neat true = tt
sign_neat false = tt

number_neat : (k : ℕ) (z : ℤ) → NeatNumber (shortest k z)
unfolding shortest
number_neat k z = (sign_neat (below z), digits_short (without k (nat_abs z)), fraction_neat (trimmed (last k (nat_abs z))) (trim_twice (last k (nat_abs z))))

pub entry_neat : (n : ℕ) (z : ℤ) → Neat (entry_for n z)
unfolding entry_for
entry_neat n z = record { ok = entry_ok n z; short = digits_short n; space = refl; number = number_neat (decimals (stands_for n)) z }

-- ---- all of them
module _ (hold : ℕ → ℤ) where
  entries_neat : (n many : ℕ) → All Neat (entries_from hold n many)
  entries_neat n zero = tt
  entries_neat n (suc many) = by (said n (hold n)) (entries_neat (suc n) many)
    where
      by : (c : Bool) → All Neat (entries_from hold (suc n) many) → All Neat (cond c (entry_for n (hold n) ∷ []) [] ++ entries_from hold (suc n) many)
      by true h = (entry_neat n (hold n), h)
      by false h = h

  entries_rise : (least n many : ℕ) → least ≤ n → Rising least (entries_from hold n many)
  entries_rise least n zero h = tt
  entries_rise least n (suc many) h = by (said n (hold n)) (λ low g. entries_rise low (suc n) many g)
    where
      by : (c : Bool) → ((low : ℕ) → low ≤ suc n → Rising low (entries_from hold (suc n) many)) → Rising least (cond c (entry_for n (hold n) ∷ []) [] ++ entries_from hold (suc n) many)
      by true f = rw (number_is n (hold n)) (h, f (suc n) (omega arith))
      by false f = f least (omega arith)

-- the lines of what is written are its entries, each neat, and they rise
pub written_form : (r : Record) (table : List ℤ) → (lines (file r table) ≡ map write_entry (entries r table)) × All Neat (entries r table) × Rising 1 (entries r table)
unfolding entries
written_form r table = (file_lines r table, entries_neat (held r table) 1 5399, entries_rise (held r table) 1 1 5399 (omega arith))
