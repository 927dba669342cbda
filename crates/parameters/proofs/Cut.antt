-- The lines of a file that is written are what was written for each.
-- Assumes nothing.
use mathlib.Core.Path.{◌≡◌, refl, ap, ◌∙◌}
use mathlib.Core.Bool.{Bool, true, false, cond, not, ◌&&◌, ◌||◌}
use mathlib.Core.List.{List, [], ◌∷◌, ◌++◌, map, append_assoc, append-nil}
use Prim.Native.Nat.{ℕ, ◌≤◌}
use native.Mathlib.Omega.{arith}
use lib.Dec.{T, eqb, leb, eqb→eq, leb→le}
use borrow.Author.Tests.{ne_eqb}
use Rattle.laws.proofs.Bools.{and_left, and_right, or_cases, T-eq, not_eq}
use Rattle.grammar.specs.Bytes.{byte, all}
use Rattle.grammar.specs.Grammar.{Sign, unsigned, plus, minus, Fraction, whole, point, Number, num, NumOk, spell_sign, write_fraction, write_number, fraction_digits, digit}
use Rattle.grammar.specs.Derivation.{blank}
use Rattle.rules.specs.Frames.{without_return, cut, lines}
use Rattle.parameters.specs.File.{Entry, EntryOk, write_entry}
use Rattle.parameters.specs.Writing.{write_file}
use Rattle.parameters.proofs.Digits.{all_append}

-- every element of a list is so
abbrev pub All : {A : Type 0} → (A → Type 0) → List A → Type 0
All P [] = Unit {0}
All P (x ∷ xs) = P x × All P xs

-- a byte that ends no line
abbrev plain : ℕ → Bool
plain b = not (eqb b (byte "\n")) && not (eqb b (byte "\r"))

all_of : (p q : ℕ → Bool) → ((b : ℕ) → T (p b) → T (q b)) → (s : List ℕ) → T (all p s) → T (all q s)
all_of p q f [] t = tt
all_of p q f (b ∷ s) t = rw (T-eq (q b) (f b (and_left (p b) (all p s) t))) (all_of p q f s (and_right (p b) (all p s) t))

digit_plain : (b : ℕ) → T (digit b) → T (plain b)
digit_plain b t =
    let h : byte "0" ≤ b = leb→le (byte "0") b (and_left (leb (byte "0") b) (leb b (byte "9")) t) in
    rw (ne_eqb b (byte "\n") (λ e. omega arith), ne_eqb b (byte "\r") (λ e. omega arith)) tt

blank_plain : (b : ℕ) → T (blank b) → T (plain b)
blank_plain b t = or_cases (eqb b 32) (eqb b 9 || false) (λ h. at 32 (eqb→eq b 32 h) tt) (λ h. or_cases (eqb b 9) false (λ g. at 9 (eqb→eq b 9 g) tt) (λ g. absurd g) h) t
  where
    at : (c : ℕ) → b ≡ c → T (plain c) → T (plain b)
    at c e p = rw e p

digits_plain : (s : List ℕ) → T (all digit s) → T (all plain s)
digits_plain s t = all_of digit plain digit_plain s t

sign_plain : (s : Sign) → T (all plain (spell_sign s))
sign_plain unsigned = tt
sign_plain plus = tt
sign_plain minus = tt

fraction_plain : (f : Fraction) → T (all digit (fraction_digits f)) → T (all plain (write_fraction f))
fraction_plain whole t = tt
fraction_plain (point ds) t = digits_plain ds t

number_plain : (n : Number) → NumOk n → T (all plain (write_number n))
number_plain (num s ds f) ok =
    all_append plain (spell_sign s) (ds ++ write_fraction f) (sign_plain s) (all_append plain ds (write_fraction f) (digits_plain ds ok.left) (fraction_plain f ok.right))

entry_plain : (e : Entry) → EntryOk e → T (all plain (write_entry e))
entry_plain e ok =
    all_append plain e.digits (e.blanks ++ write_number e.value) (digits_plain e.digits ok.digits)
    (all_append plain e.blanks (write_number e.value) (all_of blank plain blank_plain e.blanks ok.blanks) (number_plain e.value ok.number))

-- ---- cutting
pub cut_byte : (l : List ℕ) (b : ℕ) (s : List ℕ) → cut l (b ∷ s) ≡ cond (eqb b (byte "\n")) (without_return l ∷ cut [] s) (cut (l ++ b ∷ []) s)
cut_byte [] b s = refl
cut_byte (c ∷ l) b s = refl

cut_line : (a l s : List ℕ) → T (all plain l) → cut a (l ++ (byte "\n" ∷ s)) ≡ without_return (a ++ l) ∷ cut [] s
cut_line a [] s t = cut_byte a (byte "\n") s ∙ rw (append-nil a)
cut_line a (b ∷ l) s t =
    cut_byte a b (l ++ (byte "\n" ∷ s))
    ∙ rw (not_eq (eqb b (byte "\n")) (and_left (not (eqb b (byte "\n"))) (not (eqb b (byte "\r"))) (and_left (plain b) (all plain l) t)))
    (cut_line (a ++ b ∷ []) l s (and_right (plain b) (all plain l) t) ∙ rw (append_assoc a (b ∷ []) l))

return_plain : (l : List ℕ) → T (all plain l) → without_return l ≡ l
return_plain [] t = refl
return_plain (b ∷ []) t = rw (not_eq (eqb b (byte "\r")) (and_right (not (eqb b (byte "\n"))) (not (eqb b (byte "\r"))) (and_left (plain b) true t)))
return_plain (b ∷ c ∷ l) t = ap (λ (s : List ℕ). b ∷ s) (return_plain (c ∷ l) (and_right (plain b) (all plain (c ∷ l)) t))

pub lines_file : (es : List Entry) → All EntryOk es → lines (write_file es) ≡ map write_entry es
lines_file [] ok = refl
lines_file (e ∷ es) ok =
    let t = entry_plain e ok.0 in
    cut_line [] (write_entry e) (write_file es) t ∙ rw (return_plain (write_entry e) t, lines_file es ok.1)
