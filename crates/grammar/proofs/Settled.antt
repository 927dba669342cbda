-- Outside a comment, what a tree writes is neither blank nor small letters: preparing it leaves it as it is.
-- Assumes nothing.
use mathlib.Core.Path.{◌≡◌, refl}
use mathlib.Core.Bool.{Bool, true, false, cond, not, ◌&&◌, ◌||◌}
use mathlib.Core.List.{List, [], ◌∷◌, ◌++◌}
use Prim.Native.Nat.{ℕ, ◌-◌}
use native.Mathlib.Omega.{arith}
use lib.Dec.{T, leb, eqb, eqb→eq, leb→le}
use Rattle.laws.proofs.Bools.{and_left, and_right, or_cases, T-eq, below}
use Rattle.grammar.specs.Bytes.{byte, bytes, among, all}
use Rattle.grammar.specs.Grammar.{Sign, unsigned, plus, minus, Fraction, whole, point, num, Value, number, parameter, applied, grouped, Expr, expr, Rest, done, more}
use Rattle.grammar.specs.Grammar.{Stroke, slash, backslash, Mark, unmarked, plain, conditional, Label, unlabelled, label, digit, letter, remark}
use Rattle.grammar.specs.Grammar.{spell_sign, spell_func, spell_op, spell_stroke, write_mark, fraction_digits, write_fraction, write_value, write_expr, write_rest, write_label}
use Rattle.grammar.specs.Grammar.{ValueOk, ExprOk, RestOk, LabelOk, MarkOk}
use Rattle.grammar.specs.Derivation.{blank, raise}
use Rattle.grammar.specs.declared.Op.{Op}
use Rattle.grammar.specs.declared.Op.TheVariants.{Add, Sub, Mul, Div, Mod, And, Or, Xor}
use Rattle.grammar.specs.declared.Func.{Func}
use Rattle.grammar.specs.declared.Func.TheVariants.{Abs, Fix, Fup, Round}

-- outside a comment it counts: it is neither blank nor opens a comment
abbrev pub bare : ℕ → Bool
bare b = not (blank b) && not (eqb b (byte "("))

-- and stays as it is: it is no small letter
abbrev pub settled : ℕ → Bool
settled b = bare b && eqb (raise b) b

-- no byte of a remark ends it
pub no_closing : (b : ℕ) → T (remark b) → eqb b (byte ")") ≡ false
no_closing b t = go (eqb b 41) refl
  where
    go : (c : Bool) → eqb b 41 ≡ c → eqb b 41 ≡ false
    go false e = e
    go true e = absurd (rw (eqb→eq b 41 (rw e tt)) at t)

-- a small letter raised is a capital; nothing becomes blank, or a parenthesis, or ceases to be one
pub raised : (b : ℕ) → (blank (raise b) ≡ blank b) × (eqb (raise b) (byte "(") ≡ eqb b (byte "(")) × (raise (raise b) ≡ raise b)
raised b = go (leb 97 b && leb b 122) refl
  where
    same : (x y z w : Bool) → T ((not x && not y) && (not z && not w)) → (z ≡ x) × (w ≡ y)
    same false false false false t = (refl, refl)
    same true y z w t = absurd t
    same false true z w t = absurd t
    same false false true w t = absurd t
    same false false false true t = absurd t

    go : (c : Bool) → (leb 97 b && leb b 122) ≡ c → (blank (cond c (b - 32) b) ≡ blank b) × (eqb (cond c (b - 32) b) 40 ≡ eqb b 40) × (raise (cond c (b - 32) b) ≡ cond c (b - 32) b)
    go false e = (refl, refl, rw e)
    go true e =
        let t : T (leb 97 b && leb b 122) = rw e tt in
        let small : T ((bare b && bare (b - 32)) && eqb (raise (b - 32)) (b - 32)) =
        or_cases (not (leb 97 b)) ((bare b && bare (b - 32)) && eqb (raise (b - 32)) (b - 32)) (λ h. absurd (rw (T-eq (leb 97 b) (and_left (leb 97 b) (leb b 122) t)) at h)) (λ h. h)
        (below (λ k. not (leb 97 k) || (bare k && bare (k - 32)) && eqb (raise (k - 32)) (k - 32)) 123 tt b (omega (arith, leb→le b 122 (and_right (leb 97 b) (leb b 122) t)))) in
        let p = same (blank b) (eqb b 40) (blank (b - 32)) (eqb (b - 32) 40) (and_left (bare b && bare (b - 32)) (eqb (raise (b - 32)) (b - 32)) small) in
        (p.0, p.1, eqb→eq (raise (b - 32)) (b - 32) (and_right (bare b && bare (b - 32)) (eqb (raise (b - 32)) (b - 32)) small))

-- ---- all that a value, a letter, a label and a mark write is so

module _ (p : ℕ → Bool) where
  pub all_append : (x y : List ℕ) → T (all p x) → T (all p y) → T (all p (x ++ y))
  all_append [] y t u = u
  all_append (b ∷ x) y t u = rw (T-eq (p b) (and_left (p b) (all p x) t)) (all_append x y (and_right (p b) (all p x) t) u)

  -- a class of bytes within another, and one of a list
  pub all_within : (q : ℕ → Bool) → ((b : ℕ) → T (q b) → T (p b)) → (x : List ℕ) → T (all q x) → T (all p x)
  all_within q f [] t = tt
  all_within q f (b ∷ x) t = rw (T-eq (p b) (f b (and_left (q b) (all q x) t))) (all_within q f x (and_right (q b) (all q x) t))

  pub among_all : (ks : List ℕ) (b : ℕ) → T (all p ks) → T (among b ks) → T (p b)
  among_all [] b t u = absurd u
  among_all (k ∷ ks) b t u = or_cases (eqb b k) (among b ks) (λ e. rw (eqb→eq b k e) (and_left (p k) (all p ks) t)) (λ e. among_all ks b (and_right (p k) (all p ks) t) e) u

digit_settled : (b : ℕ) → T (digit b) → T (settled b)
digit_settled b t =
    or_cases (not (digit b)) (settled b) (λ h. absurd (rw (T-eq (digit b) t) at h)) (λ h. h)
    (below (λ k. not (digit k) || settled k) 58 tt b (omega (arith, leb→le b 57 (and_right (leb 48 b) (leb b 57) t))))

pub digits_settled : (ds : List ℕ) → T (all digit ds) → T (all settled ds)
digits_settled ds t = all_within settled digit digit_settled ds t

pub letter_settled : (b : ℕ) → T (letter b) → T (settled b)
letter_settled b t = among_all settled (bytes "FGIJKLMPSTXYZ") b tt t

sign_settled : (s : Sign) → T (all settled (spell_sign s))
sign_settled unsigned = tt
sign_settled plus = tt
sign_settled minus = tt

func_settled : (f : Func) → T (all settled (spell_func f))
func_settled Abs = tt
func_settled Fix = tt
func_settled Fup = tt
func_settled Round = tt

op_settled : (o : Op) → T (all settled (spell_op o))
op_settled Add = tt
op_settled Sub = tt
op_settled Mul = tt
op_settled Div = tt
op_settled Mod = tt
op_settled And = tt
op_settled Or = tt
op_settled Xor = tt

fraction_settled : (f : Fraction) → T (all digit (fraction_digits f)) → T (all settled (write_fraction f))
fraction_settled whole t = tt
fraction_settled (point ds) t = digits_settled ds t

mutual
  pub value_settled : (v : Value) → ValueOk v → T (all settled (write_value v))
  value_settled (number (num s ds f)) o =
      all_append settled (spell_sign s) (ds ++ write_fraction f) (sign_settled s) (all_append settled ds (write_fraction f) (digits_settled ds o.left) (fraction_settled f o.right))
  value_settled (parameter v) o = value_settled v o
  value_settled (applied f e) o = all_append settled (spell_func f) (write_expr e) (func_settled f) (expr_settled e o)
  value_settled (grouped e) o = expr_settled e o

  pub expr_settled : (e : Expr) → ExprOk e → T (all settled (write_expr e))
  expr_settled (expr v r) o = all_append settled (write_value v) (write_rest r) (value_settled v o.0) (rest_settled r o.1)

  rest_settled : (r : Rest) → RestOk r → T (all settled (write_rest r))
  rest_settled done o = tt
  rest_settled (more k v r) o =
      all_append settled (spell_op k) (write_value v ++ write_rest r) (op_settled k) (all_append settled (write_value v) (write_rest r) (value_settled v o.0) (rest_settled r o.1))

pub label_settled : (n : Label) → LabelOk n → T (all settled (write_label n))
label_settled unlabelled o = tt
label_settled (label ds) o = digits_settled ds o.0

stroke_settled : (k : Stroke) → T (all settled (spell_stroke k))
stroke_settled slash = tt
stroke_settled backslash = tt

pub mark_settled : (m : Mark) → MarkOk m → T (all settled (write_mark m))
mark_settled unmarked o = tt
mark_settled (plain k) o = stroke_settled k
mark_settled (conditional k e) o = all_append settled (spell_stroke k) (write_expr e) (stroke_settled k) (expr_settled e o)
