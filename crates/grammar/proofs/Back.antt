-- What a tree writes is read back.
use mathlib.Core.Path.{◌≡◌, refl, ap, ◌∙◌}
use mathlib.Core.Bool.{Bool, true, false, ◌||◌, not}
use mathlib.Core.List.{List, [], ◌∷◌, ◌++◌, append_assoc}
use Prim.Native.Nat.{ℕ, zero, suc, ◌+◌, ◌≤◌, ◌<◌}
use native.Mathlib.Omega.{arith}
use lib.Dec.{T, leb, eqb, eqb→eq, le→leb, T_not}
use lib.ListN.{length, length-append}
use Rattle.grammar.specs.Grammar.{Sign, unsigned, plus, minus}
use Rattle.grammar.specs.Grammar.{Fraction, whole, point, Number, num, Value, number, parameter, applied, grouped, Expr, expr, Rest, done, more}
use Rattle.grammar.specs.Grammar.{spell_sign, spell_func, spell_op, digit, fraction_digits, write_fraction, write_number, write_value, write_expr, write_rest, NumberOk, NumOk, ValueOk, ExprOk, RestOk}
use Rattle.grammar.specs.Bytes.{byte, all}
use Rattle.laws.proofs.Bools.{and_left, and_right, neither_left, neither_right, T-eq, not_eq}
use Rattle.grammar.proofs.Read.{got, bind, map_r, take_while, drop_while, read_sign, read_fraction, read_number, opens_number}
use Rattle.grammar.proofs.Read.{read_expr, read_value, read_rest}
use Rattle.grammar.specs.declared.Op.{Op}
use Rattle.grammar.specs.declared.Op.TheVariants.{Add, Sub, Mul, Div, Mod, And, Or, Xor}
use Rattle.grammar.specs.declared.Func.{Func}
use Rattle.grammar.specs.declared.Func.TheVariants.{Abs, Fix, Fup, Round}

-- r begins with no byte of the class
abbrev pub Stops : (ℕ → Bool) → List ℕ → Type 0
Stops p [] = Unit {0}
Stops p (b ∷ s) = T (not (p b))

abbrev pub numeral : ℕ → Bool
numeral b = digit b || eqb (byte ".") b

module _ (p : ℕ → Bool) where
  pub take_back : (ds r : List ℕ) → T (all p ds) → Stops p r → take_while p (ds ++ r) ≡ ds
  take_back [] [] t h = refl
  take_back [] (b ∷ r) t h = rw (not_eq (p b) h)
  take_back (d ∷ ds) r t h = rw (T-eq (p d) (and_left (p d) (all p ds) t), take_back ds r (and_right (p d) (all p ds) t) h)

  pub drop_back : (ds r : List ℕ) → T (all p ds) → Stops p r → drop_while p (ds ++ r) ≡ r
  drop_back [] [] t h = refl
  drop_back [] (b ∷ r) t h = rw (not_eq (p b) h)
  drop_back (d ∷ ds) r t h = rw (T-eq (p d) (and_left (p d) (all p ds) t)) (drop_back ds r (and_right (p d) (all p ds) t) h)

  -- a byte of the class is none that is not
  pub differs : (k b : ℕ) → T (p b) → T (not (p k)) → eqb k b ≡ false
  differs k b t n = go (eqb k b) refl
    where
      go : (c : Bool) → eqb k b ≡ c → c ≡ false
      go false e = refl
      go true e = absurd (T_not (p b) (rw (eqb→eq k b (rw e tt)) at n) t)

-- the number
pub sign_back : (sg : Sign) (ds : List ℕ) (f : Fraction) (r : List ℕ) → NumberOk ds f → read_sign (spell_sign sg ++ (ds ++ (write_fraction f ++ r))) ≡ got sg (ds ++ (write_fraction f ++ r))
sign_back plus ds f r ok = refl
sign_back minus ds f r ok = refl
sign_back unsigned [] whole r ok = absurd (omega (arith, ok.some))
sign_back unsigned [] (point fs) r ok = refl
sign_back unsigned (d ∷ ds) f r ok =
    rw (differs digit (byte "+") d (and_left (digit d) (all digit ds) ok.left) tt, differs digit (byte "-") d (and_left (digit d) (all digit ds) ok.left) tt)

pub stops_digit : (r : List ℕ) → Stops numeral r → Stops digit r
stops_digit [] h = tt
stops_digit (b ∷ r) h = neither_left (digit b) (eqb (byte ".") b) h

fraction_stops : (f : Fraction) (r : List ℕ) → Stops numeral r → Stops digit (write_fraction f ++ r)
fraction_stops whole r h = stops_digit r h
fraction_stops (point fs) r h = tt

fraction_back : (f : Fraction) (r : List ℕ) → T (all digit (fraction_digits f)) → Stops numeral r → read_fraction (write_fraction f ++ r) ≡ got f r
fraction_back whole [] ok h = refl
fraction_back whole (b ∷ r) ok h = rw (not_eq (eqb (byte ".") b) (neither_right (digit b) (eqb (byte ".") b) h))
fraction_back (point fs) r ok h = rw (take_back digit fs r ok (stops_digit r h), drop_back digit fs r ok (stops_digit r h))

pub number_back : (n : Number) (r : List ℕ) → NumOk n → Stops numeral r → read_number (write_number n ++ r) ≡ got n r
number_back (num sg ds f) r ok h =
    rw (append_assoc (spell_sign sg) (ds ++ write_fraction f) r, append_assoc ds (write_fraction f) r)
    (rw (sign_back sg ds f r ok)
    (rw (take_back digit ds (write_fraction f ++ r) ok.left (fraction_stops f r h), drop_back digit ds (write_fraction f ++ r) ok.left (fraction_stops f r h))
    (rw (fraction_back f r ok.right h)
    (rw (T-eq (leb 1 (length (ds ++ fraction_digits f))) (le→leb 1 (length (ds ++ fraction_digits f)) ok.some))))))

-- a number is known by its first byte
pub number_opens : (n : Number) (r : List ℕ) → NumOk n → opens_number (write_number n ++ r) ≡ true
number_opens (num plus ds f) r ok = refl
number_opens (num minus ds f) r ok = refl
number_opens (num unsigned [] whole) r ok = absurd (omega (arith, ok.some))
number_opens (num unsigned [] (point fs)) r ok = refl
number_opens (num unsigned (d ∷ ds) f) r ok = rw (T-eq (digit d) (and_left (digit d) (all digit ds) ok.left))

-- one step of the reader at each form that is no number
step_call : (f : ℕ) (g : Func) (s : List ℕ) → read_value (suc f) (spell_func g ++ (byte "[" ∷ s)) ≡ map_r (applied g) (read_expr (λ q. read_value f q) (λ q. read_rest f q) s)
step_call f Abs s = refl
step_call f Fix s = refl
step_call f Fup s = refl
step_call f Round s = refl

step_oper : (f : ℕ) (o : Op) (s : List ℕ) → read_rest (suc f) (spell_op o ++ s) ≡ bind (read_value f s) (λ v q. map_r (more o v) (read_rest f q))
step_oper f Add s = refl
step_oper f Sub s = refl
step_oper f Mul s = refl
step_oper f Div s = refl
step_oper f Mod s = refl
step_oper f And s = refl
step_oper f Or s = refl
step_oper f Xor s = refl

pub spells : (o : Op) → 1 ≤ length (spell_op o)
spells Add = omega arith
spells Sub = omega arith
spells Mul = omega arith
spells Div = omega arith
spells Mod = omega arith
spells And = omega arith
spells Or = omega arith
spells Xor = omega arith

pub rest_stops : (q : Rest) (r : List ℕ) → Stops numeral (write_rest q ++ r)
rest_stops done r = tt
rest_stops (more Add v q) r = tt
rest_stops (more Sub v q) r = tt
rest_stops (more Mul v q) r = tt
rest_stops (more Div v q) r = tt
rest_stops (more Mod v q) r = tt
rest_stops (more And v q) r = tt
rest_stops (more Or v q) r = tt
rest_stops (more Xor v q) r = tt

-- an expression after its bracket
abbrev pub inner : Expr → List ℕ
inner (expr v q) = write_value v ++ write_rest q

opens : (e : Expr) → write_expr e ≡ byte "[" ∷ inner e
opens (expr v q) = refl

mutual
  pub value_back : (v : Value) (f : ℕ) (r : List ℕ) → ValueOk v → Stops numeral r → length (write_value v) < f → read_value f (write_value v ++ r) ≡ got v r
  value_back (number n) zero r ok h l = absurd (omega arith)
  value_back (number n) (suc f) r ok h l = rw (number_opens n r ok, number_back n r ok h)
  value_back (parameter v) zero r ok h l = absurd (omega arith)
  value_back (parameter v) (suc f) r ok h l = ap (map_r parameter) (value_back v f r ok h (omega arith))
  value_back (applied g e) zero r ok h l = absurd (omega arith)
  value_back (applied g e) (suc f) r ok h l =
      rw (append_assoc (spell_func g) (write_expr e) r, opens e) (step_call f g (inner e ++ r) ∙ ap (map_r (applied g)) (expr_back e f r ok (omega (arith, length-append (spell_func g) (write_expr e), ap length (opens e)))))
  value_back (grouped e) zero r ok h l = absurd (omega arith)
  value_back (grouped e) (suc f) r ok h l = rw (opens e) (ap (map_r grouped) (expr_back e f r ok (omega (arith, ap length (opens e)))))

  pub expr_back : (e : Expr) (f : ℕ) (r : List ℕ) → ExprOk e → length (inner e) < f → read_expr (λ q. read_value f q) (λ q. read_rest f q) (inner e ++ r) ≡ got e r
  expr_back (expr v q) f r ok l =
      let k : length (write_value v) + length (write_rest q) < f = rw length-append at l in
      rw (append_assoc (write_value v) (write_rest q) r, value_back v f (write_rest q ++ r) ok.0 (rest_stops q r) (omega arith), rest_back q f r ok.1 (omega arith))

  pub rest_back : (q : Rest) (f : ℕ) (r : List ℕ) → RestOk q → length (write_rest q) < f → read_rest f (write_rest q ++ r) ≡ got q r
  rest_back done zero r ok l = absurd (omega arith)
  rest_back done (suc f) r ok l = refl
  rest_back (more o v q) zero r ok l = absurd (omega arith)
  rest_back (more o v q) (suc f) r ok l =
      let k : length (spell_op o) + (length (write_value v) + length (write_rest q)) < suc f = simp length-append at l in
      rw (append_assoc (spell_op o) (write_value v ++ write_rest q) r, append_assoc (write_value v) (write_rest q) r)
      (step_oper f o (write_value v ++ (write_rest q ++ r))
      ∙ rw (value_back v f (write_rest q ++ r) ok.0 (rest_stops q r) (omega (arith, spells o)), rest_back q f r ok.1 (omega (arith, spells o))))
