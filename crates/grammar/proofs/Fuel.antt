-- Fuel past the bytes to read changes nothing. So each reader, run with as much as its bytes need, meets an equation with no fuel in it: what a
-- function that recurses on the bytes left is proved by.
use mathlib.Core.Path.{◌≡◌, refl, ap, ◌∙◌, sym}
use mathlib.Core.Bool.{cond}
use mathlib.Core.List.{List, ◌++◌}
use Prim.Native.Nat.{ℕ, zero, suc, ◌+◌, ◌≤◌, ◌<◌}
use native.Mathlib.Omega.{arith}
use lib.ListN.{length, length-append}
use Rattle.grammar.specs.Bytes.{bytes}
use Rattle.grammar.specs.Grammar.{Value, number, parameter, applied, grouped, expr, Rest, more, spell_func, spell_op}
use Rattle.grammar.specs.Working.{Arithmetic, value}
use Rattle.grammar.proofs.Read.{Read, fail, got, bind, map_r, read_number, opens_number, read_head, read_tail, value_of, rest_of}
use Rattle.grammar.proofs.Read.{Head, hash, bare, call, spell_head, Tail, close, oper, spell_tail, read_expr, read_after, read_more, read_value, read_rest}
use Rattle.grammar.proofs.Back.{spells}
use Rattle.grammar.proofs.Sound.{Good, nothing, front, head_good, tail_good, value_good}
use Rattle.grammar.proofs.Terms.{Pass}
use Rattle.grammar.proofs.OnePass.{calc_expr, calc_after, calc_more, calc_value, calc_rest, value_same, rest_same, calc_of, calc_rest_of}

-- at most n bytes are left
pub data Within {A : Type 0} (n : ℕ) : Read A → Type 0 where
  out : {q : List ℕ} → Within n (fail q)
  left : {a : A} {r : List ℕ} → length r ≤ n → Within n (got a r)

pub shorter : (s x r : List ℕ) → s ≡ x ++ r → length x + length r ≡ length s
shorter s x r e = sym (ap length e ∙ length-append x r)

pub good_within : {A : Type 0} {w : A → List ℕ} {Ok : A → Type 0} (s : List ℕ) {m : Read A} → Good w Ok s m → Within (length s) m
good_within s nothing = out
good_within {w = w} s (front {a = a} {r = r} e o) = left {r = r} (omega (arith, shorter s (w a) r e))

map_within : {A B : Type 0} (g : A → B) {n : ℕ} {m : Read A} → Within n m → Within n (map_r g m)
map_within g out = out
map_within g (left h) = left h

-- two ways to go on agree where they agree on what can be left
pub read_agree : {A B : Type 0} {w : A → List ℕ} {Ok : A → Type 0} {s : List ℕ} {m : Read A} (k k' : A → List ℕ → Read B) →
    Good w Ok s m → ((a : A) (r : List ℕ) → s ≡ w a ++ r → k a r ≡ k' a r) → bind m k ≡ bind m k'
read_agree k k' nothing h = refl
read_agree k k' (front {a = a} {r = r} e o) h = h a r e

bind_agree : {A B : Type 0} {n : ℕ} {m : Read A} (k k' : A → List ℕ → Read B) → Within n m → ((a : A) (r : List ℕ) → length r ≤ n → k a r ≡ k' a r) → bind m k ≡ bind m k'
bind_agree k k' out h = refl
bind_agree k k' (left {a = a} {r = r} l) h = h a r l

module _ (n : ℕ) (rv rv' : List ℕ → Read Value) (rr rr' : List ℕ → Read Rest) (wv : (s : List ℕ) → Within (length s) (rv' s))
    (hv : (s : List ℕ) → length s < n → rv s ≡ rv' s) (hr : (s : List ℕ) → length s < n → rr s ≡ rr' s) where
  expr_agree : (s : List ℕ) → length s < n → read_expr rv rr s ≡ read_expr rv' rr' s
  expr_agree s l = rw (hv s l) (bind_agree _ _ (wv s) (λ v q l'. ap (map_r (expr v)) (hr q (omega arith))))

  after_agree : (h : Head) (s r : List ℕ) → s ≡ spell_head h ++ r → length s ≤ n → read_after rv rr h r ≡ read_after rv' rr' h r
  after_agree hash s r e l = ap (map_r parameter) (hv r (omega (arith, ap length e)))
  after_agree bare s r e l = ap (map_r grouped) (expr_agree r (omega (arith, ap length e)))
  after_agree (call c) s r e l = ap (map_r (applied c)) (expr_agree r (omega (arith, shorter s (spell_head (call c)) r e, length-append (spell_func c) (bytes "["))))

  more_agree : (h : Tail) (s r : List ℕ) → s ≡ spell_tail h ++ r → length s ≤ n → read_more rv rr h r ≡ read_more rv' rr' h r
  more_agree close s r e l = refl
  more_agree (oper o) s r e l =
      rw (hv r (omega (arith, shorter s (spell_op o) r e, spells o)))
      (bind_agree _ _ (wv r) (λ v q l'. ap (map_r (more o v)) (hr q (omega (arith, shorter s (spell_op o) r e, spells o)))))

value_within : (f : ℕ) (s : List ℕ) → Within (length s) (read_value f s)
value_within f s = good_within s (value_good f s)

mutual
  pub value_fuel : (f g : ℕ) (s : List ℕ) → length s < f → length s < g → read_value f s ≡ read_value g s
  value_fuel zero g s a b = absurd (omega arith)
  value_fuel (suc f) zero s a b = absurd (omega arith)
  value_fuel (suc f) (suc g) s a b =
      ap (cond (opens_number s) (map_r number (read_number s)))
      (read_agree _ _ (head_good s) (λ h r e. after_agree (length s) _ (λ q. read_value g q) _ (λ q. read_rest g q) (value_within g) (λ q l. value_fuel f g q (omega arith) (omega arith)) (λ q l. rest_fuel f g q (omega arith) (omega arith)) h s r e (omega arith)))

  pub rest_fuel : (f g : ℕ) (s : List ℕ) → length s < f → length s < g → read_rest f s ≡ read_rest g s
  rest_fuel zero g s a b = absurd (omega arith)
  rest_fuel (suc f) zero s a b = absurd (omega arith)
  rest_fuel (suc f) (suc g) s a b =
      read_agree _ _ (tail_good s) (λ h r e. more_agree (length s) _ (λ q. read_value g q) _ (λ q. read_rest g q) (value_within g) (λ q l. value_fuel f g q (omega arith) (omega arith)) (λ q l. rest_fuel f g q (omega arith) (omega arith)) h s r e (omega arith))

-- the readers of trees, with no fuel
pub value_eq : (s : List ℕ) → value_of s ≡ cond (opens_number s) (map_r number (read_number s)) (bind (read_head s) (read_after value_of rest_of))
unfolding value_of rest_of
value_eq s =
    ap (cond (opens_number s) (map_r number (read_number s)))
    (read_agree _ _ (head_good s) (λ h r e. after_agree (length s) _ value_of _ rest_of (λ q. value_within (suc (length q)) q) (λ q l. value_fuel (length s) (suc (length q)) q l (omega arith)) (λ q l. rest_fuel (length s) (suc (length q)) q l (omega arith)) h s r e (omega arith)))

pub rest_eq : (s : List ℕ) → rest_of s ≡ bind (read_tail s) (read_more value_of rest_of)
unfolding value_of rest_of
rest_eq s =
    read_agree _ _ (tail_good s) (λ h r e. more_agree (length s) _ value_of _ rest_of (λ q. value_within (suc (length q)) q) (λ q l. value_fuel (length s) (suc (length q)) q l (omega arith)) (λ q l. rest_fuel (length s) (suc (length q)) q l (omega arith)) h s r e (omega arith))

-- the pass that works the values out, with no fuel: a reader in the source is proved by these equations
module _ {W E S : Type 0} {A : Arithmetic W E} (P : Pass A S) where
  calc_within : (f : ℕ) (s : List ℕ) → Within (length s) (calc_value P f s)
  calc_within f s = rw (value_same P f s) (map_within (value A) (value_within f s))

  module _ (n : ℕ) (cv cv' : List ℕ → Read W) (cr cr' : S → List ℕ → Read W) (wv : (s : List ℕ) → Within (length s) (cv' s))
      (hv : (s : List ℕ) → length s < n → cv s ≡ cv' s) (hr : (st : S) (s : List ℕ) → length s < n → cr st s ≡ cr' st s) where
    calc_expr_agree : (s : List ℕ) → length s < n → calc_expr P cv cr s ≡ calc_expr P cv' cr' s
    calc_expr_agree s l = rw (hv s l) (bind_agree _ _ (wv s) (λ a q l'. hr (P.fresh a) q (omega arith)))

    calc_after_agree : (h : Head) (s r : List ℕ) → s ≡ spell_head h ++ r → length s ≤ n → calc_after P cv cr h r ≡ calc_after P cv' cr' h r
    calc_after_agree hash s r e l = ap (map_r _) (hv r (omega (arith, ap length e)))
    calc_after_agree bare s r e l = ap (map_r _) (calc_expr_agree r (omega (arith, ap length e)))
    calc_after_agree (call c) s r e l = ap (map_r _) (calc_expr_agree r (omega (arith, shorter s (spell_head (call c)) r e, length-append (spell_func c) (bytes "["))))

    calc_more_agree : (st : S) (h : Tail) (s r : List ℕ) → s ≡ spell_tail h ++ r → length s ≤ n → calc_more P cv cr st h r ≡ calc_more P cv' cr' st h r
    calc_more_agree st close s r e l = refl
    calc_more_agree st (oper o) s r e l =
        let k : length r < n = omega (arith, shorter s (spell_op o) r e, spells o) in
        rw (hv r k) (bind_agree _ _ (wv r) (λ b q l'. hr (P.pushed st o b) q (omega arith)))

  pub calc_of_within : (s : List ℕ) → Within (length s) (calc_of P s)
  unfolding calc_of
  calc_of_within s = calc_within (suc (length s)) s

  calc_fuel : (f : ℕ) (s : List ℕ) → length s < f → calc_value P f s ≡ calc_of P s
  unfolding calc_of
  calc_fuel f s l = value_same P f s ∙ ap (map_r (value A)) (value_fuel f (suc (length s)) s l (omega arith)) ∙ sym (value_same P (suc (length s)) s)

  calc_rest_fuel : (f : ℕ) (st : S) (s : List ℕ) → length s < f → calc_rest P f st s ≡ calc_rest_of P st s
  unfolding calc_rest_of
  calc_rest_fuel f st s l = rest_same P f st s ∙ ap (map_r _) (rest_fuel f (suc (length s)) s l (omega arith)) ∙ sym (rest_same P (suc (length s)) st s)

  pub calc_eq : (s : List ℕ) → calc_of P s ≡ cond (opens_number s) (map_r A.number_of (read_number s)) (bind (read_head s) (calc_after P (calc_of P) (calc_rest_of P)))
  unfolding calc_of
  calc_eq s =
      ap (cond (opens_number s) (map_r A.number_of (read_number s)))
      (read_agree _ _ (head_good s) (λ h r e. calc_after_agree (length s) _ (calc_of P) _ (calc_rest_of P) (λ q. calc_within (suc (length q)) q) (λ q l. calc_fuel (length s) q l) (λ st q l. calc_rest_fuel (length s) st q l) h s r e (omega arith)))

  pub calc_rest_eq : (st : S) (s : List ℕ) → calc_rest_of P st s ≡ bind (read_tail s) (calc_more P (calc_of P) (calc_rest_of P) st)
  unfolding calc_of calc_rest_of
  calc_rest_eq st s =
      read_agree _ _ (tail_good s) (λ h r e. calc_more_agree (length s) _ (calc_of P) _ (calc_rest_of P) (λ q. calc_within (suc (length q)) q) (λ q l. calc_fuel (length s) q l) (λ st q l. calc_rest_fuel (length s) st q l) st h s r e (omega arith))
