-- What the reader answers was written there, by a tree in order.
use mathlib.Core.Path.{◌≡◌, refl, ap, ◌∙◌, sym}
use mathlib.Core.Bool.{Bool, true, false, cond, not}
use mathlib.Core.List.{List, [], ◌∷◌, ◌++◌, append_assoc}
use Prim.Native.Nat.{ℕ, zero, suc}
use native.Mathlib.Omega.{arith}
use lib.Dec.{T, leb, eqb, eqb→eq, leb→le}
use lib.ListN.{length}
use Rattle.grammar.specs.Grammar.{Value, number, parameter, applied, grouped, expr, Rest, more}
use Rattle.grammar.specs.Grammar.{spell_sign, spell_func, digit, fraction_digits, write_fraction, write_number, write_value, write_expr, write_rest, NumOk, ValueOk, ExprOk, RestOk}
use Rattle.grammar.specs.Bytes.{byte, bytes, all}
use Rattle.grammar.specs.Grammar.{letter, remark, word, setting, comment, Stroke, slash, backslash, plain, conditional, line}
use Rattle.grammar.specs.Grammar.{write_item, write_items, spell_stroke, write_mark, write_label, write, ItemOk, ItemsOk, LabelOk, MarkOk, LineOk}
use Rattle.grammar.proofs.Read.{Read, fail, got, eat, bind, map_r, take_while, drop_while, read_sign, read_fraction, read_number}
use Rattle.grammar.proofs.Read.{Head, hash, bare, call, spell_head, Tail, close, oper, spell_tail, opens_number, read_f, read_head, read_tail, read_expr, read_after, read_more, read_value, read_rest}
use Rattle.grammar.proofs.Read.{value_of, rest_of, read_setting, read_comment, read_item, read_items, items_of, read_label, expr_of, read_condition, read_mark, read_line}
use Rattle.grammar.specs.declared.Op.TheVariants.{Mod, And, Or, Xor}
use Rattle.grammar.specs.declared.Func.TheVariants.{Abs, Fix, Fup, Round}

-- the answer to the bytes s: what it read is written at their front, and is in order
pub data Good {A : Type 0} (w : A → List ℕ) (Ok : A → Type 0) (s : List ℕ) : Read A → Type 0 where
  nothing : {q : List ℕ} → Good w Ok s (fail q)
  front : {a : A} {r : List ℕ} → s ≡ w a ++ r → Ok a → Good w Ok s (got a r)

abbrev pub Any : {A : Type 0} → A → Type 0
Any a = Unit {0}

module _ {A : Type 0} {w : A → List ℕ} {Ok : A → Type 0} {s : List ℕ} where
  pub front_of : {a : A} {r : List ℕ} → Good w Ok s (got a r) → (s ≡ w a ++ r) × Ok a
  front_of (front e o) = (e, o)

  if_good : (c : Bool) {m n : Read A} → (T c → Good w Ok s m) → (T (not c) → Good w Ok s n) → Good w Ok s (cond c m n)
  if_good true g h = g tt
  if_good false g h = h tt

  bind_good : {B : Type 0} {w' : B → List ℕ} {Ok' : B → Type 0} {s' : List ℕ} {m : Read A} {k : A → List ℕ → Read B} →
      Good w Ok s m → ((a : A) (r : List ℕ) → s ≡ w a ++ r → Ok a → Good w' Ok' s' (k a r)) → Good w' Ok' s' (bind m k)
  bind_good nothing h = nothing
  bind_good (front {a = a} {r = r} e o) h = h a r e o

  map_good : {B : Type 0} {w' : B → List ℕ} {Ok' : B → Type 0} {s' : List ℕ} {m : Read A} (k : A → B) →
      Good w Ok s m → ((a : A) (r : List ℕ) → s ≡ w a ++ r → s' ≡ w' (k a) ++ r) → ((a : A) → Ok a → Ok' (k a)) → Good w' Ok' s' (map_r k m)
  map_good k nothing h g = nothing
  map_good k (front {a = a} {r = r} e o) h g = front (h a r e) (g a o)

  eat_good : (a : A) → Ok a → (x q : List ℕ) → ((r : List ℕ) → q ≡ x ++ r → s ≡ w a ++ r) → Good w Ok s (eat x a q)
  eat_good a o [] q h = front (h q refl) o
  eat_good a o (x ∷ xs) [] h = nothing
  eat_good a o (x ∷ xs) (y ∷ q) h = if_good (eqb x y) (λ t. eat_good a o xs q (λ r e. h r (cc (eqb→eq x y t)))) (λ _. nothing)

-- a word whose first byte is known
word_good : {A : Type 0} (spell : A → List ℕ) (a : A) (k b : ℕ) (w s : List ℕ) → spell a ≡ k ∷ w → T (eqb k b) → Good spell Any (b ∷ s) (eat w a s)
word_good spell a k b w s e t = eat_good a tt w s (λ r h. cc (eqb→eq k b t))

read_F_good : (s : List ℕ) → Good spell_head Any (byte "F" ∷ s) (read_f s)
read_F_good [] = nothing
read_F_good (b ∷ s) =
    if_good (eqb (byte "I") b) (λ t. eat_good (call Fix) tt (bytes "X[") s (λ r h. cc (eqb→eq (byte "I") b t)))
    (λ _. if_good (eqb (byte "U") b) (λ t. eat_good (call Fup) tt (bytes "P[") s (λ r h. cc (eqb→eq (byte "U") b t))) (λ _. nothing))

pub head_good : (s : List ℕ) → Good spell_head Any s (read_head s)
head_good [] = nothing
head_good (b ∷ s) =
    if_good (eqb (byte "#") b) (λ t. front (cc (eqb→eq (byte "#") b t)) tt)
    (λ _. if_good (eqb (byte "[") b) (λ t. front (cc (eqb→eq (byte "[") b t)) tt)
    (λ _. if_good (eqb (byte "A") b) (λ t. word_good spell_head (call Abs) (byte "A") b (bytes "BS[") s refl t)
    (λ _. if_good (eqb (byte "F") b) (λ t. rw (eqb→eq (byte "F") b t) at (read_F_good s))
    (λ _. if_good (eqb (byte "R") b) (λ t. word_good spell_head (call Round) (byte "R") b (bytes "OUND[") s refl t)
    (λ _. nothing)))))

pub tail_good : (s : List ℕ) → Good spell_tail Any s (read_tail s)
tail_good [] = nothing
tail_good (b ∷ s) =
    if_good (eqb (byte "]") b) (λ t. front (cc (eqb→eq (byte "]") b t)) tt)
    (λ _. if_good (eqb (byte "+") b) (λ t. front (cc (eqb→eq (byte "+") b t)) tt)
    (λ _. if_good (eqb (byte "-") b) (λ t. front (cc (eqb→eq (byte "-") b t)) tt)
    (λ _. if_good (eqb (byte "*") b) (λ t. front (cc (eqb→eq (byte "*") b t)) tt)
    (λ _. if_good (eqb (byte "/") b) (λ t. front (cc (eqb→eq (byte "/") b t)) tt)
    (λ _. if_good (eqb (byte "M") b) (λ t. word_good spell_tail (oper Mod) (byte "M") b (bytes "OD") s refl t)
    (λ _. if_good (eqb (byte "A") b) (λ t. word_good spell_tail (oper And) (byte "A") b (bytes "ND") s refl t)
    (λ _. if_good (eqb (byte "O") b) (λ t. word_good spell_tail (oper Or) (byte "O") b (bytes "R") s refl t)
    (λ _. if_good (eqb (byte "X") b) (λ t. word_good spell_tail (oper Xor) (byte "X") b (bytes "OR") s refl t)
    (λ _. nothing)))))))))

pub byte_good : (b : ℕ) (s : List ℕ) → Good {A = Unit {0}} (λ _. b ∷ []) Any s (eat {A = Unit {0}} (b ∷ []) tt s)
byte_good b s = eat_good tt tt (b ∷ []) s (λ r e. e)

module _ (p : ℕ → Bool) where
  pub while_good : (s : List ℕ) → s ≡ take_while p s ++ drop_while p s
  while_good [] = refl
  while_good (b ∷ s) = go (p b) (while_good s)
    where
      go : (c : Bool) → s ≡ take_while p s ++ drop_while p s → b ∷ s ≡ cond c (b ∷ take_while p s) [] ++ cond c (drop_while p s) (b ∷ s)
      go true e = ap {B = List ℕ} (λ l. b ∷ l) e
      go false e = refl

  pub while_all : (s : List ℕ) → T (all p (take_while p s))
  while_all [] = tt
  while_all (b ∷ s) = go (p b) refl (while_all s)
    where
      go : (c : Bool) → p b ≡ c → T (all p (take_while p s)) → T (all p (cond c (b ∷ take_while p s) []))
      go true e h = rw e h
      go false e h = tt

sign_good : (s : List ℕ) → Good spell_sign Any s (read_sign s)
sign_good [] = front refl tt
sign_good (b ∷ s) = if_good (eqb (byte "+") b) (λ t. front (cc (eqb→eq (byte "+") b t)) tt) (λ _. if_good (eqb (byte "-") b) (λ t. front (cc (eqb→eq (byte "-") b t)) tt) (λ _. front refl tt))

fraction_good : (s : List ℕ) → Good write_fraction (λ f. T (all digit (fraction_digits f))) s (read_fraction s)
fraction_good [] = front refl tt
fraction_good (b ∷ s) = if_good (eqb (byte ".") b) (λ t. front (cc (eqb→eq (byte ".") b t, while_good digit s)) (while_all digit s)) (λ _. front refl tt)

pub number_good : (s : List ℕ) → Good write_number NumOk s (read_number s)
number_good s =
    bind_good (sign_good s)
    (λ sg r e _. bind_good (fraction_good (drop_while digit r))
    (λ f q e' fs. if_good (leb 1 (length (take_while digit r ++ fraction_digits f)))
    (λ t. front (simp append_assoc (cc (while_good digit r))) (record { left = while_all digit r; right = fs; some = leb→le 1 _ t })) (λ _. nothing)))

module _ {rv : List ℕ → Read Value} {rr : List ℕ → Read Rest} (gv : (s : List ℕ) → Good write_value ValueOk s (rv s)) (gr : (s : List ℕ) → Good write_rest RestOk s (rr s)) where
  expr_good : (s : List ℕ) → Good write_expr ExprOk (byte "[" ∷ s) (read_expr rv rr s)
  expr_good s =
      bind_good (gv s) (λ v q e' ov. map_good (expr v) (gr q) (λ t p e''. simp append_assoc (cc)) (λ t ot. (ov, ot)))

  after_good : (s : List ℕ) (h : Head) (r : List ℕ) → s ≡ spell_head h ++ r → Good write_value ValueOk s (read_after rv rr h r)
  after_good s hash r e = map_good parameter (gv r) (λ v q e'. cc) (λ v o. o)
  after_good s bare r e = map_good grouped (expr_good r) (λ v q e'. cc) (λ v o. o)
  after_good s (call g) r e =
      map_good (applied g) (expr_good r) (λ v q e'. e ∙ append_assoc (spell_func g) (bytes "[") r ∙ ap (λ x. spell_func g ++ x) e' ∙ sym (append_assoc (spell_func g) (write_expr v) q)) (λ v o. o)

  more_good : (s : List ℕ) (h : Tail) (r : List ℕ) → s ≡ spell_tail h ++ r → Good write_rest RestOk s (read_more rv rr h r)
  more_good s close r e = front e tt
  more_good s (oper o) r e = bind_good (gv r) (λ v q e' ov. map_good (more o v) (gr q) (λ t p e''. simp append_assoc (cc)) (λ t ot. (ov, ot)))

mutual
  pub value_good : (f : ℕ) (s : List ℕ) → Good write_value ValueOk s (read_value f s)
  value_good zero s = nothing
  value_good (suc f) s =
      if_good (opens_number s) (λ _. map_good number (number_good s) (λ n r e. e) (λ n o. o))
      (λ _. bind_good (head_good s) (λ h r e _. after_good (λ q. value_good f q) (λ q. rest_good f q) s h r e))

  pub rest_good : (f : ℕ) (s : List ℕ) → Good write_rest RestOk s (read_rest f s)
  rest_good zero s = nothing
  rest_good (suc f) s = bind_good (tail_good s) (λ h r e _. more_good (λ q. value_good f q) (λ q. rest_good f q) s h r e)

pub value_of_good : (s : List ℕ) → Good write_value ValueOk s (value_of s)
unfolding value_of
value_of_good s = value_good (suc (length s)) s

setting_good : (b : ℕ) (s : List ℕ) → byte "#" ≡ b → Good write_item ItemOk (b ∷ s) (read_setting s)
setting_good b s h =
    bind_good (value_of_good s) (λ v r e ov. bind_good (byte_good (byte "=") r) (λ _ q e' _. map_good (setting v) (value_of_good q) (λ w p e''. simp append_assoc (cc)) (λ w ow. (ov, ow))))

comment_good : (b : ℕ) (s : List ℕ) → byte "(" ≡ b → Good write_item ItemOk (b ∷ s) (read_comment s)
comment_good b s h =
    eat_good (comment (take_while remark s)) (while_all remark s) (bytes ")") (drop_while remark s) (λ r e. simp append_assoc (cc (while_good remark s)))

pub item_good : (s : List ℕ) → Good write_item ItemOk s (read_item s)
item_good [] = nothing
item_good (b ∷ s) =
    if_good (letter b) (λ t. map_good (word b) (value_of_good s) (λ v r e. cc) (λ v o. (t, o)))
    (λ _. if_good (eqb (byte "#") b) (λ t. setting_good b s (eqb→eq (byte "#") b t))
    (λ _. if_good (eqb (byte "(") b) (λ t. comment_good b s (eqb→eq (byte "(") b t)) (λ _. nothing)))

items_good : (f : ℕ) (s : List ℕ) → Good write_items ItemsOk s (read_items f s)
items_good zero s = nothing
items_good (suc f) [] = front refl tt
items_good (suc f) (b ∷ s) =
    bind_good (item_good (b ∷ s)) (λ i r e oi. map_good (λ l. i ∷ l) (items_good f r) (λ l q e'. simp append_assoc (cc)) (λ l ol. (oi, ol)))

pub label_good : (s : List ℕ) → Good write_label LabelOk s (read_label s)
label_good [] = front refl tt
label_good (b ∷ s) =
    if_good (eqb (byte "N") b) (λ t. if_good (leb 1 (length (take_while digit s)))
    (λ u. if_good (leb (length (take_while digit s)) 5) (λ v. front (cc (eqb→eq (byte "N") b t, while_good digit s)) (while_all digit s, leb→le 1 _ u, omega (arith, leb→le (length (take_while digit s)) 5 v))) (λ _. nothing)) (λ _. nothing))
    (λ _. front refl tt)

pub rest_of_good : (s : List ℕ) → Good write_rest RestOk s (rest_of s)
unfolding rest_of
rest_of_good s = rest_good (suc (length s)) s

pub expr_of_good : (s : List ℕ) → Good write_expr ExprOk (byte "[" ∷ s) (expr_of s)
unfolding expr_of
expr_of_good s = expr_good value_of_good rest_of_good s

condition_good : (k : Stroke) (b : ℕ) (s : List ℕ) → spell_stroke k ≡ b ∷ [] → Good write_mark MarkOk (b ∷ s) (read_condition k s)
condition_good k b [] h = front {a = plain k} {r = []} (rw h) tt
condition_good k b (c ∷ s) h =
    if_good (eqb (byte "[") c) (λ t. map_good (conditional k) (expr_of_good s) (λ e r d. simp append_assoc (cc (eqb→eq (byte "[") c t))) (λ e o. o)) (λ _. front {a = plain k} {r = c ∷ s} (rw h) tt)

pub mark_good : (s : List ℕ) → Good write_mark MarkOk s (read_mark s)
mark_good [] = front refl tt
mark_good (b ∷ s) =
    if_good (eqb (byte "/") b) (λ t. condition_good slash b s (cc (eqb→eq (byte "/") b t)))
    (λ _. if_good (eqb (byte "\\") b) (λ t. condition_good backslash b s (cc (eqb→eq (byte "\\") b t))) (λ _. front refl tt))

pub items_of_good : (s : List ℕ) → Good write_items ItemsOk s (items_of s)
unfolding items_of
items_of_good s = items_good (suc (length s)) s

pub line_good : (s : List ℕ) → Good write LineOk s (read_line s)
line_good s =
    bind_good (mark_good s) (λ m r e om. bind_good (label_good r) (λ n q e' on. map_good (line m n) (items_of_good q) (λ l p e''. simp append_assoc (cc)) (λ l ol. (om, on, ol))))
