-- Where the grammar's reader stops, some right line begins with the bytes that it passed: each way it can stop is completed to a tree.
-- Assumes nothing.
use mathlib.Core.Path.{◌≡◌, refl, sym, ap, ◌∙◌}
use mathlib.Core.Bool.{Bool, true, false, cond, not}
use mathlib.Core.List.{List, [], ◌∷◌, ◌++◌, append_assoc, append-nil}
use Prim.Native.Nat.{ℕ, zero, suc, ◌<◌}
use native.Mathlib.Omega.{arith}
use borrow.Author.Tests.{leb-false}
use lib.Dec.{T, leb, eqb, eqb→eq}
use lib.ListN.{length, take, drop, take-append-drop, length-take}
use lib.Seq.{take-append-le}
use Rattle.laws.proofs.Bools.{and_left, and_right}
use Rattle.grammar.specs.Bytes.{all}
use Rattle.grammar.specs.Grammar.{Sign, unsigned, plus, minus, Fraction, whole, point, num, Value, number, parameter, applied, grouped, Expr, expr, Rest, done, more}
use Rattle.grammar.specs.Grammar.{Item, word, setting, comment, Stroke, slash, backslash, Mark, conditional, Label, label, unlabelled, Line, line, digit, letter, remark}
use Rattle.grammar.specs.Grammar.{spell_sign, spell_func, spell_op, spell_stroke, write_mark, write_fraction, fraction_digits, write_number, write_value, write_expr, write_rest, write_item, write_items, write_label, write}
use Rattle.grammar.specs.Grammar.{NumOk, ValueOk, ExprOk, RestOk, ItemOk, ItemsOk, LabelOk, MarkOk, LineOk}
use Rattle.grammar.proofs.Read.{Read, fail, got, eat, bind, map_r, take_while, drop_while, read_sign, read_fraction, finish, read_number, opens_number}
use Rattle.grammar.proofs.Read.{Head, hash, bare, call, spell_head, Tail, close, oper, spell_tail, read_f, read_head, read_tail, read_expr, read_after, read_more, read_value, read_rest}
use Rattle.grammar.proofs.Read.{value_of, rest_of, expr_of, read_setting, read_comment, read_item, read_items, items_of, labelled, read_label, read_condition, read_mark, read_line}
use Rattle.grammar.proofs.Sound.{Good, front, Any, byte_good, head_good, tail_good, while_good, while_all, value_good, value_of_good, item_good, label_good, mark_good}
use Rattle.grammar.specs.declared.Op.TheVariants.{Mod, And, Or, Xor}
use Rattle.grammar.specs.declared.Func.TheVariants.{Abs, Fix, Fup, Round}

-- something in order is written with these bytes first
pub record Begins {A : Type 0} (w : A → List ℕ) (Ok : A → Type 0) (x : List ℕ) : Type 0 where
  pub tree : A
  pub ok : Ok tree
  pub rest : List ℕ
  pub writes : w tree ≡ x ++ rest

-- reading s stopped past x, and something begins with x; or it did not stop
pub data Stops {A : Type 0} (w : A → List ℕ) (Ok : A → Type 0) (s : List ℕ) : Read A → Type 0 where
  goes : {a : A} {r : List ℕ} → Stops w Ok s (got a r)
  past : {q : List ℕ} (x : List ℕ) → s ≡ x ++ q → Begins w Ok x → Stops w Ok s (fail q)

module _ {A : Type 0} {w : A → List ℕ} {Ok : A → Type 0} {s : List ℕ} where
  if_stops : (c : Bool) {m n : Read A} → (T c → Stops w Ok s m) → (T (not c) → Stops w Ok s n) → Stops w Ok s (cond c m n)
  if_stops true g h = g tt
  if_stops false g h = h tt

  -- at the very first byte
  at_once : Begins w Ok [] → Stops w Ok s (fail s)
  at_once b = past [] refl b

  -- inside a spelling, of which pre was passed
  eat_stops : (a : A) → Ok a → (x q pre : List ℕ) → s ≡ pre ++ q → w a ≡ pre ++ x → Stops w Ok s (eat x a q)
  eat_stops a o [] q pre e d = goes
  eat_stops a o (c ∷ x) [] pre e d = past pre e (record { tree = a; ok = o; rest = c ∷ x; writes = d })
  eat_stops a o (c ∷ x) (y ∷ q) pre e d =
      if_stops (eqb c y)
      (λ t. eat_stops a o x q (pre ++ (c ∷ [])) (e ∙ ap (λ (k : ℕ). pre ++ (k ∷ q)) (sym (eqb→eq c y t)) ∙ sym (append_assoc pre (c ∷ []) q)) (d ∙ sym (append_assoc pre (c ∷ []) x)))
      (λ _. past pre e (record { tree = a; ok = o; rest = c ∷ x; writes = d }))

  -- what comes after: where the first part stops, its beginning is completed; past it, the second part says
  bind_stops : {B : Type 0} {w' : B → List ℕ} {Ok' : B → Type 0} {m : Read A} {k : A → List ℕ → Read B} (pre : List ℕ) →
      Stops w Ok s m → Good w Ok s m → ((x : List ℕ) → Begins w Ok x → Begins w' Ok' (pre ++ x)) →
      ((a : A) (r : List ℕ) → s ≡ w a ++ r → Ok a → Stops w' Ok' (pre ++ s) (k a r)) → Stops w' Ok' (pre ++ s) (bind m k)
  bind_stops pre (past {q = q} x e b) g c h = past (pre ++ x) (ap (λ (y : List ℕ). pre ++ y) e ∙ sym (append_assoc pre x q)) (c x b)
  bind_stops pre goes (front {a = a} {r = r} e o) c h = h a r e o

  map_stops : {B : Type 0} {w' : B → List ℕ} {Ok' : B → Type 0} {m : Read A} (k : A → B) (pre : List ℕ) →
      Stops w Ok s m → ((x : List ℕ) → Begins w Ok x → Begins w' Ok' (pre ++ x)) → Stops w' Ok' (pre ++ s) (map_r k m)
  map_stops k pre goes c = goes
  map_stops k pre (past {q = q} x e b) c = past (pre ++ x) (ap (λ (y : List ℕ). pre ++ y) e ∙ sym (append_assoc pre x q)) (c x b)

-- a beginning completed inside something that writes pre before it and post behind it
within : {A B : Type 0} {w : A → List ℕ} {Ok : A → Type 0} {w' : B → List ℕ} {Ok' : B → Type 0} {x : List ℕ} (pre : List ℕ) (k : A → B) (post : List ℕ) →
    ((a : A) → w' (k a) ≡ pre ++ (w a ++ post)) → ((a : A) → Ok a → Ok' (k a)) → Begins w Ok x → Begins w' Ok' (pre ++ x)
within {x = x} pre k post e f b = record {
  tree = k b.tree;
  ok = f b.tree b.ok;
  rest = b.rest ++ post;
  writes =
      e b.tree ∙ ap (λ (y : List ℕ). pre ++ (y ++ post)) b.writes ∙ ap (λ (y : List ℕ). pre ++ y) (append_assoc x b.rest post)
      ∙ sym (append_assoc pre x (b.rest ++ post));
}

-- ---- spellings

head_none : Begins spell_head Any []
head_none = record { tree = hash; ok = tt; rest = 35 ∷ []; writes = refl }

-- a word whose first byte is known
word_stops : {A : Type 0} {spell : A → List ℕ} (a : A) (k b : ℕ) (x s : List ℕ) → spell a ≡ k ∷ x → T (eqb k b) → Stops spell Any (b ∷ s) (eat x a s)
word_stops {spell = spell} a k b x s e t = eat_stops a tt x s (b ∷ []) refl (e ∙ ap (λ (y : ℕ). y ∷ x) (eqb→eq k b t))

read_F_stops : (b : ℕ) (s : List ℕ) → T (eqb 70 b) → Stops spell_head Any (b ∷ s) (read_f s)
read_F_stops b [] t = past (b ∷ []) refl (record { tree = call Fix; ok = tt; rest = 73 ∷ 88 ∷ 91 ∷ []; writes = ap (λ (y : ℕ). y ∷ 73 ∷ 88 ∷ 91 ∷ []) (eqb→eq 70 b t) })
read_F_stops b (c ∷ s) t =
    if_stops (eqb 73 c) (λ u. eat_stops (call Fix) tt (88 ∷ 91 ∷ []) s (b ∷ c ∷ []) refl (cc (eqb→eq 70 b t, eqb→eq 73 c u)))
    (λ _. if_stops (eqb 85 c) (λ u. eat_stops (call Fup) tt (80 ∷ 91 ∷ []) s (b ∷ c ∷ []) refl (cc (eqb→eq 70 b t, eqb→eq 85 c u)))
    (λ _. past (b ∷ []) refl (record { tree = call Fix; ok = tt; rest = 73 ∷ 88 ∷ 91 ∷ []; writes = ap (λ (y : ℕ). y ∷ 73 ∷ 88 ∷ 91 ∷ []) (eqb→eq 70 b t) })))

pub head_stops : (s : List ℕ) → Stops spell_head Any s (read_head s)
head_stops [] = at_once head_none
head_stops (b ∷ s) =
    if_stops (eqb 35 b) (λ _. goes)
    (λ _. if_stops (eqb 91 b) (λ _. goes)
    (λ _. if_stops (eqb 65 b) (λ t. word_stops (call Abs) 65 b (66 ∷ 83 ∷ 91 ∷ []) s refl t)
    (λ _. if_stops (eqb 70 b) (λ t. read_F_stops b s t)
    (λ _. if_stops (eqb 82 b) (λ t. word_stops (call Round) 82 b (79 ∷ 85 ∷ 78 ∷ 68 ∷ 91 ∷ []) s refl t)
    (λ _. at_once head_none)))))

tail_none : Begins spell_tail Any []
tail_none = record { tree = close; ok = tt; rest = 93 ∷ []; writes = refl }

pub tail_stops : (s : List ℕ) → Stops spell_tail Any s (read_tail s)
tail_stops [] = at_once tail_none
tail_stops (b ∷ s) =
    if_stops (eqb 93 b) (λ _. goes)
    (λ _. if_stops (eqb 43 b) (λ _. goes)
    (λ _. if_stops (eqb 45 b) (λ _. goes)
    (λ _. if_stops (eqb 42 b) (λ _. goes)
    (λ _. if_stops (eqb 47 b) (λ _. goes)
    (λ _. if_stops (eqb 77 b) (λ t. word_stops (oper Mod) 77 b (79 ∷ 68 ∷ []) s refl t)
    (λ _. if_stops (eqb 65 b) (λ t. word_stops (oper And) 65 b (78 ∷ 68 ∷ []) s refl t)
    (λ _. if_stops (eqb 79 b) (λ t. word_stops (oper Or) 79 b (82 ∷ []) s refl t)
    (λ _. if_stops (eqb 88 b) (λ t. word_stops (oper Xor) 88 b (79 ∷ 82 ∷ []) s refl t)
    (λ _. at_once tail_none)))))))))

-- ---- numbers

-- what cannot fail: it is written at the front
data Front {A : Type 0} (w : A → List ℕ) (s : List ℕ) : Read A → Type 0 where
  first : {a : A} {r : List ℕ} → s ≡ w a ++ r → Front w s (got a r)

sign_front : (s : List ℕ) → Front spell_sign s (read_sign s)
sign_front [] = first refl
sign_front (b ∷ s) = go (eqb 43 b) (eqb 45 b) (λ t. eqb→eq 43 b t) (λ t. eqb→eq 45 b t)
  where
    go : (c d : Bool) → (T c → 43 ≡ b) → (T d → 45 ≡ b) → Front spell_sign (b ∷ s) (cond c (got plus s) (cond d (got minus s) (got unsigned (b ∷ s))))
    go true d f g = first (ap (λ (y : ℕ). y ∷ s) (sym (f tt)))
    go false true f g = first (ap (λ (y : ℕ). y ∷ s) (sym (g tt)))
    go false false f g = first refl

fraction_front : (s : List ℕ) → Front write_fraction s (read_fraction s)
fraction_front [] = first refl
fraction_front (b ∷ s) = go (eqb 46 b) (λ t. eqb→eq 46 b t)
  where
    go : (c : Bool) → (T c → 46 ≡ b) → Front write_fraction (b ∷ s) (cond c (got (point (take_while digit s)) (drop_while digit s)) (got whole (b ∷ s)))
    go true f = first (ap (λ (y : ℕ). y ∷ s) (sym (f tt)) ∙ ap (λ (y : List ℕ). 46 ∷ y) (while_good digit s))
    go false f = first refl

-- a sign, or a sign and a point, before any digit
begins_number : (g : Sign) (ds : List ℕ) (f : Fraction) → length (ds ++ fraction_digits f) < 1 → Begins write_number NumOk (spell_sign g ++ (ds ++ write_fraction f))
begins_number g [] whole h = record {
  tree = num g (48 ∷ []) whole;
  ok = record { left = tt; right = tt; some = omega arith };
  rest = 48 ∷ [];
  writes = sym (append_assoc (spell_sign g) [] (48 ∷ []));
}
begins_number g [] (point []) h = record {
  tree = num g [] (point (48 ∷ []));
  ok = record { left = tt; right = tt; some = omega arith };
  rest = 48 ∷ [];
  writes = sym (append_assoc (spell_sign g) (46 ∷ []) (48 ∷ []));
}
begins_number g [] (point (d ∷ ds)) h = absurd (omega arith)
begins_number g (d ∷ ds) f h = absurd (omega arith)

number_ends : (s : List ℕ) (g : Sign) (r : List ℕ) (f : Fraction) (q : List ℕ) → s ≡ spell_sign g ++ r → drop_while digit r ≡ write_fraction f ++ q →
    Stops write_number NumOk s (finish g (take_while digit r) f q)
number_ends s g r f q e d = go (leb 1 (length (take_while digit r ++ fraction_digits f))) refl
  where
    go : (c : Bool) → leb 1 (length (take_while digit r ++ fraction_digits f)) ≡ c → Stops write_number NumOk s (cond c (got (num g (take_while digit r) f) q) (fail q))
    go true h = goes
    go false h =
        past (spell_sign g ++ (take_while digit r ++ write_fraction f))
        (e ∙ ap (λ (y : List ℕ). spell_sign g ++ y) (while_good digit r ∙ ap (λ (y : List ℕ). take_while digit r ++ y) d ∙ sym (append_assoc (take_while digit r) (write_fraction f) q)) ∙ sym (append_assoc (spell_sign g) (take_while digit r ++ write_fraction f) q))
        (begins_number g (take_while digit r) f (leb-false 1 (length (take_while digit r ++ fraction_digits f)) h))

pub number_stops : (s : List ℕ) → Stops write_number NumOk s (read_number s)
number_stops s = sign (read_sign s) (sign_front s)
  where
    fraction : (g : Sign) (r : List ℕ) → s ≡ spell_sign g ++ r → (m : Read Fraction) → Front write_fraction (drop_while digit r) m →
        Stops write_number NumOk s (bind m (λ f q. finish g (take_while digit r) f q))
    fraction g r e (got f q) (first d) = number_ends s g r f q e d
    fraction g r e (fail _) x'' = elim x'' [ ]

    sign : (m : Read Sign) → Front spell_sign s m → Stops write_number NumOk s (bind m (λ g r. bind (read_fraction (drop_while digit r)) (λ f q. finish g (take_while digit r) f q)))
    sign (got g r) (first e) = fraction g r e (read_fraction (drop_while digit r)) (fraction_front (drop_while digit r))
    sign (fail _) x'' = elim x'' [ ]

-- ---- values

-- the shortest value, the shortest end of an expression, and the shortest expression
abbrev zeroed : Value
zeroed = number (num unsigned (48 ∷ []) whole)

zeroed_ok : ValueOk zeroed
zeroed_ok = record { left = tt; right = tt; some = omega arith }

-- a head is completed by what it wants
abbrev headed : Head → Value
headed hash = parameter zeroed
headed bare = grouped (expr zeroed done)
headed (call g) = applied g (expr zeroed done)

abbrev headed_by : Head → List ℕ
headed_by hash = 48 ∷ []
headed_by bare = 48 ∷ 93 ∷ []
headed_by (call g) = 48 ∷ 93 ∷ []

headed_writes : (h : Head) → write_value (headed h) ≡ spell_head h ++ headed_by h
headed_writes hash = refl
headed_writes bare = refl
headed_writes (call g) = sym (append_assoc (spell_func g) (91 ∷ []) (48 ∷ 93 ∷ []))

headed_ok : (h : Head) → ValueOk (headed h)
headed_ok hash = zeroed_ok
headed_ok bare = (zeroed_ok, tt)
headed_ok (call g) = (zeroed_ok, tt)

begins_head : (x : List ℕ) → Begins spell_head Any x → Begins write_value ValueOk x
begins_head x b = record {
  tree = headed b.tree;
  ok = headed_ok b.tree;
  rest = b.rest ++ headed_by b.tree;
  writes = headed_writes b.tree ∙ ap (λ (y : List ℕ). y ++ headed_by b.tree) b.writes ∙ append_assoc x b.rest (headed_by b.tree);
}

-- and so is what follows a value
abbrev tailed : Tail → Rest
tailed close = done
tailed (oper o) = more o zeroed done

abbrev tailed_by : Tail → List ℕ
tailed_by close = []
tailed_by (oper o) = 48 ∷ 93 ∷ []

tailed_writes : (h : Tail) → write_rest (tailed h) ≡ spell_tail h ++ tailed_by h
tailed_writes close = refl
tailed_writes (oper o) = refl

tailed_ok : (h : Tail) → RestOk (tailed h)
tailed_ok close = tt
tailed_ok (oper o) = (zeroed_ok, tt)

begins_tail : (x : List ℕ) → Begins spell_tail Any x → Begins write_rest RestOk x
begins_tail x b = record {
  tree = tailed b.tree;
  ok = tailed_ok b.tree;
  rest = b.rest ++ tailed_by b.tree;
  writes = tailed_writes b.tree ∙ ap (λ (y : List ℕ). y ++ tailed_by b.tree) b.writes ∙ append_assoc x b.rest (tailed_by b.tree);
}

value_none : Begins write_value ValueOk []
value_none = record { tree = zeroed; ok = zeroed_ok; rest = 48 ∷ []; writes = refl }

rest_none : Begins write_rest RestOk []
rest_none = record { tree = done; ok = tt; rest = 93 ∷ []; writes = refl }

module _ {rv : List ℕ → Read Value} {rr : List ℕ → Read Rest} (gv : (s : List ℕ) → Good write_value ValueOk s (rv s))
    (sv : (s : List ℕ) → Stops write_value ValueOk s (rv s)) (sr : (s : List ℕ) → Stops write_rest RestOk s (rr s)) where
  expr_stops : (s : List ℕ) → Stops write_expr ExprOk (91 ∷ s) (read_expr rv rr s)
  expr_stops s =
      bind_stops (91 ∷ []) (sv s) (gv s) (λ x b. within (91 ∷ []) (λ v. expr v done) (93 ∷ []) (λ v. refl) (λ v o. (o, tt)) b)
      (λ v r e o. to v r e (map_stops (expr v) (91 ∷ write_value v) (sr r) (λ x b. within (91 ∷ write_value v) (expr v) [] (λ q. ap (λ (y : List ℕ). 91 ∷ (write_value v ++ y)) (sym (append-nil (write_rest q)))) (λ q p. (o, p)) b)))
    where
      to : (v : Value) (r : List ℕ) {m : Read Expr} → s ≡ write_value v ++ r → Stops write_expr ExprOk ((91 ∷ write_value v) ++ r) m → Stops write_expr ExprOk (91 ∷ s) m
      to v r {m} e h = rw e h

  after_stops : (s : List ℕ) (h : Head) (r : List ℕ) → s ≡ spell_head h ++ r → Stops write_value ValueOk s (read_after rv rr h r)
  after_stops s hash r e = rw e (map_stops parameter (35 ∷ []) (sv r) (λ x b. within (35 ∷ []) parameter [] (λ v. ap (λ (y : List ℕ). 35 ∷ y) (sym (append-nil (write_value v)))) (λ v o. o) b))
  after_stops s bare r e = rw e (map_stops grouped [] (expr_stops r) (λ x b. within [] grouped [] (λ v. sym (append-nil (write_expr v))) (λ v o. o) b))
  after_stops s (call g) r e =
      rw (e ∙ append_assoc (spell_func g) (91 ∷ []) r)
      (map_stops (applied g) (spell_func g) (expr_stops r) (λ x b. within (spell_func g) (applied g) [] (λ v. ap (λ (y : List ℕ). spell_func g ++ y) (sym (append-nil (write_expr v)))) (λ v o. o) b))

  more_stops : (s : List ℕ) (h : Tail) (r : List ℕ) → s ≡ spell_tail h ++ r → Stops write_rest RestOk s (read_more rv rr h r)
  more_stops s close r e = goes
  more_stops s (oper o) r e =
      rw e
      (bind_stops (spell_op o) (sv r) (gv r) (λ x b. within (spell_op o) (λ v. more o v done) (93 ∷ []) (λ v. refl) (λ v p. (p, tt)) b)
      (λ v q d p. to v q d (map_stops (more o v) (spell_op o ++ write_value v) (sr q) (λ x b. within (spell_op o ++ write_value v) (more o v) [] (λ t. ap (λ (y : List ℕ). spell_op o ++ (write_value v ++ y)) (sym (append-nil (write_rest t))) ∙ sym (append_assoc (spell_op o) (write_value v) (write_rest t ++ []))) (λ t k. (p, k)) b))))
    where
      to : (v : Value) (q : List ℕ) {m : Read Rest} → r ≡ write_value v ++ q → Stops write_rest RestOk ((spell_op o ++ write_value v) ++ q) m → Stops write_rest RestOk (spell_op o ++ r) m
      to v q {m} d h = rw (d, sym (append_assoc (spell_op o) (write_value v) q)) h

mutual
  pub value_stops : (f : ℕ) (s : List ℕ) → Stops write_value ValueOk s (read_value f s)
  value_stops zero s = at_once value_none
  value_stops (suc f) s =
      if_stops (opens_number s) (λ _. map_stops number [] (number_stops s) (λ x b. within [] number [] (λ n. sym (append-nil (write_number n))) (λ n o. o) b))
      (λ _. bind_stops [] (head_stops s) (head_good s) begins_head (λ h r e _. after_stops (λ q. value_good f q) (λ q. value_stops f q) (λ q. rest_stops f q) s h r e))

  pub rest_stops : (f : ℕ) (s : List ℕ) → Stops write_rest RestOk s (read_rest f s)
  rest_stops zero s = at_once rest_none
  rest_stops (suc f) s =
      bind_stops [] (tail_stops s) (tail_good s) begins_tail (λ h r e _. more_stops (λ q. value_good f q) (λ q. value_stops f q) (λ q. rest_stops f q) s h r e)

pub value_of_stops : (s : List ℕ) → Stops write_value ValueOk s (value_of s)
unfolding value_of
value_of_stops s = value_stops (suc (length s)) s

-- ---- items

item_none : Begins write_item ItemOk []
item_none = record { tree = comment []; ok = tt; rest = 40 ∷ 41 ∷ []; writes = refl }

equals_stops : (v : Value) → ValueOk v → (r : List ℕ) → Stops write_item ItemOk ((35 ∷ write_value v) ++ r) (bind (eat {A = Unit {0}} (61 ∷ []) tt r) (λ _ q. map_r (setting v) (value_of q)))
equals_stops v o r =
    bind_stops (35 ∷ write_value v) (eat_stops tt tt (61 ∷ []) r [] refl refl) (byte_good 61 r)
    (λ x b. within (35 ∷ write_value v) (λ _. setting v zeroed) (48 ∷ []) (λ _. refl) (λ _ _. (o, zeroed_ok)) b)
    (λ _ q e _. to q e (map_stops (setting v) ((35 ∷ write_value v) ++ (61 ∷ [])) (value_of_stops q) (λ x b. within ((35 ∷ write_value v) ++ (61 ∷ [])) (setting v) [] (λ u. ap (λ (y : List ℕ). (35 ∷ write_value v) ++ (61 ∷ y)) (sym (append-nil (write_value u))) ∙ sym (append_assoc (35 ∷ write_value v) (61 ∷ []) (write_value u ++ []))) (λ u p. (o, p)) b)))
  where
    to : (q : List ℕ) {m : Read Item} → r ≡ 61 ∷ q → Stops write_item ItemOk (((35 ∷ write_value v) ++ (61 ∷ [])) ++ q) m → Stops write_item ItemOk ((35 ∷ write_value v) ++ r) m
    to q {m} e h = rw (e, sym (append_assoc (35 ∷ write_value v) (61 ∷ []) q)) h

setting_stops : (s : List ℕ) → Stops write_item ItemOk (35 ∷ s) (read_setting s)
setting_stops s =
    bind_stops (35 ∷ []) (value_of_stops s) (value_of_good s) (λ x b. within (35 ∷ []) (λ v. setting v zeroed) (61 ∷ 48 ∷ []) (λ v. refl) (λ v o. (o, zeroed_ok)) b)
    (λ v r e o. to v r e (equals_stops v o r))
  where
    to : (v : Value) (r : List ℕ) {m : Read Item} → s ≡ write_value v ++ r → Stops write_item ItemOk ((35 ∷ write_value v) ++ r) m → Stops write_item ItemOk (35 ∷ s) m
    to v r {m} e h = rw e h

comment_stops : (s : List ℕ) → Stops write_item ItemOk (40 ∷ s) (read_comment s)
comment_stops s =
    eat_stops (comment (take_while remark s)) (while_all remark s) (41 ∷ []) (drop_while remark s) (40 ∷ take_while remark s) (ap (λ (y : List ℕ). 40 ∷ y) (while_good remark s)) refl

pub item_stops : (s : List ℕ) → Stops write_item ItemOk s (read_item s)
item_stops [] = at_once item_none
item_stops (b ∷ s) =
    if_stops (letter b) (λ t. map_stops (word b) (b ∷ []) (value_of_stops s) (λ x k. within (b ∷ []) (word b) [] (λ v. ap (λ (y : List ℕ). b ∷ y) (sym (append-nil (write_value v)))) (λ v o. (t, o)) k))
    (λ _. if_stops (eqb 35 b) (λ t. from (eqb→eq 35 b t) (setting_stops s))
    (λ _. if_stops (eqb 40 b) (λ t. from (eqb→eq 40 b t) (comment_stops s)) (λ _. at_once item_none)))
  where
    from : {k : ℕ} {m : Read Item} → k ≡ b → Stops write_item ItemOk (k ∷ s) m → Stops write_item ItemOk (b ∷ s) m
    from e h = rw e at h

items_none : Begins write_items ItemsOk []
items_none = record { tree = []; ok = tt; rest = []; writes = refl }

pub items_stops : (f : ℕ) (s : List ℕ) → Stops write_items ItemsOk s (read_items f s)
items_stops zero s = at_once items_none
items_stops (suc f) [] = goes
items_stops (suc f) (b ∷ s) =
    bind_stops [] (item_stops (b ∷ s)) (item_good (b ∷ s)) (λ x k. within [] (λ i. i ∷ []) [] (λ i. refl) (λ i o. (o, tt)) k)
    (λ i r e o. to i r e (map_stops (λ l. i ∷ l) (write_item i) (items_stops f r) (λ x k. within (write_item i) (λ l. i ∷ l) [] (λ l. ap (λ (y : List ℕ). write_item i ++ y) (sym (append-nil (write_items l)))) (λ l p. (o, p)) k)))
  where
    to : (i : Item) (r : List ℕ) {m : Read (List Item)} → b ∷ s ≡ write_item i ++ r → Stops write_items ItemsOk (write_item i ++ r) m → Stops write_items ItemsOk (b ∷ s) m
    to i r {m} e h = rw e h

pub items_of_stops : (s : List ℕ) → Stops write_items ItemsOk s (items_of s)
unfolding items_of
items_of_stops s = items_stops (suc (length s)) s

-- ---- the line's beginning, and the line

all_take : (p : ℕ → Bool) (n : ℕ) (s : List ℕ) → T (all p s) → T (all p (take n s))
all_take p zero s h = tt
all_take p (suc n) [] h = tt
all_take p (suc n) (b ∷ s) h = go (p b) refl (and_left (p b) (all p s) h) (all_take p n s (and_right (p b) (all p s) h))
  where
    go : (c : Bool) → p b ≡ c → T c → T (all p (take n s)) → T (all p (b ∷ take n s))
    go true e u k = rw e k
    go false e u k = absurd u

-- no digit yet, or five
begins_label : (ds : List ℕ) → length ds < 1 → Begins write_label LabelOk (78 ∷ ds)
begins_label [] h = record { tree = label (48 ∷ []); ok = (tt, omega arith, omega arith); rest = 48 ∷ []; writes = refl }
begins_label (d ∷ ds) h = absurd (omega arith)

begins_five : (ds r : List ℕ) → T (all digit ds) → 5 < length ds → Begins write_label LabelOk (78 ∷ take 5 (ds ++ r))
begins_five ds r o h = record {
  tree = label (take 5 ds);
  ok = (all_take digit 5 ds o, omega (arith, length-take 5 ds), omega (arith, length-take 5 ds));
  rest = [];
  writes = ap (λ (y : List ℕ). 78 ∷ y) (sym (append-nil (take 5 (ds ++ r)) ∙ take-append-le 5 ds r (omega arith)));
}

labelled_stops : (s : List ℕ) → Stops write_label LabelOk (78 ∷ s) (labelled (take_while digit s) (drop_while digit s))
labelled_stops s = go (leb 1 (length (take_while digit s))) (leb (length (take_while digit s)) 5) refl refl
  where
    go : (c d : Bool) → leb 1 (length (take_while digit s)) ≡ c → leb (length (take_while digit s)) 5 ≡ d →
        Stops write_label LabelOk (78 ∷ s)
        (cond c (cond d (got (label (take_while digit s)) (drop_while digit s)) (fail (drop 5 (take_while digit s ++ drop_while digit s)))) (fail (drop_while digit s)))
    go true true e h = goes
    go true false e h =
        past (78 ∷ take 5 (take_while digit s ++ drop_while digit s))
        (ap (λ (y : List ℕ). 78 ∷ y) (while_good digit s ∙ sym (take-append-drop 5 (take_while digit s ++ drop_while digit s))))
        (begins_five (take_while digit s) (drop_while digit s) (while_all digit s) (leb-false (length (take_while digit s)) 5 h))
    go false d e h = past (78 ∷ take_while digit s) (ap (λ (y : List ℕ). 78 ∷ y) (while_good digit s)) (begins_label (take_while digit s) (leb-false 1 (length (take_while digit s)) e))

pub label_stops : (s : List ℕ) → Stops write_label LabelOk s (read_label s)
label_stops [] = goes
label_stops (b ∷ s) = if_stops (eqb 78 b) (λ t. from (eqb→eq 78 b t) (labelled_stops s)) (λ _. goes)
  where
    from : {m : Read Label} → 78 ≡ b → Stops write_label LabelOk (78 ∷ s) m → Stops write_label LabelOk (b ∷ s) m
    from e h = rw e at h

pub rest_of_stops : (s : List ℕ) → Stops write_rest RestOk s (rest_of s)
unfolding rest_of
rest_of_stops s = rest_stops (suc (length s)) s

pub expr_of_stops : (s : List ℕ) → Stops write_expr ExprOk (91 ∷ s) (expr_of s)
unfolding expr_of
expr_of_stops s = expr_stops value_of_good value_of_stops rest_of_stops s

condition_stops : (k : Stroke) (b : ℕ) (s : List ℕ) → spell_stroke k ≡ b ∷ [] → Stops write_mark MarkOk (b ∷ s) (read_condition k s)
condition_stops k b [] h = goes
condition_stops k b (c ∷ s) h = if_stops (eqb 91 c) (λ t. from (eqb→eq 91 c t) inner) (λ _. goes)
  where
    from : {m : Read Mark} → 91 ≡ c → Stops write_mark MarkOk (b ∷ 91 ∷ s) m → Stops write_mark MarkOk (b ∷ c ∷ s) m
    from e d = rw e at d

    inner : Stops write_mark MarkOk (b ∷ 91 ∷ s) (map_r (conditional k) (expr_of s))
    inner = map_stops (conditional k) (b ∷ []) (expr_of_stops s) (λ x d. within (b ∷ []) (conditional k) [] (λ e. rw (h, append-nil (write_expr e))) (λ e o. o) d)

pub mark_stops : (s : List ℕ) → Stops write_mark MarkOk s (read_mark s)
mark_stops [] = goes
mark_stops (b ∷ s) =
    if_stops (eqb 47 b) (λ t. condition_stops slash b s (ap (λ (y : ℕ). y ∷ []) (eqb→eq 47 b t)))
    (λ _. if_stops (eqb 92 b) (λ t. condition_stops backslash b s (ap (λ (y : ℕ). y ∷ []) (eqb→eq 92 b t))) (λ _. goes))

after_mark : (m : Mark) → MarkOk m → (r : List ℕ) → Stops write LineOk (write_mark m ++ r) (bind (read_label r) (λ n q. map_r (line m n) (items_of q)))
after_mark m om r =
    bind_stops (write_mark m) (label_stops r) (label_good r) (λ x b. within (write_mark m) (λ n. line m n []) [] (λ n. refl) (λ n o. (om, o, tt)) b)
    (λ n q e o. to n q e (map_stops (line m n) (write_mark m ++ write_label n) (items_of_stops q) (λ x b. within (write_mark m ++ write_label n) (line m n) [] (λ l. ap (λ (y : List ℕ). write_mark m ++ (write_label n ++ y)) (sym (append-nil (write_items l))) ∙ sym (append_assoc (write_mark m) (write_label n) (write_items l ++ []))) (λ l p. (om, o, p)) b)))
  where
    to : (n : Label) (q : List ℕ) {t : Read Line} → r ≡ write_label n ++ q → Stops write LineOk ((write_mark m ++ write_label n) ++ q) t → Stops write LineOk (write_mark m ++ r) t
    to n q {t} e h = rw (e, sym (append_assoc (write_mark m) (write_label n) q)) h

pub line_stops : (s : List ℕ) → Stops write LineOk s (read_line s)
line_stops s =
    bind_stops [] (mark_stops s) (mark_good s) (λ x b. within [] (λ m. line m unlabelled []) [] (λ m. refl) (λ m o. (o, tt, tt)) b)
    (λ m r e o. to m r e (after_mark m o r))
  where
    to : (m : Mark) (r : List ℕ) {t : Read Line} → s ≡ write_mark m ++ r → Stops write LineOk (write_mark m ++ r) t → Stops write LineOk s t
    to m r {t} e h = rw e h
