-- The grammar's reader looks at no byte past the one at which it stops: what stands behind that byte makes no difference. So no right line begins with
-- the bytes that it passed and the byte at which it stopped.
-- Assumes nothing.
use mathlib.Core.Path.{◌≡◌, refl, sym, ap, ◌∙◌}
use mathlib.Core.Bool.{Bool, true, false, cond}
use mathlib.Core.List.{List, [], ◌∷◌, ◌++◌, append_assoc}
use mathlib.Core.Logic.{◌⊎◌, inl, inr, ⊎_elim}
use Prim.Native.Nat.{ℕ, zero, suc, ◌+◌, ◌≤◌, ◌<◌}
use native.Mathlib.Omega.{arith}
use native.Mathlib.Decide.{dec_le}
use native.Mathlib.Nat.{lt_of_not-le}
use borrow.Author.Tests.{le-leb, lt-leb, leb-false}
use lib.Dec.{leb, eqb}
use lib.ListN.{length, drop, length-append, length-drop}
use lib.Seq.{drop-append-le}
use Rattle.grammar.specs.Grammar.{unsigned, plus, minus, Sign, Fraction, whole, point, num, Value, number, parameter, applied, grouped, expr, done, more}
use Rattle.grammar.specs.Grammar.{word, setting, comment, Stroke, slash, backslash, Mark, unmarked, plain, conditional, Label, label, unlabelled, line, digit, letter, remark, fraction_digits}
use Rattle.grammar.proofs.Read.{Read, fail, got, eat, bind, map_r, take_while, drop_while, read_sign, read_fraction, finish, read_number, numeric}
use Rattle.grammar.proofs.Read.{Head, hash, bare, call, Tail, close, oper, read_f, read_head, read_tail, read_expr, read_after, read_more, read_value, read_rest}
use Rattle.grammar.proofs.Read.{value_of, rest_of, expr_of, read_setting, read_comment, read_item, read_items, items_of, labelled, read_label, read_condition, read_mark, read_line}
use Rattle.grammar.proofs.Sound.{Good, front, while_good, value_good, rest_good, value_of_good, rest_of_good, item_good, items_of_good, label_good}
use Rattle.grammar.proofs.Fuel.{shorter, value_fuel, rest_fuel}
use Rattle.grammar.proofs.Items.{items_fuel}
use Rattle.grammar.specs.declared.Op.TheVariants.{Add, Sub, Mul, Div, Mod, And, Or, Xor}
use Rattle.grammar.specs.declared.Func.TheVariants.{Abs, Fix, Fup, Round}
use Rattle.grammar.proofs.Viable.{Stops, goes, past, value_stops, rest_stops, value_of_stops, rest_of_stops, item_stops, items_of_stops, label_stops}

-- ---- what is left is no longer than what there was

abbrev left_over : {A : Type 0} → Read A → List ℕ
left_over (fail r) = r
left_over (got a r) = r

record Bounded {A : Type 0} (n : ℕ) (m : Read A) : Type 0 where
  size : length (left_over m) ≤ n

bounded : {A : Type 0} {w : A → List ℕ} {Ok : A → Type 0} (s : List ℕ) {m : Read A} → Stops w Ok s m → Good w Ok s m → Bounded (length s) m
bounded s (past {q = q} x e b) g = record { size = omega (arith, shorter s x q e) }
bounded {w = w} s goes (front {a = a} {r = r} e o) = record { size = omega (arith, shorter s (w a) r e) }

all_left : {A : Type 0} (a : A) (r : List ℕ) → Bounded (length r) (got a r)
all_left a r = record { size = omega arith }

at_start : {A : Type 0} (r : List ℕ) → Bounded {A = A} (length r) (fail r)
at_start r = record { size = omega arith }

bound_le : {A : Type 0} {m : Read A} (n k : ℕ) → n ≤ k → Bounded n m → Bounded k m
bound_le n k h g = record { size = omega (arith, g.size) }

one_more : {A : Type 0} {m : Read A} (n : ℕ) → Bounded n m → Bounded (suc n) m
one_more n g = bound_le n (suc n) (omega arith) g

bound_if : {A : Type 0} {n : ℕ} (c : Bool) {m m' : Read A} → Bounded n m → Bounded n m' → Bounded n (cond c m m')
bound_if true g h = g
bound_if false g h = h

bound_map : {A B : Type 0} {n : ℕ} (k : A → B) (m : Read A) → Bounded n m → Bounded n (map_r k m)
bound_map k (fail r) g = record { size = g.size }
bound_map k (got a r) g = record { size = g.size }

bound_bind : {A B : Type 0} {n : ℕ} (m : Read A) (k : A → List ℕ → Read B) → Bounded n m → ((a : A) (r : List ℕ) → Bounded (length r) (k a r)) → Bounded n (bind m k)
bound_bind (fail r) k g h = record { size = g.size }
bound_bind {n = n} (got a r) k g h = bound_le (length r) n g.size (h a r)

eat_bound : {A : Type 0} (x : List ℕ) (a : A) (s : List ℕ) → Bounded (length s) (eat x a s)
eat_bound [] a s = all_left a s
eat_bound (c ∷ x) a [] = at_start []
eat_bound (c ∷ x) a (y ∷ s) = bound_if (eqb c y) (one_more (length s) (eat_bound x a s)) (at_start (y ∷ s))

while_bound : (p : ℕ → Bool) (s : List ℕ) → Bounded (length s) (got (take_while p s) (drop_while p s))
while_bound p s = record { size = omega (arith, shorter s (take_while p s) (drop_while p s) (while_good p s)) }

fraction_bound : (s : List ℕ) → Bounded (length s) (read_fraction s)
fraction_bound [] = all_left whole []
fraction_bound (b ∷ s) = bound_if (eqb 46 b) (one_more (length s) (bound_map point (got (take_while digit s) (drop_while digit s)) (while_bound digit s))) (all_left whole (b ∷ s))

finish_bound : (g : Sign) (ds : List ℕ) (f : Fraction) (r : List ℕ) → Bounded (length r) (finish g ds f r)
finish_bound g ds f r = bound_if (leb 1 (length (ds ++ fraction_digits f))) (all_left (num g ds f) r) (at_start r)

digits_bound : (g : Sign) (r : List ℕ) → Bounded (length r) (bind (got (take_while digit r) (drop_while digit r)) (λ ds d. bind (read_fraction d) (λ f e. finish g ds f e)))
digits_bound g r =
    bound_bind (got (take_while digit r) (drop_while digit r)) _ (while_bound digit r) (λ ds d. bound_bind (read_fraction d) _ (fraction_bound d) (λ f e. finish_bound g ds f e))

read_F_bound : (s : List ℕ) → Bounded (length s) (read_f s)
read_F_bound [] = at_start []
read_F_bound (b ∷ s) =
    bound_if (eqb 73 b) (one_more (length s) (eat_bound (88 ∷ 91 ∷ []) (call Fix) s)) (bound_if (eqb 85 b) (one_more (length s) (eat_bound (80 ∷ 91 ∷ []) (call Fup) s)) (at_start (b ∷ s)))

labelled_bound : (s : List ℕ) → Bounded (length s) (labelled (take_while digit s) (drop_while digit s))
labelled_bound s =
    let k = shorter s (take_while digit s) (drop_while digit s) (while_good digit s) in
    bound_if (leb 1 (length (take_while digit s)))
    (bound_if (leb (length (take_while digit s)) 5) (record { size = omega (arith, k) }) (record { size = omega (arith, k, length-drop 5 (take_while digit s ++ drop_while digit s), length-append (take_while digit s) (drop_while digit s)) }))
    (record { size = omega (arith, k) })

value_bound : (f : ℕ) (s : List ℕ) → Bounded (length s) (read_value f s)
value_bound f s = bounded s (value_stops f s) (value_good f s)

rest_bound : (f : ℕ) (s : List ℕ) → Bounded (length s) (read_rest f s)
rest_bound f s = bounded s (rest_stops f s) (rest_good f s)

value_of_bound : (s : List ℕ) → Bounded (length s) (value_of s)
value_of_bound s = bounded s (value_of_stops s) (value_of_good s)

rest_of_bound : (s : List ℕ) → Bounded (length s) (rest_of s)
rest_of_bound s = bounded s (rest_of_stops s) (rest_of_good s)

expr_of_bound : (s : List ℕ) → Bounded (length s) (expr_of s)
unfolding expr_of
expr_of_bound s = bound_bind (value_of s) _ (value_of_bound s) (λ v r. bound_map (expr v) (rest_of r) (rest_of_bound r))

condition_bound : (k : Stroke) (s : List ℕ) → Bounded (length s) (read_condition k s)
condition_bound k [] = all_left (plain k) []
condition_bound k (b ∷ s) = bound_if (eqb 91 b) (one_more (length s) (bound_map (conditional k) (expr_of s) (expr_of_bound s))) (all_left (plain k) (b ∷ s))

-- ---- two lines that are alike up to a byte b, and then go on as q and as z

module _ (b : ℕ) (q z : List ℕ) where
  -- reading the one goes past b; or both readings stop, or end, at the same place up to b, with the same answer
  data Twin {A : Type 0} : Read A → Read A → Type 0 where
    beyond : (m m' : Read A) → Bounded (length q) m → Twin m m'
    failed : (x : List ℕ) → Twin (fail (x ++ (b ∷ q))) (fail (x ++ (b ∷ z)))
    passed : (a : A) (x : List ℕ) → Twin (got a (x ++ (b ∷ q))) (got a (x ++ (b ∷ z)))

  twin_if : {A : Type 0} (c : Bool) {m m' n n' : Read A} → Twin m m' → Twin n n' → Twin (cond c m n) (cond c m' n')
  twin_if true g h = g
  twin_if false g h = h

  twin_map : {A B : Type 0} (k : A → B) {m m' : Read A} → Twin m m' → Twin (map_r k m) (map_r k m')
  twin_map k (beyond m m' g) = beyond (map_r k m) (map_r k m') (bound_map k m g)
  twin_map k (failed x) = failed x
  twin_map k (passed a x) = passed (k a) x

  twin_bind : {A B : Type 0} {m m' : Read A} (k : A → List ℕ → Read B) → Twin m m' → ((a : A) (r : List ℕ) → Bounded (length r) (k a r)) →
      ((a : A) (x : List ℕ) → Twin (k a (x ++ (b ∷ q))) (k a (x ++ (b ∷ z)))) → Twin (bind m k) (bind m' k)
  twin_bind k (beyond m m' g) h t = beyond (bind m k) (bind m' k) (bound_bind m k g h)
  twin_bind k (failed x) h t = failed x
  twin_bind k (passed a x) h t = t a x

  eat_twin : {A : Type 0} (w : List ℕ) (a : A) (x : List ℕ) → Twin (eat w a (x ++ (b ∷ q))) (eat w a (x ++ (b ∷ z)))
  eat_twin [] a x = passed a x
  eat_twin (c ∷ w) a [] = twin_if (eqb c b) (beyond _ _ (eat_bound w a q)) (failed [])
  eat_twin (c ∷ w) a (y ∷ x) = twin_if (eqb c y) (eat_twin w a x) (failed (y ∷ x))

  -- a run of bytes of a class ends before b, or runs past it, in both
  data Run (x : List ℕ) : List ℕ → List ℕ → List ℕ → List ℕ → Type 0 where
    ends : (ds r : List ℕ) → Run x ds (r ++ (b ∷ q)) ds (r ++ (b ∷ z))
    runs : {dq rq dz rz : List ℕ} → length x < length dq → length x < length dz → Run x dq rq dz rz

  while_run : (p : ℕ → Bool) (x : List ℕ) → Run x (take_while p (x ++ (b ∷ q))) (drop_while p (x ++ (b ∷ q))) (take_while p (x ++ (b ∷ z))) (drop_while p (x ++ (b ∷ z)))
  while_run p [] = go (p b)
    where
      go : (c : Bool) → Run [] (cond c (b ∷ take_while p q) []) (cond c (drop_while p q) (b ∷ q)) (cond c (b ∷ take_while p z) []) (cond c (drop_while p z) (b ∷ z))
      go true =
          let h : length {A = ℕ} [] < length (b ∷ take_while p q) = omega arith in
          let k : length {A = ℕ} [] < length (b ∷ take_while p z) = omega arith in
          runs h k
      go false = ends [] []
  while_run p (y ∷ x) = go (p y) (while_run p x)
    where
      go : (c : Bool) {dq rq dz rz : List ℕ} → Run x dq rq dz rz →
          Run (y ∷ x) (cond c (y ∷ dq) []) (cond c rq (y ∷ (x ++ (b ∷ q)))) (cond c (y ∷ dz) []) (cond c rz (y ∷ (x ++ (b ∷ z))))
      go true (ends ds r) = ends (y ∷ ds) r
      go true {dq} {rq} {dz} {rz} (runs g h) =
          let i : length (y ∷ x) < length (y ∷ dq) = omega arith in
          let j : length (y ∷ x) < length (y ∷ dz) = omega arith in
          runs i j
      go false k = ends [] (y ∷ x)

  -- what is left of a run that goes past b
  run_left : (x dq rq : List ℕ) → x ++ (b ∷ q) ≡ dq ++ rq → length x < length dq → length rq ≤ length q
  run_left x dq rq e h = omega (arith, shorter (x ++ (b ∷ q)) dq rq e, length-append x (b ∷ q))

  while_twin : (p : ℕ → Bool) (x : List ℕ) → Twin (got (take_while p (x ++ (b ∷ q))) (drop_while p (x ++ (b ∷ q)))) (got (take_while p (x ++ (b ∷ z))) (drop_while p (x ++ (b ∷ z))))
  while_twin p x = go (while_run p x) (run_left x (take_while p (x ++ (b ∷ q))) (drop_while p (x ++ (b ∷ q))) (while_good p (x ++ (b ∷ q))))
    where
      go : {dq rq dz rz : List ℕ} → Run x dq rq dz rz → (length x < length dq → length rq ≤ length q) → Twin (got dq rq) (got dz rz)
      go (ends ds r) k = passed ds r
      go {dq} {rq} {dz} {rz} (runs g h) k = beyond (got dq rq) (got dz rz) (record { size = k g })

  -- ---- numbers

  sign_twin : (x : List ℕ) → Twin (read_sign (x ++ (b ∷ q))) (read_sign (x ++ (b ∷ z)))
  sign_twin [] = twin_if (eqb 43 b) (beyond _ _ (all_left _ q)) (twin_if (eqb 45 b) (beyond _ _ (all_left _ q)) (passed unsigned []))
  sign_twin (y ∷ x) = twin_if (eqb 43 y) (passed plus x) (twin_if (eqb 45 y) (passed minus x) (passed unsigned (y ∷ x)))

  fraction_twin : (x : List ℕ) → Twin (read_fraction (x ++ (b ∷ q))) (read_fraction (x ++ (b ∷ z)))
  fraction_twin [] = twin_if (eqb 46 b) (beyond _ _ (bound_map point (got (take_while digit q) (drop_while digit q)) (while_bound digit q))) (passed whole [])
  fraction_twin (y ∷ x) = twin_if (eqb 46 y) (twin_map point (while_twin digit x)) (passed whole (y ∷ x))

  number_twin : (x : List ℕ) → Twin (read_number (x ++ (b ∷ q))) (read_number (x ++ (b ∷ z)))
  number_twin x =
      twin_bind (λ g r. bind (got (take_while digit r) (drop_while digit r)) (λ ds d. bind (read_fraction d) (λ f e. finish g ds f e))) (sign_twin x) digits_bound
      (λ g y. twin_bind (λ ds d. bind (read_fraction d) (λ f e. finish g ds f e)) (while_twin digit y) (λ ds d. bound_bind (read_fraction d) _ (fraction_bound d) (λ f e. finish_bound g ds f e))
      (λ ds v. twin_bind (λ f e. finish g ds f e) (fraction_twin v) (λ f e. finish_bound g ds f e)
      (λ f u. twin_if (leb 1 (length (ds ++ fraction_digits f))) (passed (num g ds f) u) (failed u))))

  -- ---- spellings

  read_F_twin : (x : List ℕ) → Twin (read_f (x ++ (b ∷ q))) (read_f (x ++ (b ∷ z)))
  read_F_twin [] = twin_if (eqb 73 b) (beyond _ _ (eat_bound (88 ∷ 91 ∷ []) (call Fix) q)) (twin_if (eqb 85 b) (beyond _ _ (eat_bound (80 ∷ 91 ∷ []) (call Fup) q)) (failed []))
  read_F_twin (y ∷ x) = twin_if (eqb 73 y) (eat_twin (88 ∷ 91 ∷ []) (call Fix) x) (twin_if (eqb 85 y) (eat_twin (80 ∷ 91 ∷ []) (call Fup) x) (failed (y ∷ x)))

  head_twin : (x : List ℕ) → Twin (read_head (x ++ (b ∷ q))) (read_head (x ++ (b ∷ z)))
  head_twin [] =
      twin_if (eqb 35 b) (beyond _ _ (all_left _ q))
      (twin_if (eqb 91 b) (beyond _ _ (all_left _ q))
      (twin_if (eqb 65 b) (beyond _ _ (eat_bound (66 ∷ 83 ∷ 91 ∷ []) (call Abs) q))
      (twin_if (eqb 70 b) (beyond _ _ (read_F_bound q))
      (twin_if (eqb 82 b) (beyond _ _ (eat_bound (79 ∷ 85 ∷ 78 ∷ 68 ∷ 91 ∷ []) (call Round) q)) (failed [])))))
  head_twin (y ∷ x) =
      twin_if (eqb 35 y) (passed hash x)
      (twin_if (eqb 91 y) (passed bare x)
      (twin_if (eqb 65 y) (eat_twin (66 ∷ 83 ∷ 91 ∷ []) (call Abs) x)
      (twin_if (eqb 70 y) (read_F_twin x)
      (twin_if (eqb 82 y) (eat_twin (79 ∷ 85 ∷ 78 ∷ 68 ∷ 91 ∷ []) (call Round) x) (failed (y ∷ x))))))

  tail_twin : (x : List ℕ) → Twin (read_tail (x ++ (b ∷ q))) (read_tail (x ++ (b ∷ z)))
  tail_twin [] =
      twin_if (eqb 93 b) (beyond _ _ (all_left _ q))
      (twin_if (eqb 43 b) (beyond _ _ (all_left _ q))
      (twin_if (eqb 45 b) (beyond _ _ (all_left _ q))
      (twin_if (eqb 42 b) (beyond _ _ (all_left _ q))
      (twin_if (eqb 47 b) (beyond _ _ (all_left _ q))
      (twin_if (eqb 77 b) (beyond _ _ (eat_bound (79 ∷ 68 ∷ []) (oper Mod) q))
      (twin_if (eqb 65 b) (beyond _ _ (eat_bound (78 ∷ 68 ∷ []) (oper And) q))
      (twin_if (eqb 79 b) (beyond _ _ (eat_bound (82 ∷ []) (oper Or) q))
      (twin_if (eqb 88 b) (beyond _ _ (eat_bound (79 ∷ 82 ∷ []) (oper Xor) q)) (failed [])))))))))
  tail_twin (y ∷ x) =
      twin_if (eqb 93 y) (passed close x)
      (twin_if (eqb 43 y) (passed (oper Add) x)
      (twin_if (eqb 45 y) (passed (oper Sub) x)
      (twin_if (eqb 42 y) (passed (oper Mul) x)
      (twin_if (eqb 47 y) (passed (oper Div) x)
      (twin_if (eqb 77 y) (eat_twin (79 ∷ 68 ∷ []) (oper Mod) x)
      (twin_if (eqb 65 y) (eat_twin (78 ∷ 68 ∷ []) (oper And) x)
      (twin_if (eqb 79 y) (eat_twin (82 ∷ []) (oper Or) x)
      (twin_if (eqb 88 y) (eat_twin (79 ∷ 82 ∷ []) (oper Xor) x) (failed (y ∷ x))))))))))

  -- ---- values

  module _ (f : ℕ) (tv : (x : List ℕ) → Twin (read_value f (x ++ (b ∷ q))) (read_value f (x ++ (b ∷ z)))) (tr : (x : List ℕ) → Twin (read_rest f (x ++ (b ∷ q))) (read_rest f (x ++ (b ∷ z)))) where
    expr_bound : (r : List ℕ) → Bounded (length r) (read_expr (λ s. read_value f s) (λ s. read_rest f s) r)
    expr_bound r = bound_bind (read_value f r) _ (value_bound f r) (λ v s. bound_map (expr v) (read_rest f s) (rest_bound f s))

    expr_twin : (x : List ℕ) → Twin (read_expr (λ s. read_value f s) (λ s. read_rest f s) (x ++ (b ∷ q))) (read_expr (λ s. read_value f s) (λ s. read_rest f s) (x ++ (b ∷ z)))
    expr_twin x = twin_bind (λ v s. map_r (expr v) (read_rest f s)) (tv x) (λ v s. bound_map (expr v) (read_rest f s) (rest_bound f s)) (λ v y. twin_map (expr v) (tr y))

    after_bound : (h : Head) (r : List ℕ) → Bounded (length r) (read_after (λ s. read_value f s) (λ s. read_rest f s) h r)
    after_bound hash r = bound_map parameter (read_value f r) (value_bound f r)
    after_bound bare r = bound_map grouped (read_expr (λ s. read_value f s) (λ s. read_rest f s) r) (expr_bound r)
    after_bound (call g) r = bound_map (applied g) (read_expr (λ s. read_value f s) (λ s. read_rest f s) r) (expr_bound r)

    after_twin : (h : Head) (x : List ℕ) → Twin (read_after (λ s. read_value f s) (λ s. read_rest f s) h (x ++ (b ∷ q))) (read_after (λ s. read_value f s) (λ s. read_rest f s) h (x ++ (b ∷ z)))
    after_twin hash x = twin_map parameter (tv x)
    after_twin bare x = twin_map grouped (expr_twin x)
    after_twin (call g) x = twin_map (applied g) (expr_twin x)

    more_bound : (h : Tail) (r : List ℕ) → Bounded (length r) (read_more (λ s. read_value f s) (λ s. read_rest f s) h r)
    more_bound close r = all_left done r
    more_bound (oper o) r = bound_bind (read_value f r) _ (value_bound f r) (λ v s. bound_map (more o v) (read_rest f s) (rest_bound f s))

    more_twin : (h : Tail) (x : List ℕ) → Twin (read_more (λ s. read_value f s) (λ s. read_rest f s) h (x ++ (b ∷ q))) (read_more (λ s. read_value f s) (λ s. read_rest f s) h (x ++ (b ∷ z)))
    more_twin close x = passed done x
    more_twin (oper o) x = twin_bind (λ v s. map_r (more o v) (read_rest f s)) (tv x) (λ v s. bound_map (more o v) (read_rest f s) (rest_bound f s)) (λ v y. twin_map (more o v) (tr y))

    head_on_twin : (x : List ℕ) → Twin (bind (read_head (x ++ (b ∷ q))) (read_after (λ s. read_value f s) (λ s. read_rest f s))) (bind (read_head (x ++ (b ∷ z))) (read_after (λ s. read_value f s) (λ s. read_rest f s)))
    head_on_twin x = twin_bind (read_after (λ s. read_value f s) (λ s. read_rest f s)) (head_twin x) after_bound after_twin

  mutual
    value_twin : (f : ℕ) (x : List ℕ) → Twin (read_value f (x ++ (b ∷ q))) (read_value f (x ++ (b ∷ z)))
    value_twin zero x = failed x
    value_twin (suc f) [] = twin_if (numeric b) (twin_map number (number_twin [])) (head_on_twin f (λ y. value_twin f y) (λ y. rest_twin f y) [])
    value_twin (suc f) (y ∷ x) = twin_if (numeric y) (twin_map number (number_twin (y ∷ x))) (head_on_twin f (λ y. value_twin f y) (λ y. rest_twin f y) (y ∷ x))

    rest_twin : (f : ℕ) (x : List ℕ) → Twin (read_rest f (x ++ (b ∷ q))) (read_rest f (x ++ (b ∷ z)))
    rest_twin zero x = failed x
    rest_twin (suc f) x =
        twin_bind (read_more (λ s. read_value f s) (λ s. read_rest f s)) (tail_twin x) (more_bound f (λ y. value_twin f y) (λ y. rest_twin f y)) (more_twin f (λ y. value_twin f y) (λ y. rest_twin f y))

  value_of_twin : (x : List ℕ) → Twin (value_of (x ++ (b ∷ q))) (value_of (x ++ (b ∷ z)))
  unfolding value_of
  value_of_twin x =
      rw (
        value_fuel (suc (length (x ++ (b ∷ q)))) (suc (length (x ++ (b ∷ q)) + length (x ++ (b ∷ z)))) (x ++ (b ∷ q)) (omega arith) (omega arith),
        value_fuel (suc (length (x ++ (b ∷ z)))) (suc (length (x ++ (b ∷ q)) + length (x ++ (b ∷ z)))) (x ++ (b ∷ z)) (omega arith) (omega arith),
      )
      (value_twin (suc (length (x ++ (b ∷ q)) + length (x ++ (b ∷ z)))) x)

  -- ---- items

  setting_bound : (r : List ℕ) → Bounded (length r) (read_setting r)
  setting_bound r =
      bound_bind (value_of r) _ (value_of_bound r)
      (λ v s. bound_bind (eat {A = Unit {0}} (61 ∷ []) tt s) _ (eat_bound (61 ∷ []) tt s) (λ _ u. bound_map (setting v) (value_of u) (value_of_bound u)))

  equals_bound : (v : Value) (s : List ℕ) → Bounded (length s) (bind (eat {A = Unit {0}} (61 ∷ []) tt s) (λ _ u. map_r (setting v) (value_of u)))
  equals_bound v s = bound_bind (eat {A = Unit {0}} (61 ∷ []) tt s) _ (eat_bound (61 ∷ []) tt s) (λ _ u. bound_map (setting v) (value_of u) (value_of_bound u))

  setting_twin : (x : List ℕ) → Twin (read_setting (x ++ (b ∷ q))) (read_setting (x ++ (b ∷ z)))
  setting_twin x =
      twin_bind (λ v s. bind (eat {A = Unit {0}} (61 ∷ []) tt s) (λ _ u. map_r (setting v) (value_of u))) (value_of_twin x) equals_bound
      (λ v y. twin_bind (λ _ u. map_r (setting v) (value_of u)) (eat_twin (61 ∷ []) tt y) (λ _ u. bound_map (setting v) (value_of u) (value_of_bound u)) (λ _ u. twin_map (setting v) (value_of_twin u)))

  comment_bound : (r : List ℕ) → Bounded (length r) (read_comment r)
  comment_bound r = bound_bind (got (take_while remark r) (drop_while remark r)) (λ bs s. eat (41 ∷ []) (comment bs) s) (while_bound remark r) (λ bs s. eat_bound (41 ∷ []) (comment bs) s)

  comment_twin : (x : List ℕ) → Twin (read_comment (x ++ (b ∷ q))) (read_comment (x ++ (b ∷ z)))
  comment_twin x = twin_bind (λ bs s. eat (41 ∷ []) (comment bs) s) (while_twin remark x) (λ bs s. eat_bound (41 ∷ []) (comment bs) s) (λ bs y. eat_twin (41 ∷ []) (comment bs) y)

  item_twin : (x : List ℕ) → Twin (read_item (x ++ (b ∷ q))) (read_item (x ++ (b ∷ z)))
  item_twin [] =
      twin_if (letter b) (beyond _ _ (bound_map (word b) (value_of q) (value_of_bound q)))
      (twin_if (eqb 35 b) (beyond _ _ (setting_bound q)) (twin_if (eqb 40 b) (beyond _ _ (comment_bound q)) (failed [])))
  item_twin (y ∷ x) = twin_if (letter y) (twin_map (word y) (value_of_twin x)) (twin_if (eqb 35 y) (setting_twin x) (twin_if (eqb 40 y) (comment_twin x) (failed (y ∷ x))))

  items_bound : (f : ℕ) (r : List ℕ) → Bounded (length r) (read_items f r)
  items_bound zero r = at_start r
  items_bound (suc f) [] = all_left [] []
  items_bound (suc f) (c ∷ r) = bound_bind (read_item (c ∷ r)) _ (bounded (c ∷ r) (item_stops (c ∷ r)) (item_good (c ∷ r))) (λ i s. bound_map (λ l. i ∷ l) (read_items f s) (items_bound f s))

  items_twin : (f : ℕ) (x : List ℕ) → Twin (read_items f (x ++ (b ∷ q))) (read_items f (x ++ (b ∷ z)))
  items_twin zero x = failed x
  items_twin (suc f) [] =
      twin_bind (λ i s. map_r (λ l. i ∷ l) (read_items f s)) (item_twin []) (λ i s. bound_map (λ l. i ∷ l) (read_items f s) (items_bound f s)) (λ i u. twin_map (λ l. i ∷ l) (items_twin f u))
  items_twin (suc f) (y ∷ x) =
      twin_bind (λ i s. map_r (λ l. i ∷ l) (read_items f s)) (item_twin (y ∷ x)) (λ i s. bound_map (λ l. i ∷ l) (read_items f s) (items_bound f s)) (λ i u. twin_map (λ l. i ∷ l) (items_twin f u))

  items_of_twin : (x : List ℕ) → Twin (items_of (x ++ (b ∷ q))) (items_of (x ++ (b ∷ z)))
  unfolding items_of
  items_of_twin x =
      rw (
        items_fuel (suc (length (x ++ (b ∷ q)))) (suc (length (x ++ (b ∷ q)) + length (x ++ (b ∷ z)))) (x ++ (b ∷ q)) (omega arith) (omega arith),
        items_fuel (suc (length (x ++ (b ∷ z)))) (suc (length (x ++ (b ∷ q)) + length (x ++ (b ∷ z)))) (x ++ (b ∷ z)) (omega arith) (omega arith),
      )
      (items_twin (suc (length (x ++ (b ∷ q)) + length (x ++ (b ∷ z)))) x)

  items_of_bound : (r : List ℕ) → Bounded (length r) (items_of r)
  items_of_bound r = bounded r (items_of_stops r) (items_of_good r)

  -- ---- the line's beginning, and the line

  -- N and its digits: where there are more than five, it stops at the sixth
  labelled_ends : (ds r : List ℕ) → Twin (labelled ds (r ++ (b ∷ q))) (labelled ds (r ++ (b ∷ z)))
  labelled_ends ds r = go (leb 1 (length ds)) (leb (length ds) 5) refl
    where
      sixth : (y : List ℕ) → 5 < length ds → drop 5 (ds ++ (r ++ y)) ≡ drop 5 (ds ++ r) ++ y
      sixth y h = ap (drop 5) (sym (append_assoc ds r y)) ∙ drop-append-le 5 (ds ++ r) y (omega (arith, length-append ds r))

      go : (c d : Bool) → leb (length ds) 5 ≡ d →
          Twin (cond c (cond d (got (label ds) (r ++ (b ∷ q))) (fail (drop 5 (ds ++ (r ++ (b ∷ q)))))) (fail (r ++ (b ∷ q))))
          (cond c (cond d (got (label ds) (r ++ (b ∷ z))) (fail (drop 5 (ds ++ (r ++ (b ∷ z)))))) (fail (r ++ (b ∷ z))))
      go true true h = passed (label ds) r
      go true false h = rw (sixth (b ∷ q) (leb-false (length ds) 5 h), sixth (b ∷ z) (leb-false (length ds) 5 h)) (failed (drop 5 (ds ++ r)))
      go false d h = failed r

  labelled_runs : (x dq rq dz rz : List ℕ) → x ++ (b ∷ q) ≡ dq ++ rq → x ++ (b ∷ z) ≡ dz ++ rz → length x < length dq → length x < length dz → Bounded (length q) (labelled dq rq) ⊎ Twin (labelled dq rq) (labelled dz rz)
  labelled_runs x dq rq dz rz e d g h = elim (dec_le 5 (length x)) [
    | yes k ↦ inr (rw (le-leb 1 (length dq) (omega arith), lt-leb (length dq) 5 (omega arith), le-leb 1 (length dz) (omega arith), lt-leb (length dz) 5 (omega arith), ← e, ← d, drop-append-le 5 x (b ∷ q) k, drop-append-le 5 x (b ∷ z) k) (failed (drop 5 x)))
    | no k ↦
        inl
        (let n = shorter (x ++ (b ∷ q)) dq rq e in
        let l = length-append x (b ∷ q) in
        let j : length x < 5 = lt_of_not-le k in
        bound_if (leb 1 (length dq)) (bound_if (leb (length dq) 5) (record { size = omega arith }) (record { size = omega (arith, length-drop 5 (dq ++ rq), length-append dq rq) })) (record { size = omega arith }))
  ]

  labelled_twin : (x : List ℕ) → Twin (labelled (take_while digit (x ++ (b ∷ q))) (drop_while digit (x ++ (b ∷ q)))) (labelled (take_while digit (x ++ (b ∷ z))) (drop_while digit (x ++ (b ∷ z))))
  labelled_twin x = go (while_run digit x) (while_good digit (x ++ (b ∷ q))) (while_good digit (x ++ (b ∷ z)))
    where
      go : {dq rq dz rz : List ℕ} → Run x dq rq dz rz → x ++ (b ∷ q) ≡ dq ++ rq → x ++ (b ∷ z) ≡ dz ++ rz → Twin (labelled dq rq) (labelled dz rz)
      go (ends ds r) e d = labelled_ends ds r
      go {dq} {rq} {dz} {rz} (runs g h) e d = ⊎_elim (λ k. beyond (labelled dq rq) (labelled dz rz) k) (λ k. k) (labelled_runs x dq rq dz rz e d g h)

  label_twin : (x : List ℕ) → Twin (read_label (x ++ (b ∷ q))) (read_label (x ++ (b ∷ z)))
  label_twin [] = twin_if (eqb 78 b) (beyond _ _ (labelled_bound q)) (passed unlabelled [])
  label_twin (y ∷ x) = twin_if (eqb 78 y) (labelled_twin x) (passed unlabelled (y ∷ x))

  rest_of_twin : (x : List ℕ) → Twin (rest_of (x ++ (b ∷ q))) (rest_of (x ++ (b ∷ z)))
  unfolding rest_of
  rest_of_twin x =
      rw (
        rest_fuel (suc (length (x ++ (b ∷ q)))) (suc (length (x ++ (b ∷ q)) + length (x ++ (b ∷ z)))) (x ++ (b ∷ q)) (omega arith) (omega arith),
        rest_fuel (suc (length (x ++ (b ∷ z)))) (suc (length (x ++ (b ∷ q)) + length (x ++ (b ∷ z)))) (x ++ (b ∷ z)) (omega arith) (omega arith),
      )
      (rest_twin (suc (length (x ++ (b ∷ q)) + length (x ++ (b ∷ z)))) x)

  expr_of_twin : (x : List ℕ) → Twin (expr_of (x ++ (b ∷ q))) (expr_of (x ++ (b ∷ z)))
  unfolding expr_of
  expr_of_twin x = twin_bind (λ v s. map_r (expr v) (rest_of s)) (value_of_twin x) (λ v s. bound_map (expr v) (rest_of s) (rest_of_bound s)) (λ v y. twin_map (expr v) (rest_of_twin y))

  condition_twin : (k : Stroke) (x : List ℕ) → Twin (read_condition k (x ++ (b ∷ q))) (read_condition k (x ++ (b ∷ z)))
  condition_twin k [] = twin_if (eqb 91 b) (beyond _ _ (bound_map (conditional k) (expr_of q) (expr_of_bound q))) (passed (plain k) [])
  condition_twin k (y ∷ x) = twin_if (eqb 91 y) (twin_map (conditional k) (expr_of_twin x)) (passed (plain k) (y ∷ x))

  mark_twin : (x : List ℕ) → Twin (read_mark (x ++ (b ∷ q))) (read_mark (x ++ (b ∷ z)))
  mark_twin [] = twin_if (eqb 47 b) (beyond _ _ (condition_bound slash q)) (twin_if (eqb 92 b) (beyond _ _ (condition_bound backslash q)) (passed unmarked []))
  mark_twin (y ∷ x) = twin_if (eqb 47 y) (condition_twin slash x) (twin_if (eqb 92 y) (condition_twin backslash x) (passed unmarked (y ∷ x)))

  after_label_bound : (m : Mark) (n : Label) (r : List ℕ) → Bounded (length r) (map_r (line m n) (items_of r))
  after_label_bound m n r = bound_map (line m n) (items_of r) (items_of_bound r)

  after_mark_bound : (m : Mark) (r : List ℕ) → Bounded (length r) (bind (read_label r) (λ n s. map_r (line m n) (items_of s)))
  after_mark_bound m r = bound_bind (read_label r) _ (bounded r (label_stops r) (label_good r)) (after_label_bound m)

  line_twin : (x : List ℕ) → Twin (read_line (x ++ (b ∷ q))) (read_line (x ++ (b ∷ z)))
  line_twin x =
      twin_bind (λ m r. bind (read_label r) (λ n s. map_r (line m n) (items_of s))) (mark_twin x) after_mark_bound
      (λ m y. twin_bind (λ n s. map_r (line m n) (items_of s)) (label_twin y) (after_label_bound m) (λ n u. twin_map (line m n) (items_of_twin u)))

  -- the line that stops at b stops there whatever follows
  nothing_before : (x : List ℕ) → x ++ (b ∷ q) ≡ b ∷ q → x ≡ []
  nothing_before [] e = refl
  nothing_before (y ∷ x) e = absurd (omega (arith, ap length e, length-append x (b ∷ q)))

  twin_stops : {A : Type 0} {m m' : Read A} → Twin m m' → m ≡ fail (b ∷ q) → m' ≡ fail (b ∷ z)
  twin_stops (beyond m m' g) e = absurd (omega (arith, g.size, ap (λ (x : Read _). length (left_over x)) e))
  twin_stops (failed x) e = let h : x ++ (b ∷ q) ≡ b ∷ q = cc in ap (λ (y : List ℕ). fail (y ++ (b ∷ z))) (nothing_before x h)
  twin_stops (passed a x) e = absurd (let w : ◌≡◌ {A = ℕ} 0 1 = cc in omega arith)

  pub line_local : (x : List ℕ) → read_line (x ++ (b ∷ q)) ≡ fail (b ∷ q) → read_line (x ++ (b ∷ z)) ≡ fail (b ∷ z)
  line_local x e = twin_stops (line_twin x) e
