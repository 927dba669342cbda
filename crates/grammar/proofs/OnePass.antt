-- One pass over the bytes that works the values out as it reads, and comes to what the tree comes to.
use mathlib.Core.Path.{◌≡◌, refl, ap, ◌∙◌, sym}
use mathlib.Core.Bool.{Bool, true, false, cond}
use mathlib.Core.List.{List, [], ◌∷◌}
use Prim.Native.Nat.{ℕ, zero, suc}
use lib.Dec.{eqb}
use lib.ListN.{length}
use Rattle.grammar.specs.Bytes.{byte, bytes}
use Rattle.grammar.specs.Grammar.{Value, expr, Rest, more, Item, setting, comment, letter, remark, Stroke, slash, backslash, Mark, line}
use Rattle.grammar.specs.Working.{Arithmetic, value, expression, pairs, Step, skip, Took, end, after, step_of, entries, mark_step, line_entries}
use Rattle.grammar.proofs.Read.{Read, fail, got, eat, bind, map_r, read_number, opens_number, read_head, read_tail}
use Rattle.grammar.proofs.Read.{Head, hash, bare, call, Tail, close, oper, read_expr, read_after, read_more, read_value, read_rest, value_of, rest_of, read_item, read_items, items_of, read_setting, take_while, drop_while, read_label, expr_of, read_condition, read_mark, read_line}
use Rattle.grammar.proofs.Terms.{Pass, one_pass}
use Rattle.grammar.specs.declared.Op.{Op}

module _ {X Y Z : Type 0} where
  map_map : (g : Y → Z) (h : X → Y) (m : Read X) → map_r g (map_r h m) ≡ map_r (λ x. g (h x)) m
  map_map g h (fail q) = refl
  map_map g h (got x r) = refl

  map_bind : (g : Y → Z) (m : Read X) (k : X → List ℕ → Read Y) (k' : X → List ℕ → Read Z) → ((x : X) (r : List ℕ) → k' x r ≡ map_r g (k x r)) → bind m k' ≡ map_r g (bind m k)
  map_bind g (fail q) k k' h = refl
  map_bind g (got x r) k k' h = h x r

module _ {W E S : Type 0} {A : Arithmetic W E} (P : Pass A S) where
  -- the pass over the bytes
  module _ (cv : List ℕ → Read W) (cr : S → List ℕ → Read W) where
    abbrev pub calc_expr : List ℕ → Read W
    calc_expr s = bind (cv s) (λ a q. cr (P.fresh a) q)

    abbrev pub calc_after : Head → List ℕ → Read W
    calc_after hash r = map_r A.lookup (cv r)
    calc_after bare r = map_r A.enclose (calc_expr r)
    calc_after (call g) r = map_r (A.apply g) (calc_expr r)

    abbrev pub calc_more : S → Tail → List ℕ → Read W
    calc_more st close r = got (P.closing st) r
    calc_more st (oper o) r = bind (cv r) (λ b q. cr (P.pushed st o b) q)

  abbrev mutual
    pub calc_value : ℕ → List ℕ → Read W
    calc_value zero s = fail s
    calc_value (suc f) s = cond (opens_number s) (map_r A.number_of (read_number s)) (bind (read_head s) (calc_after (λ q. calc_value f q) (λ st q. calc_rest f st q)))

    pub calc_rest : ℕ → S → List ℕ → Read W
    calc_rest zero st s = fail s
    calc_rest (suc f) st s = bind (read_tail s) (calc_more (λ q. calc_value f q) (λ st q. calc_rest f st q) st)

  -- it comes to what the tree comes to
  module _ {cv : List ℕ → Read W} {cr : S → List ℕ → Read W} (rv : List ℕ → Read Value) (rr : List ℕ → Read Rest)
      (hv : (s : List ℕ) → cv s ≡ map_r (value A) (rv s)) (hr : (st : S) (s : List ℕ) → cr st s ≡ map_r (λ q. one_pass P st (pairs A q)) (rr s)) where
    expr_end : (v : Value) (m : Read Rest) → map_r (λ q. one_pass P (P.fresh (value A v)) (pairs A q)) m ≡ map_r (expression A) (map_r (expr v) m)
    expr_end v (fail q) = refl
    expr_end v (got q r) = ap (λ x. got x r) (P.ordered (value A v) (pairs A q))

    expr_mid : (m : Read Value) → bind (map_r (value A) m) (λ a q. cr (P.fresh a) q) ≡ map_r (expression A) (bind m (λ v q. map_r (expr v) (rr q)))
    expr_mid (fail q) = refl
    expr_mid (got v q) = hr (P.fresh (value A v)) q ∙ expr_end v (rr q)

    expr_same : (s : List ℕ) → calc_expr cv cr s ≡ map_r (expression A) (read_expr rv rr s)
    expr_same s = rw (hv s) (expr_mid (rv s))

    after_same : (h : Head) (r : List ℕ) → calc_after cv cr h r ≡ map_r (value A) (read_after rv rr h r)
    after_same hash r = rw (hv r) (map_map _ _ (rv r) ∙ sym (map_map _ _ (rv r)))
    after_same bare r = rw (expr_same r) (map_map _ _ (read_expr rv rr r) ∙ sym (map_map _ _ (read_expr rv rr r)))
    after_same (call g) r = rw (expr_same r) (map_map _ _ (read_expr rv rr r) ∙ sym (map_map _ _ (read_expr rv rr r)))

    more_mid : (st : S) (o : Op) (m : Read Value) → bind (map_r (value A) m) (λ b q. cr (P.pushed st o b) q) ≡ map_r (λ q. one_pass P st (pairs A q)) (bind m (λ v q. map_r (more o v) (rr q)))
    more_mid st o (fail q) = refl
    more_mid st o (got v q) = hr (P.pushed st o (value A v)) q ∙ sym (map_map _ _ (rr q))

    more_same : (st : S) (t : Tail) (r : List ℕ) → calc_more cv cr st t r ≡ map_r (λ q. one_pass P st (pairs A q)) (read_more rv rr t r)
    more_same st close r = refl
    more_same st (oper o) r = rw (hv r) (more_mid st o (rv r))

  cond_map : {X Y : Type 0} (g : X → Y) (c : Bool) (m n : Read X) (m' n' : Read Y) → m' ≡ map_r g m → n' ≡ map_r g n → cond c m' n' ≡ map_r g (cond c m n)
  cond_map g true m n m' n' e h = e
  cond_map g false m n m' n' e h = h

  mutual
    pub value_same : (f : ℕ) (s : List ℕ) → calc_value f s ≡ map_r (value A) (read_value f s)
    value_same zero s = refl
    value_same (suc f) s =
        cond_map (value A) (opens_number s) _ _ _ _ (sym (map_map _ _ (read_number s)))
        (map_bind (value A) (read_head s) _ _ (after_same (λ q. read_value f q) (λ q. read_rest f q) (λ q. value_same f q) (λ st q. rest_same f st q)))

    pub rest_same : (f : ℕ) (st : S) (s : List ℕ) → calc_rest f st s ≡ map_r (λ q. one_pass P st (pairs A q)) (read_rest f s)
    rest_same zero st s = refl
    rest_same (suc f) st s = map_bind (λ q. one_pass P st (pairs A q)) (read_tail s) _ _ (more_same (λ q. read_value f q) (λ q. read_rest f q) (λ q. value_same f q) (λ st q. rest_same f st q) st)

  -- with as much fuel as the bytes need
  unfoldable pub calc_of : List ℕ → Read W
  calc_of s = calc_value (suc (length s)) s

  unfoldable pub calc_rest_of : S → List ℕ → Read W
  calc_rest_of st s = calc_rest (suc (length s)) st s

  pub calc_value_holds : (s : List ℕ) → calc_of s ≡ map_r (value A) (value_of s)
  unfolding calc_of value_of
  calc_value_holds s = value_same (suc (length s)) s

  -- the items
  abbrev pub calc_setting : List ℕ → Read (Step E)
  calc_setting s = bind (calc_of s) (λ a r. bind (eat {A = Unit {0}} (bytes "=") tt r) (λ _ q. map_r (A.setting_of a) (calc_of q)))

  abbrev pub calc_item : List ℕ → Read (Step E)
  calc_item [] = fail []
  calc_item (b ∷ s) =
      cond (letter b) (map_r (A.word_of b) (calc_of s)) (cond (eqb (byte "#") b) (calc_setting s) (cond (eqb (byte "(") b) (eat (bytes ")") skip (drop_while remark s)) (fail (b ∷ s))))

  abbrev pub calc_items : ℕ → List ℕ → Read (Took E)
  calc_items zero s = fail s
  calc_items (suc f) [] = got end []
  calc_items (suc f) (b ∷ s) = bind (calc_item (b ∷ s)) (λ i r. map_r (after i) (calc_items f r))

  unfoldable pub calc_items_of : List ℕ → Read (Took E)
  calc_items_of s = calc_items (suc (length s)) s

  pub eat_map : {X Y : Type 0} (g : X → Y) (x : List ℕ) (a : X) (s : List ℕ) → eat x (g a) s ≡ map_r g (eat x a s)
  eat_map g [] a s = refl
  eat_map g (x ∷ xs) a [] = refl
  eat_map g (x ∷ xs) a (y ∷ s) = go (eqb x y) (eat_map g xs a s)
    where
      go : (c : Bool) → eat xs (g a) s ≡ map_r g (eat xs a s) → cond c (eat xs (g a) s) (fail (y ∷ s)) ≡ map_r g (cond c (eat xs a s) (fail (y ∷ s)))
      go true h = h
      go false h = refl

  setting_same : (s : List ℕ) → calc_setting s ≡ map_r (step_of A) (read_setting s)
  setting_same s = rw (calc_value_holds s) (go (value_of s))
    where
      go : (m : Read Value) →
          bind (map_r (value A) m) (λ a r. bind (eat {A = Unit {0}} (bytes "=") tt r) (λ _ q. map_r (A.setting_of a) (calc_of q))) ≡
          map_r (step_of A) (bind m (λ v r. bind (eat {A = Unit {0}} (bytes "=") tt r) (λ _ q. map_r (setting v) (value_of q))))
      go (fail q) = refl
      go (got v r) = map_bind (step_of A) (eat (bytes "=") tt r) _ _ (λ _ q. rw (calc_value_holds q) (map_map _ _ (value_of q) ∙ sym (map_map _ _ (value_of q))))

  pub item_same : (s : List ℕ) → calc_item s ≡ map_r (step_of A) (read_item s)
  item_same [] = refl
  item_same (b ∷ s) =
      cond_map (step_of A) (letter b) _ _ _ _ (rw (calc_value_holds s) (map_map _ _ (value_of s) ∙ sym (map_map _ _ (value_of s))))
      (cond_map (step_of A) (eqb (byte "#") b) _ _ _ _ (setting_same s) (cond_map (step_of A) (eqb (byte "(") b) _ _ _ _ (eat_map (step_of A) (bytes ")") (comment (take_while remark s)) (drop_while remark s)) refl))

  pub items_same : (f : ℕ) (s : List ℕ) → calc_items f s ≡ map_r (entries A) (read_items f s)
  items_same zero s = refl
  items_same (suc f) [] = refl
  items_same (suc f) (b ∷ s) = rw (item_same (b ∷ s)) (go (read_item (b ∷ s)) (λ r. items_same f r))
    where
      go : (m : Read Item) → ((r : List ℕ) → calc_items f r ≡ map_r (entries A) (read_items f r)) →
          bind (map_r (step_of A) m) (λ i r. map_r (after i) (calc_items f r)) ≡ map_r (entries A) (bind m (λ i r. map_r (λ l. i ∷ l) (read_items f r)))
      go (fail q) h = refl
      go (got i r) h = rw (h r) (map_map _ _ (read_items f r) ∙ sym (map_map _ _ (read_items f r)))

  pub items_of_same : (s : List ℕ) → calc_items_of s ≡ map_r (entries A) (items_of s)
  unfolding calc_items_of items_of
  items_of_same s = items_same (suc (length s)) s

  -- the mark
  unfoldable pub calc_expr_of : List ℕ → Read W
  calc_expr_of s = calc_expr calc_of calc_rest_of s

  calc_rest_holds : (st : S) (s : List ℕ) → calc_rest_of st s ≡ map_r (λ q. one_pass P st (pairs A q)) (rest_of s)
  unfolding calc_rest_of rest_of
  calc_rest_holds st s = rest_same (suc (length s)) st s

  pub calc_expr_holds : (s : List ℕ) → calc_expr_of s ≡ map_r (expression A) (expr_of s)
  unfolding calc_expr_of expr_of
  calc_expr_holds s = expr_same value_of rest_of calc_value_holds calc_rest_holds s

  abbrev pub calc_condition : Stroke → List ℕ → Read (Step E)
  calc_condition k [] = got skip []
  calc_condition k (b ∷ s) = cond (eqb (byte "[") b) (map_r (A.condition_of k) (calc_expr_of s)) (got skip (b ∷ s))

  abbrev pub calc_mark : List ℕ → Read (Step E)
  calc_mark [] = got skip []
  calc_mark (b ∷ s) = cond (eqb (byte "/") b) (calc_condition slash s) (cond (eqb (byte "\\") b) (calc_condition backslash s) (got skip (b ∷ s)))

  condition_same : (k : Stroke) (s : List ℕ) → calc_condition k s ≡ map_r (mark_step A) (read_condition k s)
  condition_same k [] = refl
  condition_same k (b ∷ s) = cond_map (mark_step A) (eqb (byte "[") b) _ _ _ _ (rw (calc_expr_holds s) (map_map _ _ (expr_of s) ∙ sym (map_map _ _ (expr_of s)))) refl

  pub mark_same : (s : List ℕ) → calc_mark s ≡ map_r (mark_step A) (read_mark s)
  mark_same [] = refl
  mark_same (b ∷ s) =
      cond_map (mark_step A) (eqb (byte "/") b) _ _ _ _ (condition_same slash s) (cond_map (mark_step A) (eqb (byte "\\") b) _ _ _ _ (condition_same backslash s) refl)

  abbrev pub calc_line : List ℕ → Read (Took E)
  calc_line s = bind (calc_mark s) (λ st r. bind (read_label r) (λ n q. map_r (after st) (calc_items_of q)))

  pub line_same : (s : List ℕ) → calc_line s ≡ map_r (line_entries A) (read_line s)
  line_same s = rw (mark_same s) (go (read_mark s))
    where
      go : (m : Read Mark) →
          bind (map_r (mark_step A) m) (λ st r. bind (read_label r) (λ n q. map_r (after st) (calc_items_of q))) ≡ map_r (line_entries A) (bind m (λ k r. bind (read_label r) (λ n q. map_r (line k n) (items_of q))))
      go (fail q) = refl
      go (got k r) = map_bind (line_entries A) (read_label r) _ _ (λ n q. rw (items_of_same q) (map_map _ _ (items_of q) ∙ sym (map_map _ _ (items_of q))))
