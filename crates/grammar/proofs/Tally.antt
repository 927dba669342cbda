-- Work and depth told in the same pass as the values: any arithmetic, and one that tells for each value its work and its depth besides, come to what the
-- derivation says. A reader that counts as it reads is proved by these.
-- Assumes nothing.
use mathlib.Core.Path.{◌≡◌, refl, ap, ap₂, ◌∙◌, sym}
use mathlib.Core.Bool.{Bool, true, false, cond}
use mathlib.Core.List.{List, [], ◌∷◌}
use Prim.Native.Nat.{ℕ, suc, ◌+◌, max}
use native.Mathlib.Omega.{arith}
use Rattle.grammar.specs.Grammar.{Value, number, parameter, applied, grouped, Expr, expr, Rest, done, more, Item, word, setting, comment, unmarked, plain, conditional, Line, line}
use Rattle.grammar.specs.Work.{value_work, expr_work, rest_work, items_work, value_depth, expr_depth, rest_depth, items_depth}
use Rattle.grammar.specs.Working.{Arithmetic, Step, give, Took, end, stopped, took, Contents, high, Pair, pair, Sum, push, after, terms, total, in_order, value, expression, pairs, entries, line_entries, contents}
use Rattle.grammar.specs.declared.Op.{Op}
use Rattle.grammar.proofs.Terms.{onward, Pass, one_pass}

-- something with its work and its depth
pub record Tallied (X : Type 0) : Type 0 where
  pub is : X
  pub work : ℕ
  pub depth : ℕ

-- the arithmetic A, with tallies. No item stops the reading: its number is told as what the item is
abbrev pub tallied : {W E : Type 0} → Arithmetic W E → Arithmetic (Tallied W) (Tallied (Step E))
tallied A = record {
  number_of = λ n. record { is = A.number_of n; work = 1; depth = 0 };
  lookup = λ w. record { is = A.lookup w.is; work = suc w.work; depth = suc w.depth };
  apply = λ f w. record { is = A.apply f w.is; work = suc w.work; depth = suc w.depth };
  enclose = λ w. record { is = A.enclose w.is; work = suc w.work; depth = suc w.depth };
  work = λ o v w. record { is = A.work o v.is w.is; work = suc (v.work + w.work); depth = max v.depth w.depth };
  word_of = λ b w. give (record { is = A.word_of b w.is; work = w.work; depth = w.depth });
  setting_of = λ v w. give (record { is = A.setting_of v.is w.is; work = v.work + w.work; depth = max v.depth w.depth });
  condition_of = λ k w. give (record { is = A.condition_of k w.is; work = w.work; depth = suc w.depth });
}

module _ {W E : Type 0} (A : Arithmetic W E) where
  -- the operators and right sides with no tally
  abbrev bare_of : List (Pair (Tallied W)) → List (Pair W)
  bare_of [] = []
  bare_of (pair o w ∷ l) = pair o w.is ∷ bare_of l

  abbrev weigh : List (Pair (Tallied W)) → ℕ
  weigh [] = 0
  weigh (pair o w ∷ l) = suc (w.work + weigh l)

  abbrev reach : List (Pair (Tallied W)) → ℕ
  reach [] = 0
  reach (pair o w ∷ l) = max w.depth (reach l)

  -- the terms joined, and the terms
  total_is : (a : Tallied W) (l : List (Pair (Tallied W))) →
      ((total (tallied A) a l).is ≡ total A a.is (bare_of l)) × ((total (tallied A) a l).work ≡ a.work + weigh l) × ((total (tallied A) a l).depth ≡ max a.depth (reach l))
  total_is a [] = (refl, omega arith, omega arith)
  total_is a (pair o w ∷ l) =
      let h = total_is ((tallied A).work o a w) l in
      (h.0, omega (arith, h.1), omega (arith, h.2))

  record Terms (a : Tallied W) (l : List (Pair (Tallied W))) (s : Sum (Tallied W)) : Type 0 where
    first : s.first.is ≡ (terms A a.is (bare_of l)).first
    others : bare_of s.others ≡ (terms A a.is (bare_of l)).others
    work : s.first.work + weigh s.others ≡ a.work + weigh l
    depth : max s.first.depth (reach s.others) ≡ max a.depth (reach l)

  terms_are : (a : Tallied W) (l : List (Pair (Tallied W))) → Terms a l (terms (tallied A) a l)
  terms_are a [] = record { first = refl; others = refl; work = refl; depth = refl }
  terms_are a (pair o w ∷ l) = go (high o) refl (terms_are ((tallied A).work o a w) l) (terms_are w l)
    where
      go : (c : Bool) → high o ≡ c → Terms ((tallied A).work o a w) l (terms (tallied A) ((tallied A).work o a w) l) → Terms w l (terms (tallied A) w l) →
          Terms a (pair o w ∷ l) (cond c (terms (tallied A) ((tallied A).work o a w) l) (push a o (terms (tallied A) w l)))
      go true e h k = record { first = rw e h.first; others = rw e h.others; work = omega (arith, h.work); depth = omega (arith, h.depth) }
      go false e h k = record { first = rw e; others = rw e (ap₂ (λ x y. pair o x ∷ y) k.first k.others); work = omega (arith, k.work); depth = omega (arith, k.depth) }

  order_is : (a : Tallied W) (l : List (Pair (Tallied W))) →
      ((in_order (tallied A) a l).is ≡ in_order A a.is (bare_of l)) × ((in_order (tallied A) a l).work ≡ a.work + weigh l) × ((in_order (tallied A) a l).depth ≡ max a.depth (reach l))
  order_is a l =
      let t = terms_are a l in
      let h = total_is (terms (tallied A) a l).first (terms (tallied A) a l).others in
      (h.0 ∙ ap₂ (total A) t.first t.others, omega (arith, h.1, t.work), omega (arith, h.2, t.depth))

  same : {X : Type 0} {x y : Tallied X} → x.is ≡ y.is → x.work ≡ y.work → x.depth ≡ y.depth → x ≡ y
  same p q r = λ i. record { is = p i; work = q i; depth = r i }

  mutual
    -- a value's tally is its derivation's
    pub value_tallied : (v : Value) → value (tallied A) v ≡ record { is = value A v; work = value_work v; depth = value_depth v }
    value_tallied (number n) = refl
    value_tallied (parameter v) = ap (tallied A).lookup (value_tallied v)
    value_tallied (applied f e) = ap ((tallied A).apply f) (expr_tallied e)
    value_tallied (grouped e) = ap (tallied A).enclose (expr_tallied e)

    -- and so is an expression's, within its brackets
    pub expr_tallied : (e : Expr) → expression (tallied A) e ≡ record { is = expression A e; work = expr_work e; depth = expr_depth e }
    expr_tallied (expr v r) =
        let h = order_is (value (tallied A) v) (pairs (tallied A) r) in
        let k = value_tallied v in
        let p = pairs_tallied r in
        same (h.0 ∙ ap₂ (in_order A) (ap (λ (x : Tallied W). x.is) k) p.0)
        (h.1 ∙ ap₂ (λ x y. x + y) (ap (λ (x : Tallied W). x.work) k) p.1)
        (h.2 ∙ ap₂ max (ap (λ (x : Tallied W). x.depth) k) p.2)

    pairs_tallied : (r : Rest) → (bare_of (pairs (tallied A) r) ≡ pairs A r) × (weigh (pairs (tallied A) r) ≡ rest_work r) × (reach (pairs (tallied A) r) ≡ rest_depth r)
    pairs_tallied done = (refl, refl, refl)
    pairs_tallied (more o v r) =
        let k = value_tallied v in
        let p = pairs_tallied r in (
          ap₂ (λ (x : Tallied W) y. pair o x.is ∷ y) k p.0,
          ap₂ (λ (x : Tallied W) y. suc (x.work + y)) k p.1,
          ap₂ (λ (x : Tallied W) y. max x.depth y) k p.2,
        )

  -- what a whole line's tallied items come to
  abbrev pub gather : Took (Tallied (Step E)) → Contents E
  gather end = record { entries = end; work = 0; depth = 0 }
  gather (stopped n) = record { entries = stopped n; work = 0; depth = 0 }
  gather (took x t) = record { entries = after x.is (gather t).entries; work = x.work + (gather t).work; depth = max x.depth (gather t).depth }

  joined : Tallied (Step E) → Contents E → Contents E
  joined x c = record { entries = after x.is c.entries; work = x.work + c.work; depth = max x.depth c.depth }

  -- a comment, or a mark without a condition, adds nothing
  nothing_more : (is : List Item) → ◌≡◌ {A = Contents E} (record { entries = entries A is; work = items_work is; depth = items_depth is }) (record { entries = entries A is; work = 0 + items_work is; depth = max 0 (items_depth is) })
  nothing_more is = λ i. record { entries = entries A is; work = no_work i; depth = no_depth i }
    where
      no_work : items_work is ≡ 0 + items_work is
      no_work = omega arith

      no_depth : items_depth is ≡ max 0 (items_depth is)
      no_depth = omega arith

  items_gathered : (is : List Item) → gather (entries (tallied A) is) ≡ record { entries = entries A is; work = items_work is; depth = items_depth is }
  unfolding joined
  items_gathered [] = refl
  items_gathered (word b v ∷ is) = ap₂ joined (ap (λ (x : Tallied W). record { is = A.word_of b x.is; work = x.work; depth = x.depth }) (value_tallied v)) (items_gathered is)
  items_gathered (setting v w ∷ is) =
      ap₂ joined (ap₂ (λ (x y : Tallied W). record { is = A.setting_of x.is y.is; work = x.work + y.work; depth = max x.depth y.depth }) (value_tallied v) (value_tallied w)) (items_gathered is)
  items_gathered (comment bs ∷ is) = items_gathered is ∙ nothing_more is

  -- a line read with its tallies gives the contents of its derivation
  pub line_gathered : (t : Line) → gather (line_entries (tallied A) t) ≡ contents A t
  unfolding joined
  line_gathered (line (conditional k e) n is) = ap₂ joined (ap (λ (x : Tallied W). record { is = A.condition_of k x.is; work = x.work; depth = suc x.depth }) (expr_tallied e)) (items_gathered is)
  line_gathered (line (plain k) n is) = items_gathered is ∙ nothing_more is
  line_gathered (line unmarked n is) = items_gathered is ∙ nothing_more is

-- a state with the work and the depth of the expression so far
pub record Counted (S : Type 0) : Type 0 where
  pub state : S
  pub work : ℕ
  pub depth : ℕ

-- any pass, with one running count and one running depth beside its state, is a pass that tallies
module _ {W E S : Type 0} {A : Arithmetic W E} (P : Pass A S) where
  abbrev pub begin : Tallied W → Counted S
  begin w = record { state = P.fresh w.is; work = w.work; depth = w.depth }

  abbrev pub count : Counted S → Op → Tallied W → Counted S
  count st o w = record { state = P.pushed st.state o w.is; work = suc (st.work + w.work); depth = max st.depth w.depth }

  abbrev pub close : Counted S → Tallied W
  close st = record { is = P.closing st.state; work = st.work; depth = st.depth }

  counts : (st : Counted S) (l : List (Pair (Tallied W))) → onward count close st l ≡ record { is = one_pass P st.state (bare_of A l); work = st.work + weigh A l; depth = max st.depth (reach A l) }
  counts st [] = same A refl (omega arith) (omega arith)
  counts st (pair o w ∷ l) = counts (count st o w) l ∙ same A refl (omega arith) (omega arith)

  pub counts_in_order : (a : Tallied W) (l : List (Pair (Tallied W))) → onward count close (begin a) l ≡ in_order (tallied A) a l
  counts_in_order a l =
      let h = order_is A a l in
      counts (begin a) l ∙ same A (P.ordered a.is (bare_of A l) ∙ sym h.0) (sym h.1) (sym h.2)

  abbrev pub counted : Pass (tallied A) (Counted S)
  counted = record { fresh = begin; pushed = count; closing = close; ordered = counts_in_order }
