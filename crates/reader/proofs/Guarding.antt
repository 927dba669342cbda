-- No line tells the arithmetic of the code, which answers for values out of range too, from that of the rules: every value that a tree comes to is
-- in range.
-- Assumes nothing.
use mathlib.Core.Path.{◌≡◌, refl, ap, ap₂, ◌∙◌}
use mathlib.Core.Bool.{Bool, true, false, cond}
use mathlib.Core.List.{List, [], ◌∷◌}
use lib.IntN.{ℤ}
use Rattle.grammar.specs.Grammar.{Value, number, parameter, applied, grouped, Expr, expr, Rest, done, more, Item, word, setting, comment, Mark, unmarked, plain, conditional, Line, line}
use Rattle.grammar.specs.Working.{Arithmetic, high, Pair, pair, Sum, push, terms, total, in_order, value, expression, pairs, step_of, after, entries, mark_step, line_entries}
use Rattle.rules.specs.Meaning.{Worked, Entry, arithmetic, word_of, setting_of, condition_of}
use Rattle.arithmetic.specs.Guarded.{work}
use Rattle.arithmetic.proofs.Kept.{Kept, number_kept, work_kept, apply_kept, lookup_kept, work_is, apply_is, lookup_is}
use Rattle.reader.specs.Pass.{guarded}

-- each right side is in range
abbrev AllKept : List (Pair Worked) → Type 0
AllKept [] = Unit {0}
AllKept (pair o b ∷ l) = Kept b × AllKept l

module _ (t : List ℤ) where
  abbrev G : Arithmetic Worked Entry
  G = guarded t

  abbrev A : Arithmetic Worked Entry
  A = arithmetic t

  -- ---- the terms and their sum

  terms_kept : (a : Worked) (l : List (Pair Worked)) → Kept a → AllKept l → Kept (terms G a l).first × AllKept (terms G a l).others
  terms_kept a [] k ks = (k, tt)
  terms_kept a (pair o b ∷ l) k ks = go (high o) (terms_kept (work o a b) l (work_kept o a b) ks.1) (terms_kept b l ks.0 ks.1)
    where
      go : (c : Bool) → Kept (terms G (work o a b) l).first × AllKept (terms G (work o a b) l).others → Kept (terms G b l).first × AllKept (terms G b l).others →
          Kept (cond c (terms G (work o a b) l) (push a o (terms G b l))).first × AllKept (cond c (terms G (work o a b) l) (push a o (terms G b l))).others
      go true x y = x
      go false x y = (k, y)

  terms_same : (a : Worked) (l : List (Pair Worked)) → Kept a → AllKept l → terms G a l ≡ terms A a l
  terms_same a [] k ks = refl
  terms_same a (pair o b ∷ l) k ks =
      ap₂ (λ (x y : Sum Worked). cond (high o) x (push a o y))
      (terms_same (work o a b) l (work_kept o a b) ks.1 ∙ ap (λ (x : Worked). terms A x l) (work_is t o a b k ks.0))
      (terms_same b l ks.0 ks.1)

  total_same : (a : Worked) (l : List (Pair Worked)) → Kept a → AllKept l → total G a l ≡ total A a l
  total_same a [] k ks = refl
  total_same a (pair o b ∷ l) k ks = total_same (work o a b) l (work_kept o a b) ks.1 ∙ ap (λ (x : Worked). total A x l) (work_is t o a b k ks.0)

  total_kept : (a : Worked) (l : List (Pair Worked)) → Kept a → Kept (total G a l)
  total_kept a [] k = k
  total_kept a (pair o b ∷ l) k = total_kept (work o a b) l (work_kept o a b)

  in_order_same : (a : Worked) (l : List (Pair Worked)) → Kept a → AllKept l → in_order G a l ≡ in_order A a l
  in_order_same a l k ks =
      let h = terms_kept a l k ks in
      total_same (terms G a l).first (terms G a l).others h.0 h.1 ∙ ap (λ (x : Sum Worked). total A x.first x.others) (terms_same a l k ks)

  in_order_kept : (a : Worked) (l : List (Pair Worked)) → Kept a → AllKept l → Kept (in_order G a l)
  in_order_kept a l k ks = total_kept (terms G a l).first (terms G a l).others (terms_kept a l k ks).0

  -- ---- values

  mutual
    value_kept : (v : Value) → Kept (value G v)
    value_kept (number n) = number_kept n
    value_kept (parameter v) = lookup_kept t (value G v)
    value_kept (applied f e) = apply_kept f (expression G e)
    value_kept (grouped e) = expression_kept e

    expression_kept : (e : Expr) → Kept (expression G e)
    expression_kept (expr v r) = in_order_kept (value G v) (pairs G r) (value_kept v) (pairs_kept r)

    pairs_kept : (r : Rest) → AllKept (pairs G r)
    pairs_kept done = tt
    pairs_kept (more o v r) = (value_kept v, pairs_kept r)

  mutual
    value_same : (v : Value) → value G v ≡ value A v
    value_same (number n) = refl
    value_same (parameter v) = lookup_is t (value G v) (value_kept v) ∙ ap A.lookup (value_same v)
    value_same (applied f e) = apply_is t f (expression G e) (expression_kept e) ∙ ap (A.apply f) (expression_same e)
    value_same (grouped e) = expression_same e

    expression_same : (e : Expr) → expression G e ≡ expression A e
    expression_same (expr v r) =
        in_order_same (value G v) (pairs G r) (value_kept v) (pairs_kept r) ∙ ap₂ (in_order A) (value_same v) (pairs_same r)

    pairs_same : (r : Rest) → pairs G r ≡ pairs A r
    pairs_same done = refl
    pairs_same (more o v r) = ap₂ (λ (x : Worked) (l : List (Pair Worked)). pair o x ∷ l) (value_same v) (pairs_same r)

  -- ---- items and lines

  step_same : (i : Item) → step_of G i ≡ step_of A i
  step_same (word b v) = ap (word_of b) (value_same v)
  step_same (setting v w) = ap₂ setting_of (value_same v) (value_same w)
  step_same (comment bs) = refl

  guarded_items : (is : List Item) → entries G is ≡ entries A is
  guarded_items [] = refl
  guarded_items (i ∷ is) = ap₂ after (step_same i) (guarded_items is)

  mark_same : (m : Mark) → mark_step G m ≡ mark_step A m
  mark_same unmarked = refl
  mark_same (plain k) = refl
  mark_same (conditional k e) = ap (condition_of k) (expression_same e)

  pub guarded_line : (l : Line) → line_entries G l ≡ line_entries A l
  guarded_line (line m n is) = ap₂ after (mark_same m) (guarded_items is)
