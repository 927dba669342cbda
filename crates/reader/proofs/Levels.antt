-- Reading to a limit of nesting: one step of each of the functions that call each other, over trees.
-- Assumes nothing.
use mathlib.Core.Path.{◌≡◌, refl, sym, ap, ap₂, ◌∙◌}
use mathlib.Core.Bool.{Bool, true, false, cond}
use mathlib.Core.List.{List}
use Prim.Native.Nat.{ℕ, suc, ◌+◌, ◌-◌, ◌≤◌, ◌<◌, max}
use Rattle.std.specs.Prelude.{Result, Ok, Err}
use native.Mathlib.Omega.{arith}
use native.Mathlib.Numerals.{add-one}
use borrow.Author.Tests.{ltb-true, ltb-false, lt-ltb, le-ltb}
use lib.Dec.{ltb}
use lib.IntN.{ℤ}
use lib.ListN.{length, drop}
use Rattle.grammar.specs.Grammar.{Value, number, parameter, applied, grouped, Expr, expr, Rest, more, Number}
use Rattle.grammar.specs.Work.{value_work, expr_work, rest_work, value_depth, expr_depth, rest_depth}
use Rattle.grammar.specs.Working.{value, expression, pairs}
use Rattle.grammar.proofs.Read.{opens_number, Head, hash, bare, call}
use Rattle.grammar.proofs.Bare.{value_work_holds}
use Rattle.grammar.proofs.Place.{Placed, wrong, found, bind_p, map_p, number_p, head_p, tail_p}
use Rattle.grammar.proofs.Trees.{value_t, rest_t, expr_t, after_t, value_tree, rest_tree, value_ends, value_right}
use Rattle.grammar.specs.declared.Op.{Op}
use Rattle.grammar.specs.declared.Func.{Func}
use Rattle.rules.specs.Meaning.{Worked, number_of}
use Rattle.arithmetic.specs.Guarded.{apply, lookup}
use Rattle.reader.specs.Pass.{pass, guarded, begun, pushed, settled}
use Rattle.reader.specs.Places.{valued, opening, following, spelt_to}
use Rattle.reader.specs.Levels.{came, held, of_value, of_expression, of_rest, of_number, deepened, entry_of, function_of, enclosed, Counted}
use Rattle.reader.specs.declared.terms.State.{State}
use Rattle.reader.specs.declared.values.Came.{Came}
use Rattle.reader.specs.declared.values.NoValue.{NoValue}
use Rattle.reader.specs.declared.values.NoValue.TheVariants.{Deep, Wrong}
use Rattle.reader.specs.declared.spelling.Opening.TheVariants.{Parameter, Bracket, Function}
use Rattle.reader.specs.declared.spelling.Following.TheVariants.{Close, Operator}
use Rattle.reader.proofs.Clash.{clash}
use Rattle.reader.proofs.Evaluating.{ok_one, with_place, parameter_is, bracket_is, function_is, no_opening_is, close_is, operator_is, no_following_is}

-- ---- the limit

same_test : (a b c d : ℕ) → (a < b → c < d) → (c < d → a < b) → ltb a b ≡ ltb c d
same_test a b c d f g = go (ltb c d) refl
  where
    go : (x : Bool) → ltb c d ≡ x → ltb a b ≡ x
    go true e = lt-ltb a b (g (ltb-true c d e))
    go false e = le-ltb a b (let h = ltb-false c d e in below h)
      where
        below : d ≤ c → b ≤ a
        below h = other (ltb a b) refl
          where
            other : (x : Bool) → ltb a b ≡ x → b ≤ a
            other true z = absurd (let k = f (ltb-true a b z) in omega arith)
            other false z = ltb-false a b z

deeper : (k m : ℕ) → (k ≡ 0 → ⊥) → ltb k (suc m) ≡ ltb (k - 1) m
deeper k m n = same_test k (suc m) (k - 1) m (λ h. omega arith) (λ h. omega arith)

pub wide_fits : (k m n : ℕ) → ltb k m ≡ false → ltb k (max m n) ≡ ltb k n
wide_fits k m n h = let z = ltb-false k m h in same_test k (max m n) k n (λ g. omega arith) (λ g. omega arith)

pub wide_over : (k m n : ℕ) → ltb k m ≡ true → ltb k (max m n) ≡ true
wide_over k m n h = lt-ltb k (max m n) (omega (arith, ltb-true k m h))

pub over_wide : (k m n : ℕ) → ltb k n ≡ true → ltb k (max m n) ≡ true
over_wide k m n h = lt-ltb k (max m n) (omega (arith, ltb-true k n h))

-- from the answer back to the tree
pub record Fits (t : List ℤ) (k : ℕ) (m : Placed Value) (a : Worked) (w p : ℕ) : Type 0 where
  pub tree : Value
  pub is : m ≡ found tree p
  pub fits : ltb k (value_depth tree) ≡ false
  pub comes : a ≡ value (guarded t) tree
  pub works : w ≡ value_work tree

pub record Over (k : ℕ) (m : Placed Value) (p : ℕ) : Type 0 where
  pub tree : Value
  pub is : m ≡ found tree p
  pub over : ltb k (value_depth tree) ≡ true

pub fits_is : (t : List ℤ) (k : ℕ) (m : Placed Value) {a : Worked} {w p : ℕ} → Ok (came a w p) ≡ of_value t k m → Fits t k m a w p
fits_is t k (wrong q) e = clash (cc)
fits_is t k (found v q) {a} {w} {p} e = go (ltb k (value_depth v)) refl e
  where
    go : (c : Bool) → ltb k (value_depth v) ≡ c → Ok (came a w p) ≡ cond c (Err (Deep q)) (Ok (came (value (guarded t) v) (value_work v) q)) → Fits t k (found v q) a w p
    go true f h = clash (cc)
    go false f h =
        let z = ok_one h in
        record { tree = v; is = ap (found v) (sym (ap (λ (x : Came). x.next) z)); fits = f; comes = ap (λ (x : Came). x.worked) z; works = ap (λ (x : Came). x.work) z }

pub over_is : (t : List ℤ) (k : ℕ) (m : Placed Value) {p : ℕ} → Err (Deep p) ≡ of_value t k m → Over k m p
over_is t k (wrong q) e = clash (cc)
over_is t k (found v q) {p} e = go (ltb k (value_depth v)) refl e
  where
    go : (c : Bool) → ltb k (value_depth v) ≡ c → Err (Deep p) ≡ cond c (Err (Deep q)) (Ok (came (value (guarded t) v) (value_work v) q)) → Over k (found v q) p
    go true f h = let j : q ≡ p = cc in record { tree = v; is = ap (found v) j; over = f }
    go false f h = clash (cc)

pub wrong_is : (t : List ℤ) (k : ℕ) (m : Placed Value) {p : ℕ} → Err (Wrong p) ≡ of_value t k m → m ≡ wrong p
wrong_is t k (wrong q) {p} e = let j : q ≡ p = cc in rw j
wrong_is t k (found v q) {p} e = go (ltb k (value_depth v)) e
  where
    go : (c : Bool) → Err (Wrong p) ≡ cond c (Err (Deep q)) (Ok (came (value (guarded t) v) (value_work v) q)) → found v q ≡ wrong p
    go true h = clash (cc)
    go false h = clash (cc)

-- ---- one step, in the code's answers
module _ (t : List ℤ) (s : List ℕ) (at k : ℕ) where
  -- a value
  number_is : (m : Placed Number) → of_number (valued (map_p number_of m)) ≡ of_value t k (map_p number m)
  number_is (wrong p) = refl
  number_is (found n p) = rw (le-ltb k 0 (omega arith))

  pub value_number : {x : Result (Worked × ℕ) ℕ} {r : Result Came NoValue} → opens_number (drop at s) ≡ true → x ≡ valued (map_p number_of (number_p s at)) → r ≡ of_number x → r ≡ of_value t k (value_t s at)
  value_number o e d = d ∙ ap of_number e ∙ rw (value_tree s at, o) (number_is (number_p s at))

  module _ (o : opens_number (drop at s) ≡ false) where
    past : value_t s at ≡ bind_p (head_p s at) (after_t s)
    past = value_tree s at ∙ rw o

    all_deep : {X : Type 0} (f : X → Value) → ((x : X) → value_depth (f x) ≡ suc (value_depth (f x) - 1)) → k ≡ 0 → (m : Placed X) → Err (deepened (spelt_to (map_p f m))) ≡ of_value t k (map_p f m)
    all_deep f h z (wrong p) = refl
    all_deep f h z (found x p) = rw (lt-ltb k (value_depth (f x)) (omega (arith, h x)))

    none_left : k ≡ 0 → (m : Placed Head) → Err (deepened (spelt_to (bind_p m (after_t s)))) ≡ of_value t k (bind_p m (after_t s))
    none_left z (wrong p) = refl
    none_left z (found hash p) = all_deep parameter (λ x. omega arith) z (value_t s p)
    none_left z (found bare p) = all_deep grouped (λ x. omega arith) z (expr_t s p)
    none_left z (found (call g) p) = all_deep (applied g) (λ x. omega arith) z (expr_t s p)

    pub value_deep : {x : Result ℕ ℕ} {r : NoValue} → k ≡ 0 → x ≡ spelt_to (value_t s at) → r ≡ deepened x → Err r ≡ of_value t k (value_t s at)
    value_deep z e d = ap Err (d ∙ ap deepened e) ∙ rw past (none_left z (head_p s at))

    pub value_none : {p : ℕ} → Err p ≡ opening (head_p s at) → Err (Wrong p) ≡ of_value t k (value_t s at)
    value_none h = rw (past, no_opening_is (head_p s at) h)

    module _ (n : k ≡ 0 → ⊥) where
      -- what is made of a value, one level further in
      one_in : (f : Result Came NoValue → Result Came NoValue) (g : Worked → Worked) → ((a : Worked) (w p : ℕ) → f (Ok (came a w p)) ≡ Ok (came (g a) (w + 1) p)) → ((p : ℕ) → f (Err (Deep p)) ≡ Err (Deep p)) →
          (m w p : ℕ) (a : Worked) → f (held (k - 1) m a w p) ≡ held k (suc m) (g a) (suc w) p
      one_in f g h d m w p a = rw (deeper k m n) (go (ltb (k - 1) m))
        where
          go : (c : Bool) → f (cond c (Err (Deep p)) (Ok (came a w p))) ≡ cond c (Err (Deep p)) (Ok (came (g a) (suc w) p))
          go true = d p
          go false = h a w p ∙ ap (λ (x : ℕ). Ok (came (g a) x p)) (add-one w)

      entry_is : (m : Placed Value) → entry_of t (of_value t (k - 1) m) ≡ of_value t k (map_p parameter m)
      entry_is (wrong p) = refl
      entry_is (found v p) = one_in (entry_of t) (lookup t) (λ a w q. refl) (λ q. refl) (value_depth v) (value_work v) p (value (guarded t) v)

      pub value_parameter : {p : ℕ} {x r : Result Came NoValue} → with_place Parameter p ≡ opening (head_p s at) → x ≡ of_value t (k - 1) (value_t s p) → r ≡ entry_of t x → r ≡ of_value t k (value_t s at)
      value_parameter {p} h e d = rw (past, parameter_is (head_p s at) h) (d ∙ ap (entry_of t) e ∙ entry_is (value_t s p))

      bracket_in : (m : Placed Expr) → enclosed (of_expression t (k - 1) m) ≡ of_value t k (map_p grouped m)
      bracket_in (wrong p) = refl
      bracket_in (found e p) = one_in enclosed (λ a. a) (λ a w q. refl) (λ q. refl) (expr_depth e) (expr_work e) p (expression (guarded t) e)

      pub value_bracket : {p : ℕ} {x r : Result Came NoValue} → with_place Bracket p ≡ opening (head_p s at) → x ≡ of_expression t (k - 1) (expr_t s p) → r ≡ enclosed x → r ≡ of_value t k (value_t s at)
      value_bracket {p} h e d = rw (past, bracket_is (head_p s at) h) (d ∙ ap enclosed e ∙ bracket_in (expr_t s p))

      function_in : (g : Func) (m : Placed Expr) → function_of g (of_expression t (k - 1) m) ≡ of_value t k (map_p (applied g) m)
      function_in g (wrong p) = refl
      function_in g (found e p) = one_in (function_of g) (apply g) (λ a w q. refl) (λ q. refl) (expr_depth e) (expr_work e) p (expression (guarded t) e)

      pub value_function : {g : Func} {p : ℕ} {x r : Result Came NoValue} → with_place (Function g) p ≡ opening (head_p s at) → x ≡ of_expression t (k - 1) (expr_t s p) → r ≡ function_of g x → r ≡ of_value t k (value_t s at)
      value_function {g} {p} h e d = rw (past, function_is (head_p s at) h) (d ∙ ap (function_of g) e ∙ function_in g (expr_t s p))

    -- the work within a value can be counted one further, since the value's bytes can
    counted_in : at ≤ length s → length s < 9223372036854775808 → (j d w : ℕ) (a : Worked) (v : Value) (p : ℕ) → value_work v ≡ suc w → value_t s at ≡ found v p → Counted (held j d a w p)
    counted_in l b j d w a v p h e = go (ltb j d) (omega (arith, h, value_ends s at v p l e, value_work_holds v (value_right s at v p e)))
      where
        go : (c : Bool) → w < 9223372036854775807 → Counted (cond c (Err (Deep p)) (Ok (came a w p)))
        go true z = tt
        go false z = z

    module _ (l : at ≤ length s) (b : length s < 9223372036854775808) (j : ℕ) where
      by_value : (m : Placed Value) → value_t s at ≡ map_p parameter m → Counted (of_value t j m)
      by_value (wrong p) e = tt
      by_value (found v p) e = counted_in l b j (value_depth v) (value_work v) (value (guarded t) v) (parameter v) p refl e

      by_expression : (f : Expr → Value) → ((x : Expr) → value_work (f x) ≡ suc (expr_work x)) → (m : Placed Expr) → value_t s at ≡ map_p f m → Counted (of_expression t j m)
      by_expression f h (wrong p) e = tt
      by_expression f h (found x p) e = counted_in l b j (expr_depth x) (expr_work x) (expression (guarded t) x) (f x) p (h x) e

      pub parameter_counted : {p : ℕ} {x : Result Came NoValue} → with_place Parameter p ≡ opening (head_p s at) → x ≡ of_value t j (value_t s p) → Counted x
      parameter_counted {p} h e = rw e (by_value (value_t s p) (past ∙ rw (parameter_is (head_p s at) h)))

      pub bracket_counted : {p : ℕ} {x : Result Came NoValue} → with_place Bracket p ≡ opening (head_p s at) → x ≡ of_expression t j (expr_t s p) → Counted x
      bracket_counted {p} h e = rw e (by_expression grouped (λ x. refl) (expr_t s p) (past ∙ rw (bracket_is (head_p s at) h)))

      pub function_counted : {g : Func} {p : ℕ} {x : Result Came NoValue} → with_place (Function g) p ≡ opening (head_p s at) → x ≡ of_expression t j (expr_t s p) → Counted x
      function_counted {g} {p} h e = rw e (by_expression (applied g) (λ x. refl) (expr_t s p) (past ∙ rw (function_is (head_p s at) h)))

  -- an expression
  first_fits : (v : Value) (m : Placed Rest) → ltb k (value_depth v) ≡ false → of_rest t k (begun (value (guarded t) v)) (value_work v) m ≡ of_expression t k (map_p (expr v) m)
  first_fits v (wrong p) h = refl
  first_fits v (found q p) h = rw (wide_fits k (value_depth v) (rest_depth q) h, (pass t).ordered (value (guarded t) v) (pairs (guarded t) q))

  pub expression_rest : {a : Worked} {w p : ℕ} {r : Result Came NoValue} → Ok (came a w p) ≡ of_value t k (value_t s at) → r ≡ of_rest t k (begun a) w (rest_t s p) → r ≡ of_expression t k (expr_t s at)
  expression_rest {a} {w} {p} h e =
      let f = fits_is t k (value_t s at) h in
      rw f.is (e ∙ ap₂ (λ (x : Worked) (y : ℕ). of_rest t k (begun x) y (rest_t s p)) f.comes f.works ∙ first_fits f.tree (rest_t s p) f.fits)

  -- the rest of one
  module _ (st : State) (w : ℕ) where
    pub rest_close : {a : Worked} {p : ℕ} → with_place Close p ≡ following (tail_p s at) → a ≡ settled st.waiting st.term → Ok (came a w p) ≡ of_rest t k st w (rest_t s at)
    rest_close {a} {p} h e = rw (rest_tree s at, close_is (tail_p s at) h, le-ltb k 0 (omega arith)) (ap₂ (λ (x : Worked) (y : ℕ). Ok (came x y p)) e (omega arith))

    pub rest_none : {p : ℕ} → Err p ≡ following (tail_p s at) → Err (Wrong p) ≡ of_rest t k st w (rest_t s at)
    rest_none h = rw (rest_tree s at, no_following_is (tail_p s at) h)

    next_fits : (o : Op) (v : Value) (m : Placed Rest) → ltb k (value_depth v) ≡ false → of_rest t k (pushed st o (value (guarded t) v)) (w + value_work v + 1) m ≡ of_rest t k st w (map_p (more o v) m)
    next_fits o v (wrong p) h = refl
    next_fits o v (found q p) h =
        let e : w + value_work v + 1 + rest_work q ≡ w + suc (value_work v + rest_work q) = omega arith in
        rw (wide_fits k (value_depth v) (rest_depth q) h, e)

    next_over : (o : Op) (v : Value) (m : Placed Rest) → ltb k (value_depth v) ≡ true → Err (deepened (spelt_to m)) ≡ of_rest t k st w (map_p (more o v) m)
    next_over o v (wrong p) h = refl
    next_over o v (found q p) h = rw (wide_over k (value_depth v) (rest_depth q) h)

    pub rest_more : {o : Op} {p : ℕ} {b : Worked} {y q : ℕ} {x : State} {r : Result Came NoValue} → with_place (Operator o) p ≡ following (tail_p s at) → Ok (came b y q) ≡ of_value t k (value_t s p) → x ≡ pushed st o b → r ≡ of_rest t k x (w + y + 1) (rest_t s q) → r ≡ of_rest t k st w (rest_t s at)
    rest_more {o} {p} {b} {y} {q} h v e d =
        let f = fits_is t k (value_t s p) v in
        rw (rest_tree s at, operator_is (tail_p s at) h, f.is)
        (d ∙ ap (λ (x : State). of_rest t k x (w + y + 1) (rest_t s q)) e ∙ ap₂ (λ (x : Worked) (z : ℕ). of_rest t k (pushed st o x) (w + z + 1) (rest_t s q)) f.comes f.works
        ∙ next_fits o f.tree (rest_t s q) f.fits)

    pub rest_deep : {o : Op} {p q : ℕ} {x : Result ℕ ℕ} {r : NoValue} → with_place (Operator o) p ≡ following (tail_p s at) → Err (Deep q) ≡ of_value t k (value_t s p) → x ≡ spelt_to (rest_t s q) → r ≡ deepened x → Err r ≡ of_rest t k st w (rest_t s at)
    rest_deep {o} {p} {q} h v e d =
        let f = over_is t k (value_t s p) v in
        rw (rest_tree s at, operator_is (tail_p s at) h, f.is) (ap Err (d ∙ ap deepened e) ∙ next_over o f.tree (rest_t s q) f.over)

    pub rest_wrong : {o : Op} {p q : ℕ} → with_place (Operator o) p ≡ following (tail_p s at) → Err (Wrong q) ≡ of_value t k (value_t s p) → Err (Wrong q) ≡ of_rest t k st w (rest_t s at)
    rest_wrong {o} {p} h v = rw (rest_tree s at, operator_is (tail_p s at) h, wrong_is t k (value_t s p) v)

  -- where they end, and that their work is no more than their bytes
  pub fits_end : {a : Worked} {w p : ℕ} → at ≤ length s → Ok (came a w p) ≡ of_value t k (value_t s at) → (at + w ≤ p) × (p ≤ length s)
  fits_end {a} {w} {p} l e =
      let f = fits_is t k (value_t s at) e in
      let z = value_ends s at f.tree p l f.is in
      (omega (arith, z, f.works, value_work_holds f.tree (value_right s at f.tree p f.is)), z.1)

  pub over_end : {p : ℕ} → at ≤ length s → Err (Deep p) ≡ of_value t k (value_t s at) → (at ≤ p) × (p ≤ length s)
  over_end {p} l e = let f = over_is t k (value_t s at) e in omega (arith, value_ends s at f.tree p l f.is)
