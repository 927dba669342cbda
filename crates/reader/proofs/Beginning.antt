-- The line's beginning: the mark and its condition, and N with its digits.
-- Assumes nothing.
use mathlib.Core.Path.{◌≡◌, refl, sym, ap, ap₂, ◌∙◌}
use mathlib.Core.Bool.{Bool, true, false, cond}
use mathlib.Core.List.{List, [], ◌∷◌, ◌++◌}
use Prim.Native.Nat.{ℕ, suc, ◌+◌, ◌-◌, ◌≤◌, ◌<◌}
use native.Mathlib.Omega.{arith}
use borrow.Author.Tests.{ne_eqb, le-leb, lt-leb}
use lib.Dec.{eqb, eqb→eq, ltb}
use lib.IntN.{ℤ}
use lib.ListN.{length, drop, get_or, length-drop, drop_of_length-le}
use lib.Seq.{drop-drop}
use Rattle.grammar.specs.Grammar.{digit, Label, grouped, Expr, Stroke, slash, backslash, Mark, unmarked, plain, conditional, Item, Line, line}
use Rattle.grammar.specs.Work.{expr_work, expr_depth, mark_work, mark_depth, items_depth}
use Rattle.grammar.specs.Working.{Step, skip, give, stop, expression, mark_step, entries}
use Rattle.grammar.proofs.Read.{take_while, labelled}
use Rattle.grammar.proofs.Sound.{while_good}
use Rattle.grammar.proofs.Bare.{mark_work_holds}
use Rattle.grammar.proofs.Place.{Placed, wrong, found, bind_p, map_p, place}
use Rattle.grammar.proofs.Trees.{value_t, expr_t, items_t, label_t, label_ends, mark_t, stroke_t, mark_tree, mark_ends, mark_right, bracket_tree, line_t, line_tree}
use Rattle.rules.specs.Meaning.{Worked, Entry, runs, condition_of, words, settings}
use Rattle.reader.specs.Pass.{guarded}
use Rattle.reader.specs.Places.{DigitsAt, spelt_to}
use Rattle.reader.specs.Levels.{came, of_value}
use Rattle.reader.specs.Marks.{stroke_of, after_stroke, first_of, goes_on, nests_deep, begun_by, begun_after, of_mark}
use Rattle.reader.specs.Reading.{Spaces, zeros, unread_of, Left, left}
use Rattle.reader.specs.Gather.{checked, left_from, left_stopped, left_deep, left_after, left_by_line}
use Rattle.reader.specs.declared.numbers.Digits.{Digits}
use Rattle.reader.specs.declared.values.Came.{Came}
use Rattle.reader.specs.declared.values.NoValue.TheVariants.{Deep, Wrong}
use Rattle.reader.specs.declared.answer.Unread.TheVariants.{Deep as TooDeep}
use Rattle.reader.specs.declared.mark.First.{First}
use Rattle.reader.specs.declared.mark.First.TheVariants.{Unmarked, Plain, Condition}
use Rattle.reader.specs.declared.mark.Begun.{Begun}
use Rattle.std.specs.Prelude.{Result, Ok, Err}
use Rattle.reader.proofs.Spellings.{back, first_of_holds}
use Rattle.reader.proofs.Numerals.{drop_digits, run_on}
use Rattle.reader.proofs.Evaluating.{ok_one, with_place, answer_one, place_one, ends_is, not_is}
use Rattle.reader.proofs.Levels.{wide_fits, wide_over}
use Rattle.reader.proofs.Gathering.{untidied}
use Rattle.reader.proofs.Clash.{clash}

module _ (s : List ℕ) (at : ℕ) (l : at ≤ length s) where
  pub label_past : length s ≤ at → Ok at ≡ spelt_to (label_t s at)
  unfolding label_t
  label_past h = rw (drop_of_length-le s h) (ap Ok (let e : at ≡ length s - 0 = omega arith in e))

  module _ (h : at < length s) where
    pub label_none : (get_or s at 0 ≡ 78 → ⊥) → Ok at ≡ spelt_to (label_t s at)
    unfolding label_t
    label_none n = rw (first_of_holds s at h, ne_eqb 78 (get_or s at 0) (λ e. n (sym e))) (ap Ok (let e : at ≡ length s - suc (length (drop (at + 1) s)) = simp length-drop (omega arith) in e))

    module _ (n : get_or s at 0 ≡ 78) {r : Digits} (q : DigitsAt s (at + 1) 0 r) where
      ds : List ℕ
      ds = take_while digit (drop (at + 1) s)

      after_n : label_t s at ≡ place s (labelled ds (drop r.next s))
      unfolding label_t ds
      after_n = rw (first_of_holds s at h, n, drop_digits s (at + 1), ← q.past)

      far : (at + 1 ≤ r.next) × (r.next ≤ length s)
      far = run_on s (at + 1) 0 (omega arith) q

      pub label_empty : r.next ≡ at + 1 → Err r.next ≡ spelt_to (label_t s at)
      unfolding ds
      label_empty e = rw (after_n, lt-leb 1 (length ds) (omega (arith, q.past))) (ap Err (sym (back s r.next far.1)))

      pub label_many : at + 6 < r.next → Err (at + 6) ≡ spelt_to (label_t s at)
      unfolding ds
      label_many e =
          let v : ds ++ drop r.next s ≡ drop (at + 1) s = ap (λ (k : ℕ). ds ++ drop k s) q.past ∙ ap (λ (x : List ℕ). ds ++ x) (sym (drop_digits s (at + 1))) ∙ sym (while_good digit (drop (at + 1) s)) in
          let u : at + 1 + 5 ≡ at + 6 = omega arith in
          let w : drop 5 (ds ++ drop r.next s) ≡ drop (at + 6) s = ap (drop 5) v ∙ drop-drop 5 (at + 1) s ∙ ap (λ (k : ℕ). drop k s) u in
          rw (after_n, le-leb 1 (length ds) (omega (arith, q.past)), lt-leb (length ds) 5 (omega (arith, q.past)), w) (ap Err (sym (back s (at + 6) (omega (arith, far)))))

      pub label_some : (r.next ≡ at + 1 → ⊥) → r.next ≤ at + 6 → Ok r.next ≡ spelt_to (label_t s at)
      unfolding ds
      label_some a b = rw (after_n, le-leb 1 (length ds) (omega (arith, q.past, far)), le-leb (length ds) 5 (omega (arith, q.past))) (ap Ok (sym (back s r.next far.1)))

-- a label ends no earlier than it begins, and inside the line
pub label_within : (s : List ℕ) (at : ℕ) {p : ℕ} → at ≤ length s → Ok p ≡ spelt_to (label_t s at) → (at ≤ p) × (p ≤ length s)
label_within s at {p} l e =
    let k = ends_is (label_t s at) e in
    let z = label_ends s at k.thing p l k.is in
    (omega (arith, z), z.1)

-- ---- the mark: its tree

-- a condition is the expression of a bracket that stands for a value
abbrev Firsts : List ℕ → First → Type 0
Firsts s Unmarked = mark_t s ≡ found unmarked 0
Firsts s Plain = (k : Stroke) × (mark_t s ≡ found (plain k) 1)
Firsts s (Condition c) = (1 < length s) × (value_t s 1 ≡ map_p grouped (expr_t s 2)) × (mark_t s ≡ map_p (conditional (stroke_of c)) (expr_t s 2))

stroke_first : (c : Bool) (b : ℕ) (s : List ℕ) → mark_t (b ∷ s) ≡ stroke_t (b ∷ s) (stroke_of c) → Firsts (b ∷ s) (after_stroke c s)
stroke_first c b [] e = (stroke_of c, e)
stroke_first c b (d ∷ s) e = go (eqb 91 d) refl e
  where
    go : (x : Bool) → eqb 91 d ≡ x → mark_t (b ∷ d ∷ s) ≡ cond x (map_p (conditional (stroke_of c)) (expr_t (b ∷ d ∷ s) 2)) (found (plain (stroke_of c)) 1) → Firsts (b ∷ d ∷ s) (cond x (Condition c) Plain)
    go true h f = (omega arith, bracket_tree (b ∷ d ∷ s) 1 (omega arith) (sym (eqb→eq 91 d (rw h tt))), f)
    go false h f = (stroke_of c, f)

none_first : Firsts [] Unmarked
unfolding mark_t
none_first = refl

all_first : (s : List ℕ) → Firsts s (first_of s)
all_first [] = none_first
all_first (b ∷ s) = go (eqb 47 b) (eqb 92 b) (mark_tree b s)
  where
    go : (x y : Bool) → mark_t (b ∷ s) ≡ cond x (stroke_t (b ∷ s) slash) (cond y (stroke_t (b ∷ s) backslash) (found unmarked 0)) → Firsts (b ∷ s) (cond x (after_stroke true s) (cond y (after_stroke false s) Unmarked))
    go true y e = stroke_first true b s e
    go false true e = stroke_first false b s e
    go false false e = e

firsts : (s : List ℕ) {r : First} → r ≡ first_of s → Firsts s r
firsts s e = rw e (all_first s)

-- ---- the mark: what it leaves

module _ (t : List ℤ) (k : Stroke) where
  condition_to : (m : Placed Expr) {a : Worked} {w p : ℕ} {b : Begun} → Ok (came a w p) ≡ of_value t 24 (map_p grouped m) → b ≡ begun_by (condition_of k a) (w - 1) → with_place b p ≡ of_mark t (map_p (conditional k) m)
  condition_to (wrong q) e d = clash (cc)
  condition_to (found x q) {a} {w} {p} {b} e d = go (ltb 24 (suc (expr_depth x))) e
    where
      go : (c : Bool) → Ok (came a w p) ≡ cond c (Err (Deep q)) (Ok (came (expression (guarded t) x) (suc (expr_work x)) q)) → with_place b p ≡ with_place (cond c nests_deep (begun_by (condition_of k (expression (guarded t) x)) (expr_work x))) q
      go true h = clash (cc)
      go false h =
          let u = ok_one h in
          let i : a ≡ expression (guarded t) x = ap (λ (y : Came). y.worked) u in
          let j : w ≡ suc (expr_work x) = ap (λ (y : Came). y.work) u in
          let o : p ≡ q = ap (λ (y : Came). y.next) u in
          ap₂ with_place (d ∙ ap₂ (λ (y : Worked) (z : ℕ). begun_by (condition_of k y) z) i (let g : w - 1 ≡ expr_work x = omega arith in g)) o

  condition_deep : (m : Placed Expr) {p : ℕ} {b : Begun} → Err (Deep p) ≡ of_value t 24 (map_p grouped m) → b ≡ nests_deep → with_place b p ≡ of_mark t (map_p (conditional k) m)
  condition_deep (wrong q) e d = clash (cc)
  condition_deep (found x q) {p} {b} e d = go (ltb 24 (suc (expr_depth x))) e
    where
      go : (c : Bool) → Err (Deep p) ≡ cond c (Err (Deep q)) (Ok (came (expression (guarded t) x) (suc (expr_work x)) q)) → with_place b p ≡ with_place (cond c nests_deep (begun_by (condition_of k (expression (guarded t) x)) (expr_work x))) q
      go true h = let o : p ≡ q = cc in ap₂ with_place d o
      go false h = clash (cc)

  condition_wrong : (m : Placed Expr) {p : ℕ} → Err (Wrong p) ≡ of_value t 24 (map_p grouped m) → Err p ≡ of_mark t (map_p (conditional k) m)
  condition_wrong (wrong q) {p} e = let o : p ≡ q = cc in ap Err o
  condition_wrong (found x q) {p} e = go (ltb 24 (suc (expr_depth x))) e
    where
      go : (c : Bool) → Err (Wrong p) ≡ cond c (Err (Deep q)) (Ok (came (expression (guarded t) x) (suc (expr_work x)) q)) → Err p ≡ of_mark t (found (conditional k x) q)
      go true h = clash (cc)
      go false h = clash (cc)

-- a bracket's work is its own and that of what it holds
works_some : (t : List ℤ) (m : Placed Expr) {a : Worked} {w p : ℕ} → Ok (came a w p) ≡ of_value t 24 (map_p grouped m) → 1 ≤ w
works_some t (wrong q) e = clash (cc)
works_some t (found x q) {a} {w} {p} e = go (ltb 24 (suc (expr_depth x))) e
  where
    go : (c : Bool) → Ok (came a w p) ≡ cond c (Err (Deep q)) (Ok (came (expression (guarded t) x) (suc (expr_work x)) q)) → 1 ≤ w
    go true h = clash (cc)
    go false h = let j : w ≡ suc (expr_work x) = ap (λ (y : Came). y.work) (ok_one h) in omega arith

form_same : (k : Stroke) (m : Placed Expr) → spelt_to (map_p grouped m) ≡ spelt_to (map_p (conditional k) m)
form_same k (wrong p) = refl
form_same k (found x p) = refl

module _ (t : List ℤ) (s : List ℕ) where
  pub mark_none : {b : Begun} → Unmarked ≡ first_of s → b ≡ goes_on 0 → with_place b 0 ≡ of_mark t (mark_t s)
  mark_none e d = rw (firsts s e) (ap (λ (x : Begun). with_place x 0) d)

  pub mark_plain : {b : Begun} → Plain ≡ first_of s → b ≡ goes_on 0 → with_place b 1 ≡ of_mark t (mark_t s)
  mark_plain e d = rw (firsts s e).1 (ap (λ (x : Begun). with_place x 1) d)

  module _ {c : Bool} (e : Condition c ≡ first_of s) where
    pub mark_work_some : {a : Worked} {w p : ℕ} → Ok (came a w p) ≡ of_value t 24 (value_t s 1) → 1 ≤ w
    mark_work_some h = works_some t (expr_t s 2) (rw (firsts s e).1 at h)

    pub mark_condition : {a : Worked} {w p : ℕ} {b : Begun} → Ok (came a w p) ≡ of_value t 24 (value_t s 1) → b ≡ begun_by (condition_of (stroke_of c) a) (w - 1) → with_place b p ≡ of_mark t (mark_t s)
    mark_condition h d = rw (firsts s e).2 (condition_to t (stroke_of c) (expr_t s 2) (rw (firsts s e).1 at h) d)

    pub mark_deep : {p : ℕ} {b : Begun} → Err (Deep p) ≡ of_value t 24 (value_t s 1) → b ≡ nests_deep → with_place b p ≡ of_mark t (mark_t s)
    mark_deep h d = rw (firsts s e).2 (condition_deep t (stroke_of c) (expr_t s 2) (rw (firsts s e).1 at h) d)

    pub mark_wrong : {p : ℕ} → Err (Wrong p) ≡ of_value t 24 (value_t s 1) → Err p ≡ of_mark t (mark_t s)
    mark_wrong h = rw (firsts s e).2 (condition_wrong t (stroke_of c) (expr_t s 2) (rw (firsts s e).1 at h))

-- its form alone
pub form_none : (s : List ℕ) → Unmarked ≡ first_of s → Ok 0 ≡ spelt_to (mark_t s)
form_none s e = rw (firsts s e)

pub form_plain : (s : List ℕ) → Plain ≡ first_of s → Ok 1 ≡ spelt_to (mark_t s)
form_plain s e = rw (firsts s e).1

pub form_condition : (s : List ℕ) {c : Bool} {r : Result ℕ ℕ} → Condition c ≡ first_of s → r ≡ spelt_to (value_t s 1) → r ≡ spelt_to (mark_t s)
form_condition s {c} e h = h ∙ rw ((firsts s e).1, (firsts s e).2) (form_same (stroke_of c) (expr_t s 2))

-- ---- from what the mark left to the line

-- the mark itself
pub record Bears (t : List ℤ) (m : Placed Mark) (b : Begun) (p : ℕ) : Type 0 where
  pub mark : Mark
  pub is : m ≡ found mark p
  pub leaves : b ≡ begun_after t mark

bears : (t : List ℤ) (m : Placed Mark) {b : Begun} {p : ℕ} → with_place b p ≡ of_mark t m → Bears t m b p
bears t (wrong q) e = clash (cc)
bears t (found x q) e = record { mark = x; is = ap (found x) (sym (place_one e)); leaves = answer_one e }

no_mark_is : (t : List ℤ) (m : Placed Mark) {p : ℕ} → Err p ≡ of_mark t m → m ≡ wrong p
no_mark_is t (wrong q) {p} e = let o : q ≡ p = cc in rw o
no_mark_is t (found x q) e = clash (cc)

-- a condition gives nothing to be stored
condition_gives : (k : Stroke) (a : Worked) {e : Entry} {X : Type 0} → condition_of k a ≡ give e → X
condition_gives k (Err n) h = clash (cc)
condition_gives k (Ok v) {e} {X} h = go (runs k v.0) h
  where
    go : (c : Bool) → cond c skip (stop 100) ≡ give e → X
    go true g = clash (cc)
    go false g = clash (cc)

mark_gives : (t : List ℤ) (m : Mark) {e : Entry} {X : Type 0} → mark_step (guarded t) m ≡ give e → X
mark_gives t unmarked h = clash (cc)
mark_gives t (plain k) h = clash (cc)
mark_gives t (conditional k x) h = condition_gives k (expression (guarded t) x) h

module _ (t : List ℤ) (old : Spaces) (m : Mark) (n : Label) where
  over_left : (x : Placed (List Item)) → ltb 24 (mark_depth m) ≡ true → left_deep t x ≡ left_by_line t (map_p (line m n) x) old
  over_left (wrong p) h = refl
  over_left (found is p) h = rw (wide_over 24 (mark_depth m) (items_depth is) h)

  skip_left : (x : Placed (List Item)) → ltb 24 (mark_depth m) ≡ false → mark_step (guarded t) m ≡ skip → left_from t 0 0 (mark_work m) old x ≡ left_by_line t (map_p (line m n) x) old
  skip_left (wrong p) h g = refl
  skip_left (found is p) h g =
      let e = entries (guarded t) is in
      let i : 0 + length (words e) ≡ length (words e) = omega arith in
      let j : 0 + length (settings e) ≡ length (settings e) = omega arith in
      rw (wide_fits 24 (mark_depth m) (items_depth is) h, g, i, j)

  stop_left : (x : Placed (List Item)) {k : ℕ} → ltb 24 (mark_depth m) ≡ false → mark_step (guarded t) m ≡ stop k → left_stopped t (unread_of k) old x ≡ left_by_line t (map_p (line m n) x) old
  stop_left (wrong p) h g = refl
  stop_left (found is p) {k} h g = rw (wide_fits 24 (mark_depth m) (items_depth is) h, g) (ap (λ (x : Left). cond (ltb 24 (items_depth is)) (left (Err TooDeep) zeros) x) (untidied k old))

  -- what the items leave after the mark the line leaves
  mark_left : (x : Placed (List Item)) → left_after t (begun_after t m) old x ≡ left_by_line t (map_p (line m n) x) old
  mark_left x = go (ltb 24 (mark_depth m)) refl (mark_step (guarded t) m) refl
    where
      go : (c : Bool) → ltb 24 (mark_depth m) ≡ c → (st : Step Entry) → mark_step (guarded t) m ≡ st → left_after t (cond c nests_deep (begun_by st (mark_work m))) old x ≡ left_by_line t (map_p (line m n) x) old
      go true h st g = over_left x h
      go false h skip g = skip_left x h g
      go false h (give e) g = mark_gives t m g
      go false h (stop k) g = stop_left x h g

items_checked : (m : Mark) (n : Label) (x : Placed (List Item)) → checked x ≡ checked (map_p (line m n) x)
items_checked m n (wrong p) = refl
items_checked m n (found is p) = refl

module _ (s : List ℕ) where
  -- the line is its mark, its label and its items
  opened : (m : Mark) {p : ℕ} → mark_t s ≡ found m p → line_t s ≡ bind_p (label_t s p) (λ n q. map_p (line m n) (items_t s q))
  opened m e = line_tree s ∙ rw e

  opened_at : (m : Mark) {p q : ℕ} (e : mark_t s ≡ found m p) (h : Ok q ≡ spelt_to (label_t s p)) → line_t s ≡ map_p (line m (ends_is (label_t s p) h).thing) (items_t s q)
  opened_at m {p} e h = opened m e ∙ ap (λ (x : Placed Label). bind_p x (λ n r. map_p (line m n) (items_t s r))) (ends_is (label_t s p) h).is

  pub form_within : {p : ℕ} → Ok p ≡ spelt_to (mark_t s) → p ≤ length s
  form_within {p} e = let k = ends_is (mark_t s) e in (mark_ends s k.thing p k.is).1

  pub line_checked : {p q : ℕ} → Ok p ≡ spelt_to (mark_t s) → Ok q ≡ spelt_to (label_t s p) → checked (items_t s q) ≡ checked (line_t s)
  line_checked {p} {q} e h =
      let k = ends_is (mark_t s) e in
      items_checked k.thing (ends_is (label_t s p) h).thing (items_t s q) ∙ ap (λ (x : Placed Line). checked x) (sym (opened_at k.thing k.is h))

  pub label_wrong : {p q : ℕ} → Ok p ≡ spelt_to (mark_t s) → Err q ≡ spelt_to (label_t s p) → wrong q ≡ line_t s
  label_wrong {p} e h = let k = ends_is (mark_t s) e in sym (opened k.thing k.is ∙ rw (not_is (label_t s p) h))

  pub form_wrong : {p : ℕ} → Err p ≡ spelt_to (mark_t s) → wrong p ≡ line_t s
  form_wrong e = sym (line_tree s ∙ rw (not_is (mark_t s) e))

  -- the same from what the mark left
  module _ (t : List ℤ) where
    pub past_ends : {b : Begun} {p : ℕ} → with_place b p ≡ of_mark t (mark_t s) → Ok p ≡ spelt_to (mark_t s)
    past_ends e = rw (bears t (mark_t s) e).is

    pub no_mark : {p : ℕ} → Err p ≡ of_mark t (mark_t s) → wrong p ≡ line_t s
    no_mark e = sym (line_tree s ∙ rw (no_mark_is t (mark_t s) e))

    -- its work is no more than its bytes
    pub work_within : {b : Begun} {p : ℕ} → with_place b p ≡ of_mark t (mark_t s) → b.work ≤ p
    work_within {b} {p} e =
        let k = bears t (mark_t s) e in
        let z = mark_ends s k.mark p k.is in
        let w = mark_work_holds k.mark (mark_right s k.mark p k.is) in
        rw k.leaves (go (ltb 24 (mark_depth k.mark)) (mark_step (guarded t) k.mark) (mark_work k.mark) (omega (arith, z, w)))
      where
        go : (c : Bool) (st : Step Entry) (n : ℕ) → n ≤ p → (cond c nests_deep (begun_by st n)).work ≤ p
        go true st n h = omega arith
        go false skip n h = h
        go false (give x) n h = h
        go false (stop x) n h = omega arith

    pub line_left : (old : Spaces) {b : Begun} {p q : ℕ} → with_place b p ≡ of_mark t (mark_t s) → Ok q ≡ spelt_to (label_t s p) → left_after t b old (items_t s q) ≡ left_by_line t (line_t s) old
    line_left old {b} {p} {q} e h =
        let k = bears t (mark_t s) e in
        ap (λ (x : Begun). left_after t x old (items_t s q)) k.leaves
        ∙ mark_left t old k.mark (ends_is (label_t s p) h).thing (items_t s q)
        ∙ ap (λ (x : Placed Line). left_by_line t x old) (sym (opened_at k.mark k.is h))
