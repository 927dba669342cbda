-- One step of each of the functions that read items, or pass them for their form, in the code's answers.
-- Assumes nothing.
use mathlib.Core.Path.{◌≡◌, refl, sym, ap, ◌∙◌}
use mathlib.Core.Bool.{Bool, true, false, cond}
use mathlib.Core.List.{List, [], ◌∷◌}
use Prim.Native.Nat.{ℕ, ◌+◌, ◌-◌, ◌≤◌, ◌<◌}
use Rattle.std.specs.Prelude.{Result, Ok, Err}
use native.Mathlib.Omega.{arith}
use borrow.Author.Tests.{eq-eqb, ne_eqb, lt-ltb, le-ltb}
use lib.Dec.{ltb}
use lib.IntN.{ℤ}
use lib.ListN.{length, drop, get_or, length-drop, length-append}
use lib.Seq.{drop-drop, drop_at}
use Rattle.grammar.specs.Grammar.{Value, Item, word, setting, comment, letter, remark}
use Rattle.grammar.specs.Work.{value_work, value_depth}
use Rattle.grammar.specs.Working.{value, step_of}
use Rattle.grammar.proofs.Read.{Read, fail, got, eat, map_r, take_while, drop_while}
use Rattle.grammar.proofs.Sound.{while_good}
use Rattle.grammar.proofs.Place.{Placed, wrong, found, map_p, place}
use Rattle.grammar.proofs.Trees.{value_t, setting_t, comment_t, item_t, item_tree, value_ends}
use Rattle.reader.specs.Pass.{guarded}
use Rattle.reader.specs.Places.{spelt_to, remarks_end}
use Rattle.reader.specs.Levels.{came, of_value, item_by, word_item, valueless, of_item, item_at}
use Rattle.reader.specs.declared.values.Came.{Came}
use Rattle.reader.specs.declared.values.NoValue.{NoValue}
use Rattle.reader.specs.declared.values.NoValue.TheVariants.{Deep as TooDeep}
use Rattle.reader.specs.declared.items.Item.{Item as Answer}
use Rattle.reader.specs.declared.items.Item.TheVariants.{Comment, Deep, End}
use Rattle.reader.proofs.Evaluating.{ends_is}
use Rattle.reader.proofs.Levels.{wide_over}
use Rattle.reader.proofs.Spellings.{eat_seen}
use Rattle.reader.proofs.Clash.{clash}

-- ---- where a value or `=` ends

-- `=` at a place
abbrev mark : List ℕ → ℕ → Placed (Unit {0})
mark s p = place s (eat {A = Unit {0}} (61 ∷ []) tt (drop p s))

spelt_within : (s : List ℕ) (m : Read (Unit {0})) {p : ℕ} → Ok p ≡ spelt_to (place s m) → p ≤ length s
spelt_within s (fail q) e = clash (cc)
spelt_within s (got _ q) {p} e = let k : length s - length q ≡ p = cc in omega arith

module _ (s : List ℕ) (at : ℕ) where
  pub equals_within : {q : ℕ} → Ok q ≡ spelt_to (mark s at) → q ≤ length s
  equals_within e = spelt_within s (eat (61 ∷ []) tt (drop at s)) e

  pub value_within : {p : ℕ} → at ≤ length s → Ok p ≡ spelt_to (value_t s at) → p ≤ length s
  value_within {p} l e = let k = ends_is (value_t s at) e in (value_ends s at k.thing p l k.is).1

  -- ---- the form of a setting

  map_ends : {X Y : Type 0} (f : X → Y) (m : Placed X) → spelt_to m ≡ spelt_to (map_p f m)
  map_ends f (wrong p) = refl
  map_ends f (found x p) = refl

-- ---- a setting, to a limit of nesting

module _ (t : List ℤ) (s : List ℕ) (at k : ℕ) where
  -- a setting that nests too deep, once its form is judged
  abbrev deep_item : Result ℕ ℕ → Result Answer ℕ
  deep_item (Ok p) = Ok (Deep p)
  deep_item (Err p) = Err p

  deep_on : (v : Value) → ltb k (value_depth v) ≡ true → (m : Placed Value) → deep_item (spelt_to m) ≡ of_item t k (map_p (setting v) m)
  deep_on v o (wrong p) = refl
  deep_on v o (found z p) = rw (wide_over k (value_depth v) (value_depth z) o)

-- ---- a comment

module _ (s : List ℕ) where
  drop_remarks : (at : ℕ) → drop_while remark (drop at s) ≡ drop (remarks_end s at) s
  drop_remarks at =
      sym (sym (drop-drop (length (take_while remark (drop at s))) at s) ∙ ap (drop (length (take_while remark (drop at s)))) (while_good remark (drop at s))
      ∙ drop_at (take_while remark (drop at s)) (drop_while remark (drop at s)) (length (take_while remark (drop at s))) refl)

  pub remarks_on : (at : ℕ) → at ≤ length s → remarks_end s at ≤ length s
  remarks_on at l =
      let k : length (take_while remark (drop at s)) + length (drop_while remark (drop at s)) ≡ length s - at = sym (sym (length-drop at s) ∙ ap length (while_good remark (drop at s)) ∙ length-append (take_while remark (drop at s)) (drop_while remark (drop at s))) in
      omega arith

  read_ends : {X Y : Type 0} (f : X → Y) (m : Read X) → spelt_to (place s m) ≡ spelt_to (place s (map_r f m))
  read_ends f (fail q) = refl
  read_ends f (got x q) = refl

  pub comment_ends : (at : ℕ) {r : ℕ} {x : Result ℕ ℕ} → r ≡ remarks_end s at → x ≡ spelt_to (place s (eat {A = Unit {0}} (41 ∷ []) tt (drop r s))) → x ≡ spelt_to (comment_t s at)
  comment_ends at {r} e d =
      let c = comment (take_while remark (drop at s)) in
      d ∙ ap (λ (z : ℕ). spelt_to (place s (eat {A = Unit {0}} (41 ∷ []) tt (drop z s)))) e ∙ ap (λ (z : List ℕ). spelt_to (place s (eat {A = Unit {0}} (41 ∷ []) tt z))) (sym (drop_remarks at))
      ∙ read_ends (λ _. c) (eat {A = Unit {0}} (41 ∷ []) tt (drop_while remark (drop at s)))
      ∙ ap (λ (m : Read Item). spelt_to (place s m)) (sym (eat_seen s (41 ∷ []) c (drop_while remark (drop at s))))

-- ---- an item

-- a word by its value, or by why it has none
abbrev by_value : ℕ → Result Came NoValue → Result Answer ℕ
by_value b (Ok x) = Ok (word_item b x)
by_value b (Err why) = valueless why

word_seen : (t : List ℤ) (k b : ℕ) (m : Placed Value) → by_value b (of_value t k m) ≡ of_item t k (map_p (word b) m)
word_seen t k b (wrong p) = refl
word_seen t k b (found v p) = go (ltb k (value_depth v))
  where
    go : (c : Bool) → by_value b (cond c (Err (TooDeep p)) (Ok (came (value (guarded t) v) (value_work v) p))) ≡ Ok (cond c (Deep p) (item_by (step_of (guarded t) (word b v)) (value_work v) p))
    go true = refl
    go false = refl

module _ (t : List ℤ) (s : List ℕ) (at : ℕ) where
  pub at_end : length s ≤ at → Ok End ≡ item_at t s at
  unfolding item_at
  at_end h = rw (le-ltb at (length s) h)

  module _ (l : at < length s) where
    here : {r : Result Answer ℕ} → r ≡ of_item t 24 (item_t s at) → r ≡ item_at t s at
    unfolding item_at
    here e = rw (lt-ltb at (length s) l) e

    module _ (h : letter (get_or s at 0) ≡ true) where
      by_word : {x : Result Came NoValue} → x ≡ of_value t 24 (value_t s (at + 1)) → by_value (get_or s at 0) x ≡ item_at t s at
      by_word e = here (rw (item_tree s at l, h) (ap (by_value (get_or s at 0)) e ∙ word_seen t 24 (get_or s at 0) (value_t s (at + 1))))

      pub item_word : {x : Came} {r : Answer} → Ok x ≡ of_value t 24 (value_t s (at + 1)) → r ≡ word_item (get_or s at 0) x → Ok r ≡ item_at t s at
      item_word e d = ap Ok d ∙ by_word e

      pub word_valueless : {why : NoValue} {r : Result Answer ℕ} → Err why ≡ of_value t 24 (value_t s (at + 1)) → r ≡ valueless why → r ≡ item_at t s at
      word_valueless e d = d ∙ by_word e

    module _ (h : letter (get_or s at 0) ≡ false) where
      pub item_setting : get_or s at 0 ≡ 35 → {r : Result Answer ℕ} → r ≡ of_item t 24 (setting_t s (at + 1)) → r ≡ item_at t s at
      item_setting k e = here (rw (item_tree s at l, h, eq-eqb 35 (get_or s at 0) (sym k)) e)

      abbrev comment_item : Result ℕ ℕ → Result Answer ℕ
      comment_item (Ok p) = Ok (Comment p)
      comment_item (Err p) = Err p

      comment_seen : (m : Read (Unit {0})) (bs : List ℕ) → comment_item (spelt_to (place s (map_r (λ _. comment bs) m))) ≡ of_item t 24 (place s (map_r (λ _. comment bs) m))
      comment_seen (fail q) bs = refl
      comment_seen (got _ q) bs = refl

      module _ (k : get_or s at 0 ≡ 40) where
        by_comment : {x : Result ℕ ℕ} → x ≡ spelt_to (comment_t s (at + 1)) → comment_item x ≡ item_at t s at
        by_comment e =
            let c = take_while remark (drop (at + 1) s) in
            let y = drop_while remark (drop (at + 1) s) in
            here (rw (item_tree s at l, h, ne_eqb 35 (get_or s at 0) (λ z. omega arith), eq-eqb 40 (get_or s at 0) (sym k))
            (ap comment_item e ∙ ap (λ (m : Read Item). comment_item (spelt_to (place s m))) (eat_seen s (41 ∷ []) (comment c) y)
            ∙ comment_seen (eat {A = Unit {0}} (41 ∷ []) tt y) c ∙ ap (λ (m : Read Item). of_item t 24 (place s m)) (sym (eat_seen s (41 ∷ []) (comment c) y))))

        pub item_comment : {p : ℕ} → Ok p ≡ spelt_to (comment_t s (at + 1)) → Ok (Comment p) ≡ item_at t s at
        item_comment e = by_comment e

        pub comment_wrong : {p : ℕ} → Err p ≡ spelt_to (comment_t s (at + 1)) → Err p ≡ item_at t s at
        comment_wrong e = by_comment e

      pub item_none : (get_or s at 0 ≡ 35 → ⊥) → (get_or s at 0 ≡ 40 → ⊥) → Err at ≡ item_at t s at
      item_none a b = here (rw (item_tree s at l, h, ne_eqb 35 (get_or s at 0) (λ e. a (sym e)), ne_eqb 40 (get_or s at 0) (λ e. b (sym e))))

-- ---- the form of an item

module _ (s : List ℕ) (at : ℕ) (l : at < length s) where
  pub end_word : letter (get_or s at 0) ≡ true → {r : Result ℕ ℕ} → r ≡ spelt_to (value_t s (at + 1)) → r ≡ spelt_to (item_t s at)
  end_word h e = rw (item_tree s at l, h) (e ∙ map_ends s at (word (get_or s at 0)) (value_t s (at + 1)))

  module _ (h : letter (get_or s at 0) ≡ false) where
    pub end_setting : get_or s at 0 ≡ 35 → {r : Result ℕ ℕ} → r ≡ spelt_to (setting_t s (at + 1)) → r ≡ spelt_to (item_t s at)
    end_setting k e = rw (item_tree s at l, h, eq-eqb 35 (get_or s at 0) (sym k)) e

    pub end_comment : get_or s at 0 ≡ 40 → {r : Result ℕ ℕ} → r ≡ spelt_to (comment_t s (at + 1)) → r ≡ spelt_to (item_t s at)
    end_comment k e = rw (item_tree s at l, h, ne_eqb 35 (get_or s at 0) (λ z. omega arith), eq-eqb 40 (get_or s at 0) (sym k)) e

    pub end_none : (get_or s at 0 ≡ 35 → ⊥) → (get_or s at 0 ≡ 40 → ⊥) → Err at ≡ spelt_to (item_t s at)
    end_none a b = rw (item_tree s at l, h, ne_eqb 35 (get_or s at 0) (λ e. a (sym e)), ne_eqb 40 (get_or s at 0) (λ e. b (sym e)))
