-- Trees by places in one line: the tree of a value, an item or a line that stands at a place, with the place past it, or the place of the first byte at which the
-- form is wrong. What a function is proved by that judges a tree, and not what it comes to alone.
-- Assumes nothing.
use mathlib.Core.Path.{◌≡◌, refl, ap, ap₂, ◌∙◌, sym}
use mathlib.Core.Bool.{Bool, true, false, cond}
use mathlib.Core.List.{List, [], ◌∷◌}
use Prim.Native.Nat.{ℕ, suc, ◌+◌, ◌≤◌, ◌<◌}
use native.Mathlib.Omega.{arith}
use native.Mathlib.Numerals.{add-one}
use lib.Dec.{eqb}
use lib.ListN.{length, drop, get_or, length-drop, drop_of_length-le}
use lib.Seq.{drop-cons}
use Rattle.grammar.specs.Bytes.{byte, bytes}
use Rattle.grammar.specs.Grammar.{Value, number, parameter, applied, grouped, Expr, expr, Rest, done, more, Item, word, setting, comment, Stroke, slash, backslash, Mark, unmarked, plain, conditional, Line, line, Label}
use Rattle.grammar.specs.Grammar.{letter, remark, write_value, ValueOk, write_item, ItemOk, write_mark, MarkOk, write_label, LabelOk}
use Rattle.grammar.proofs.Read.{Read, fail, got, eat, bind, map_r, take_while, drop_while, read_number, read_after, read_expr, read_more, rest_of, value_of, opens_number, Head, hash, bare, call, Tail, close, oper}
use Rattle.grammar.proofs.Read.{read_item, read_setting, items_of, read_label, expr_of, read_condition, read_mark, read_head, read_line}
use Rattle.grammar.proofs.LineBack.{item_writes}
use Rattle.grammar.proofs.Sound.{Good, nothing, front, byte_good, head_good, tail_good, value_of_good, item_good, label_good, mark_good}
use Rattle.grammar.proofs.Fuel.{value_eq, rest_eq, read_agree, shorter}
use Rattle.grammar.proofs.Place.{Placed, wrong, found, bind_p, map_p, place, place_map, place_bind, place_cond, good_sits, spelt, number_p, head_p, tail_p}
use Rattle.grammar.proofs.Items.{items_fuel}

-- what is found writes the bytes from where it began to where it ends, and is right
good_there : {A : Type 0} (w : A → List ℕ) (Ok : A → Type 0) (s : List ℕ) (at : ℕ) {m : Read A} (a : A) (p : ℕ) → Good w Ok (drop at s) m → place s m ≡ found a p → Ok a
good_there w Ok s at a p nothing e = absurd (let z : ◌≡◌ {A = ℕ} 0 1 = cc in omega arith)
good_there w Ok s at a p (front {a = b} h o) e = let same : b ≡ a = cc in rw same at o

items_eq : (b : ℕ) (s : List ℕ) → items_of (b ∷ s) ≡ bind (read_item (b ∷ s)) (λ i r. map_r (λ l. i ∷ l) (items_of r))
unfolding items_of
items_eq b s =
    read_agree _ _ (item_good (b ∷ s)) (λ i r e. ap (map_r (λ l. i ∷ l)) (items_fuel (suc (length s)) (suc (length r)) r (omega (arith, shorter (b ∷ s) (write_item i) r e, item_writes i)) (omega arith)))

module _ (s : List ℕ) where
  unfoldable pub value_t : ℕ → Placed Value
  value_t at = place s (value_of (drop at s))

  unfoldable pub rest_t : ℕ → Placed Rest
  rest_t at = place s (rest_of (drop at s))

  -- an expression after its bracket
  abbrev pub expr_t : ℕ → Placed Expr
  expr_t at = bind_p (value_t at) (λ v q. map_p (expr v) (rest_t q))

  abbrev pub after_t : Head → ℕ → Placed Value
  after_t hash p = map_p parameter (value_t p)
  after_t bare p = map_p grouped (expr_t p)
  after_t (call g) p = map_p (applied g) (expr_t p)

  abbrev pub more_t : Tail → ℕ → Placed Rest
  more_t close p = found done p
  more_t (oper o) p = bind_p (value_t p) (λ v q. map_p (more o v) (rest_t q))

  expr_tree : (at : ℕ) → place s (read_expr value_of rest_of (drop at s)) ≡ expr_t at
  unfolding value_t rest_t
  expr_tree at = place_bind s _ _ (good_sits s at (value_of_good (drop at s))) (λ v q _. place_map s (expr v) (rest_of (drop q s)))

  after_tree : (h : Head) (at : ℕ) → place s (read_after value_of rest_of h (drop at s)) ≡ after_t h at
  unfolding value_t
  after_tree hash at = place_map s parameter (value_of (drop at s))
  after_tree bare at = place_map s grouped (read_expr value_of rest_of (drop at s)) ∙ ap (map_p grouped) (expr_tree at)
  after_tree (call g) at = place_map s (applied g) (read_expr value_of rest_of (drop at s)) ∙ ap (map_p (applied g)) (expr_tree at)

  pub value_tree : (at : ℕ) → value_t at ≡ cond (opens_number (drop at s)) (map_p number (number_p s at)) (bind_p (head_p s at) after_t)
  unfolding value_t number_p head_p
  value_tree at =
      ap (place s) (value_eq (drop at s))
      ∙ place_cond s (opens_number (drop at s)) _ _
      ∙ ap₂ (cond (opens_number (drop at s))) (place_map s number (read_number (drop at s))) (place_bind s _ _ (good_sits s at (head_good (drop at s))) (λ h p _. after_tree h p))

  more_tree : (h : Tail) (at : ℕ) → at ≤ length s → place s (read_more value_of rest_of h (drop at s)) ≡ more_t h at
  unfolding value_t rest_t
  more_tree close at l = ap (found done) (simp length-drop (omega arith))
  more_tree (oper o) at l = place_bind s _ _ (good_sits s at (value_of_good (drop at s))) (λ v q _. place_map s (more o v) (rest_of (drop q s)))

  pub rest_tree : (at : ℕ) → rest_t at ≡ bind_p (tail_p s at) more_t
  unfolding rest_t tail_p
  rest_tree at = ap (place s) (rest_eq (drop at s)) ∙ place_bind s _ _ (good_sits s at (tail_good (drop at s))) (λ h q l. more_tree h q l)

  -- the bytes that a value takes
  pub value_ends : (at : ℕ) (v : Value) (p : ℕ) → at ≤ length s → value_t at ≡ found v p → (p ≡ at + length (write_value v)) × (p ≤ length s)
  unfolding value_t
  value_ends at v p l e = spelt write_value ValueOk s at v p l (value_of_good (drop at s)) e

  pub value_right : (at : ℕ) (v : Value) (p : ℕ) → value_t at ≡ found v p → ValueOk v
  unfolding value_t
  value_right at v p e = good_there write_value ValueOk s at v p (value_of_good (drop at s)) e

  -- ---- items

  first : (at : ℕ) → at < length s → drop at s ≡ get_or s at 0 ∷ drop (at + 1) s
  first at l = rw (add-one, drop-cons s at 0)

  -- a setting after its `#`, and a comment after its `(`
  abbrev pub setting_t : ℕ → Placed Item
  setting_t at = bind_p (value_t at) (λ v p. bind_p (place s (eat {A = Unit {0}} (bytes "=") tt (drop p s))) (λ _ q. map_p (setting v) (value_t q)))

  abbrev pub comment_t : ℕ → Placed Item
  comment_t at = place s (eat (bytes ")") (comment (take_while remark (drop at s))) (drop_while remark (drop at s)))

  setting_tree : (at : ℕ) → place s (read_setting (drop at s)) ≡ setting_t at
  unfolding value_t
  setting_tree at =
      place_bind s _ _ (good_sits s at (value_of_good (drop at s))) (λ v p _. place_bind s _ _ (good_sits s p (byte_good (byte "=") (drop p s))) (λ _ q _. place_map s (setting v) (value_of (drop q s))))

  unfoldable pub item_t : ℕ → Placed Item
  item_t at = place s (read_item (drop at s))

  pub item_tree : (at : ℕ) → at < length s →
      item_t at ≡ cond (letter (get_or s at 0)) (map_p (word (get_or s at 0)) (value_t (at + 1))) (cond (eqb (byte "#") (get_or s at 0)) (setting_t (at + 1)) (cond (eqb (byte "(") (get_or s at 0)) (comment_t (at + 1)) (wrong at)))
  unfolding item_t value_t
  item_tree at l = ap (λ (d : List ℕ). place s (read_item d)) (first at l) ∙ go (letter (get_or s at 0)) (eqb (byte "#") (get_or s at 0)) (eqb (byte "(") (get_or s at 0))
    where
      go : (a b c : Bool) →
          place s (cond a (map_r (word (get_or s at 0)) (value_of (drop (at + 1) s))) (cond b (read_setting (drop (at + 1) s)) (cond c (eat (bytes ")") (comment (take_while remark (drop (at + 1) s))) (drop_while remark (drop (at + 1) s))) (fail (get_or s at 0 ∷ drop (at + 1) s))))) ≡
          cond a (map_p (word (get_or s at 0)) (place s (value_of (drop (at + 1) s)))) (cond b (setting_t (at + 1)) (cond c (comment_t (at + 1)) (wrong at)))
      go true b c = place_map s (word (get_or s at 0)) (value_of (drop (at + 1) s))
      go false true c = setting_tree (at + 1)
      go false false true = refl
      go false false false = ap wrong (simp length-drop (omega arith))

  -- the bytes that an item takes
  pub item_ends : (at : ℕ) (i : Item) (p : ℕ) → at ≤ length s → item_t at ≡ found i p → (p ≡ at + length (write_item i)) × (p ≤ length s)
  unfolding item_t
  item_ends at i p l e = spelt write_item ItemOk s at i p l (item_good (drop at s)) e

  pub item_right : (at : ℕ) (i : Item) (p : ℕ) → item_t at ≡ found i p → ItemOk i
  unfolding item_t
  item_right at i p e = good_there write_item ItemOk s at i p (item_good (drop at s)) e

  unfoldable pub items_t : ℕ → Placed (List Item)
  items_t at = place s (items_of (drop at s))

  pub items_tree : (at : ℕ) → at < length s → items_t at ≡ bind_p (item_t at) (λ i p. map_p (λ l. i ∷ l) (items_t p))
  unfolding item_t items_t
  items_tree at l =
      ap (λ (d : List ℕ). place s (items_of d)) (first at l) ∙ ap (place s) (items_eq (get_or s at 0) (drop (at + 1) s)) ∙ ap (λ (d : List ℕ). place s (bind (read_item d) (λ i r. map_r (λ l. i ∷ l) (items_of r)))) (sym (first at l))
      ∙ place_bind s _ _ (good_sits s at (item_good (drop at s))) (λ i p _. place_map s (λ l. i ∷ l) (items_of (drop p s)))

  pub items_none : (at : ℕ) → length s ≤ at → items_t at ≡ found [] (length s)
  unfolding items_t items_of
  items_none at l = rw (drop_of_length-le s l) (ap (found []) (omega arith))

  -- ---- the line

  unfoldable pub label_t : ℕ → Placed Label
  label_t at = place s (read_label (drop at s))

  -- the bytes that a label takes
  pub label_ends : (at : ℕ) (n : Label) (p : ℕ) → at ≤ length s → label_t at ≡ found n p → (p ≡ at + length (write_label n)) × (p ≤ length s)
  unfolding label_t
  label_ends at n p l e = spelt write_label LabelOk s at n p l (label_good (drop at s)) e

  unfoldable pub mark_t : Placed Mark
  mark_t = place s (read_mark s)

  -- the bytes that a mark takes
  pub mark_ends : (m : Mark) (p : ℕ) → mark_t ≡ found m p → (p ≡ 0 + length (write_mark m)) × (p ≤ length s)
  unfolding mark_t
  mark_ends m p e = spelt write_mark MarkOk s 0 m p (omega arith) (mark_good s) e

  pub mark_right : (m : Mark) (p : ℕ) → mark_t ≡ found m p → MarkOk m
  unfolding mark_t
  mark_right m p e = good_there write_mark MarkOk s 0 m p (mark_good s) e

  -- a value that begins with a bracket is the expression in it
  module _ (at : ℕ) (l : at < length s) (e : get_or s at 0 ≡ byte "[") where
    opened : drop at s ≡ 91 ∷ drop (at + 1) s
    opened = first at l ∙ ap (λ (b : ℕ). b ∷ drop (at + 1) s) e

    opening : head_p s at ≡ found bare (at + 1)
    unfolding head_p
    opening = ap (λ (d : List ℕ). place s (read_head d)) opened ∙ ap (found bare) (simp length-drop (omega arith))

    pub bracket_tree : value_t at ≡ map_p grouped (expr_t (at + 1))
    bracket_tree = value_tree at ∙ rw (opened, opening)

  unfoldable pub line_t : Placed Line
  line_t = place s (read_line s)

  pub line_tree : line_t ≡ bind_p mark_t (λ m p. bind_p (label_t p) (λ n q. map_p (line m n) (items_t q)))
  unfolding line_t mark_t label_t items_t
  line_tree = place_bind s _ _ (good_sits s 0 (mark_good s)) (λ m p _. place_bind s _ _ (good_sits s p (label_good (drop p s))) (λ n q _. place_map s (line m n) (items_of (drop q s))))

-- a stroke that stands first: where a bracket opens after it, with a condition
abbrev pub stroke_t : List ℕ → Stroke → Placed Mark
stroke_t s k = cond (eqb (byte "[") (get_or s 1 0)) (map_p (conditional k) (expr_t s 2)) (found (plain k) 1)

stroke_tree : (k : Stroke) (b : ℕ) (s : List ℕ) → place (b ∷ s) (read_condition k s) ≡ stroke_t (b ∷ s) k
unfolding expr_of
stroke_tree k b [] = refl
stroke_tree k b (c ∷ s) = go (eqb 91 c)
  where
    go : (x : Bool) → place (b ∷ c ∷ s) (cond x (map_r (conditional k) (expr_of s)) (got (plain k) (c ∷ s))) ≡ cond x (map_p (conditional k) (expr_t (b ∷ c ∷ s) 2)) (found (plain k) 1)
    go true = place_map (b ∷ c ∷ s) (conditional k) (expr_of s) ∙ ap (map_p (conditional k)) (expr_tree (b ∷ c ∷ s) 2)
    go false = ap (found (plain k)) (omega arith)

pub mark_tree : (b : ℕ) (s : List ℕ) → mark_t (b ∷ s) ≡ cond (eqb (byte "/") b) (stroke_t (b ∷ s) slash) (cond (eqb (byte "\\") b) (stroke_t (b ∷ s) backslash) (found unmarked 0))
unfolding mark_t
mark_tree b s = go (eqb 47 b) (eqb 92 b)
  where
    go : (x y : Bool) → place (b ∷ s) (cond x (read_condition slash s) (cond y (read_condition backslash s) (got unmarked (b ∷ s)))) ≡ cond x (stroke_t (b ∷ s) slash) (cond y (stroke_t (b ∷ s) backslash) (found unmarked 0))
    go true y = stroke_tree slash b s
    go false true = stroke_tree backslash b s
    go false false = ap (found unmarked) (omega arith)
