-- Items and the whole line by places.
use mathlib.Core.Path.{◌≡◌, refl, ap, ◌∙◌, sym}
use mathlib.Core.Bool.{Bool, true, false, cond}
use mathlib.Core.List.{List, [], ◌∷◌}
use Prim.Native.Nat.{ℕ, zero, suc, ◌+◌, ◌-◌, ◌≤◌, ◌<◌}
use native.Mathlib.Omega.{arith}
use native.Mathlib.Numerals.{add-one}
use lib.Dec.{eqb}
use lib.ListN.{length, drop, get_or, length-drop, drop_of_length-le}
use lib.Seq.{drop-cons}
use Rattle.grammar.specs.Bytes.{byte, bytes}
use Rattle.grammar.specs.Grammar.{Item, ItemOk, letter, remark, Label, write_item}
use Rattle.grammar.specs.Working.{Arithmetic, Step, skip, Took, end, after, step_of, entries, mark_step}
use Rattle.grammar.proofs.Read.{Read, fail, got, eat, bind, map_r, drop_while, read_item, read_items, read_label}
use Rattle.grammar.proofs.LineBack.{item_writes}
use Rattle.grammar.proofs.Sound.{Good, front, byte_good, item_good, label_good, mark_good}
use Rattle.grammar.proofs.Terms.{Pass}
use Rattle.grammar.proofs.OnePass.{calc_of, calc_item, calc_setting, calc_items, calc_items_of, calc_mark, calc_line, mark_same, item_same, items_same}
use Rattle.grammar.proofs.Fuel.{read_agree, shorter}
use Rattle.grammar.proofs.Place.{Placed, wrong, found, bind_p, map_p, place, Sits, good_sits, map_sits, place_bind, place_map, value_p, calc_sits}

-- fuel past the bytes to read changes nothing
pub items_fuel : (f g : ℕ) (s : List ℕ) → length s < f → length s < g → read_items f s ≡ read_items g s
items_fuel zero g s a b = absurd (omega arith)
items_fuel (suc f) zero s a b = absurd (omega arith)
items_fuel (suc f) (suc g) [] a b = refl
items_fuel (suc f) (suc g) (c ∷ s) a b =
    read_agree _ _ (item_good (c ∷ s)) (λ i r e. ap (map_r (λ l. i ∷ l)) (items_fuel f g r (omega (arith, shorter (c ∷ s) (write_item i) r e, item_writes i)) (omega (arith, shorter (c ∷ s) (write_item i) r e, item_writes i))))

module _ {W E S : Type 0} {A : Arithmetic W E} (P : Pass A S) where
  calc_items_fuel : (f : ℕ) (s : List ℕ) → length s < f → calc_items P f s ≡ calc_items_of P s
  unfolding calc_items_of
  calc_items_fuel f s l = items_same P f s ∙ ap (map_r (entries A)) (items_fuel f (suc (length s)) s l (omega arith)) ∙ sym (items_same P (suc (length s)) s)

  item_agree : {B : Type 0} (s : List ℕ) (k k' : (Step E) → List ℕ → Read B) → ((i : (Step E)) (r : List ℕ) → length r < length s → k i r ≡ k' i r) → bind (calc_item P s) k ≡ bind (calc_item P s) k'
  item_agree s k k' h = rw (item_same P s) (go (read_item s) (item_good s))
    where
      go : (m : Read Item) → Good write_item ItemOk s m → bind (map_r (step_of A) m) k ≡ bind (map_r (step_of A) m) k'
      go (fail q) g = refl
      go (got i r) (front e o) = h (step_of A i) r (omega (arith, shorter s (write_item i) r e, item_writes i))

  items_eq : (b : ℕ) (s : List ℕ) → calc_items_of P (b ∷ s) ≡ bind (calc_item P (b ∷ s)) (λ i r. map_r (after i) (calc_items_of P r))
  unfolding calc_items_of
  items_eq b s = item_agree (b ∷ s) _ _ (λ i r l. ap (map_r (after i)) (calc_items_fuel (suc (length s)) r l))

  module _ (s : List ℕ) where
    unfoldable pub item_p : ℕ → Placed (Step E)
    item_p at = place s (calc_item P (drop at s))

    unfoldable pub items_p : ℕ → Placed (Took E)
    items_p at = place s (calc_items_of P (drop at s))

    -- a setting after its '#', and a comment after its '('
    abbrev pub setting_p : ℕ → Placed (Step E)
    setting_p at = bind_p (value_p P s at) (λ a p. bind_p (place s (eat {A = Unit {0}} (bytes "=") tt (drop p s))) (λ _ q. map_p (A.setting_of a) (value_p P s q)))

    abbrev pub comment_p : ℕ → Placed (Step E)
    comment_p at = place s (eat (bytes ")") skip (drop_while remark (drop at s)))

    setting_place : (at : ℕ) → place s (calc_setting P (drop at s)) ≡ setting_p at
    unfolding value_p
    setting_place at =
        place_bind s _ _ (calc_sits P s at) (λ a p _. place_bind s _ _ (good_sits s p (byte_good (byte "=") (drop p s))) (λ _ q _. place_map s (A.setting_of a) (calc_of P (drop q s))))

    pub item_place : (at : ℕ) → at < length s →
        item_p at ≡ cond (letter (get_or s at 0)) (map_p (A.word_of (get_or s at 0)) (value_p P s (at + 1))) (cond (eqb (byte "#") (get_or s at 0)) (setting_p (at + 1)) (cond (eqb (byte "(") (get_or s at 0)) (comment_p (at + 1)) (wrong at)))
    unfolding item_p value_p
    item_place at l = ap (λ (d : List ℕ). place s (calc_item P d)) first ∙ go (letter (get_or s at 0)) (eqb (byte "#") (get_or s at 0)) (eqb (byte "(") (get_or s at 0))
      where
        first : drop at s ≡ get_or s at 0 ∷ drop (at + 1) s
        first = rw (add-one, drop-cons s at 0)

        go : (a b c : Bool) →
            place s (cond a (map_r (A.word_of (get_or s at 0)) (calc_of P (drop (at + 1) s))) (cond b (calc_setting P (drop (at + 1) s)) (cond c (eat (bytes ")") skip (drop_while remark (drop (at + 1) s))) (fail (get_or s at 0 ∷ drop (at + 1) s))))) ≡
            cond a (map_p (A.word_of (get_or s at 0)) (place s (calc_of P (drop (at + 1) s)))) (cond b (setting_p (at + 1)) (cond c (comment_p (at + 1)) (wrong at)))
        go true b c = place_map s (A.word_of (get_or s at 0)) (calc_of P (drop (at + 1) s))
        go false true c = setting_place (at + 1)
        go false false true = refl
        go false false false = ap wrong (simp length-drop (omega arith))

    item_sits : (at : ℕ) → Sits s (calc_item P (drop at s))
    item_sits at = rw (item_same P (drop at s)) (map_sits (step_of A) (good_sits s at (item_good (drop at s))))

    pub items_place : (at : ℕ) → at < length s → items_p at ≡ bind_p (item_p at) (λ i p. map_p (after i) (items_p p))
    unfolding item_p items_p
    items_place at l =
        ap (λ (d : List ℕ). place s (calc_items_of P d)) first ∙ ap (place s) (items_eq (get_or s at 0) (drop (at + 1) s)) ∙ ap (λ (d : List ℕ). place s (bind (calc_item P d) (λ i r. map_r (after i) (calc_items_of P r)))) (sym first)
        ∙ place_bind s _ _ (item_sits at) (λ i p _. place_map s (after i) (calc_items_of P (drop p s)))
      where
        first : drop at s ≡ get_or s at 0 ∷ drop (at + 1) s
        first = rw (add-one, drop-cons s at 0)

    pub items_end : (at : ℕ) → length s ≤ at → items_p at ≡ found end (length s)
    unfolding items_p calc_items_of
    items_end at l = rw (drop_of_length-le s l) (ap (found end) (omega arith))

    pub item_forward : (at : ℕ) (i : (Step E)) (p : ℕ) → at < length s → item_p at ≡ found i p → (at < p) × (p ≤ length s)
    unfolding item_p
    item_forward at i p l e = go (read_item (drop at s)) (item_good (drop at s)) (sym (ap (place s) (item_same P (drop at s))) ∙ e)
      where
        go : (m : Read Item) → Good write_item ItemOk (drop at s) m → place s (map_r (step_of A) m) ≡ found i p → (at < p) × (p ≤ length s)
        go (fail q) g h = absurd (let z : ◌≡◌ {A = ℕ} 0 1 = cc in omega arith)
        go (got j r) (front d o) h = let k : length s - length r ≡ p = cc in omega (arith, shorter (drop at s) (write_item j) r d, item_writes j, length-drop at s)

    -- the line's beginning
    unfoldable pub label_p : ℕ → Placed Label
    label_p at = place s (read_label (drop at s))

    unfoldable pub mark_p : Placed (Step E)
    mark_p = place s (calc_mark P s)

    unfoldable pub line_p : Placed (Took E)
    line_p = place s (calc_line P s)

    mark_sits : Sits s (calc_mark P s)
    mark_sits = rw (mark_same P s) (map_sits (mark_step A) (good_sits s 0 (mark_good s)))

    pub line_place : line_p ≡ bind_p mark_p (λ st p. bind_p (label_p p) (λ _ q. map_p (after st) (items_p q)))
    unfolding line_p mark_p label_p items_p
    line_place =
        place_bind s _ _ mark_sits (λ st p _. place_bind s _ _ (good_sits s p (label_good (drop p s))) (λ _ q _. place_map s (after st) (calc_items_of P (drop q s))))
