-- A line's N number: the label that the grammar's reader finds has the digits that stand after N, and five of them at most.
-- Assumes nothing.
use mathlib.Core.Path.{◌≡◌, refl, sym, ap, ◌∙◌}
use mathlib.Core.Bool.{Bool, true, false, cond}
use mathlib.Core.List.{List, [], ◌∷◌, ◌++◌}
use Prim.Native.Nat.{ℕ, ◌+◌, ◌^◌, ◌≤◌, ◌<◌}
use Rattle.std.specs.Prelude.{Option, Some, None, Ok}
use native.Mathlib.Omega.{arith}
use native.Mathlib.Nat.{pow-le-pow_right}
use borrow.Author.Tests.{leb-true}
use lib.Dec.{eqb, leb, lit<}
use lib.ListN.{length, drop}
use lib.Seq.{drop-drop}
use Rattle.grammar.specs.Grammar.{digit, Item, Label, unlabelled, label, Mark, line}
use Rattle.grammar.proofs.Read.{fail, got, take_while, drop_while, read_label, labelled}
use Rattle.grammar.proofs.Place.{Placed, wrong, found, bind_p, map_p, place}
use Rattle.grammar.proofs.Trees.{items_t, label_t, label_ends, mark_t, line_t, line_tree}
use Rattle.rules.specs.Meaning.{decimal}
use Rattle.reader.specs.Places.{DigitsAt, spelt_to}
use Rattle.reader.specs.Gather.{checked}
use Rattle.reader.specs.Number.{number_at, number_with, number_from}
use Rattle.reader.specs.declared.numbers.Digits.{Digits}
use Rattle.reader.proofs.Clash.{clash}
use Rattle.reader.proofs.Decimals.{moved_up}
use Rattle.reader.proofs.Evaluating.{ends_is}

-- ---- the digits of a label

digits_read : (s ds' r ds : List ℕ) (p : ℕ) → place s (labelled ds' r) ≡ found (label ds) p → (ds ≡ ds') × (length ds ≤ 5)
digits_read s ds' r ds p e = go (leb 1 (length ds')) (leb (length ds') 5) refl e
  where
    go : (a b : Bool) → leb (length ds') 5 ≡ b → place s (cond a (cond b (got (label ds') r) (fail (drop 5 (ds' ++ r)))) (fail r)) ≡ found (label ds) p → (ds ≡ ds') × (length ds ≤ 5)
    go true true h f = let k : ds ≡ ds' = cc in (k, rw k (leb-true (length ds') 5 h))
    go true false h f = clash (cc)
    go false b h f = clash (cc)

label_read : (s d ds : List ℕ) (p : ℕ) → place s (read_label d) ≡ found (label ds) p → (ds ≡ take_while digit (drop 1 d)) × (length ds ≤ 5)
label_read s [] ds p e = clash (cc)
label_read s (b ∷ d) ds p e = go (eqb 78 b) e
  where
    go : (c : Bool) → place s (cond c (labelled (take_while digit d) (drop_while digit d)) (got unlabelled (b ∷ d))) ≡ found (label ds) p → (ds ≡ take_while digit d) × (length ds ≤ 5)
    go true f = digits_read s (take_while digit d) (drop_while digit d) ds p f
    go false f = clash (cc)

-- at most five digits write less than 100,000
low : (d : List ℕ) → length (take_while digit d) ≤ 5 → decimal 0 (take_while digit d) < 100000
low d h =
    let m = moved_up 0 d in
    let k : 10 ^ length (take_while digit d) ≤ 10 ^ 5 = pow-le-pow_right (lit< tt) h in
    omega (arith, m.is, m.below)

-- ---- the number of the label at a place

unlabelled_none : (x : Placed (List Item)) → None ≡ number_with unlabelled x
unlabelled_none (wrong p) = refl
unlabelled_none (found is p) = refl

module _ (s : List ℕ) (at : ℕ) (l : at ≤ length s) where
  module _ {end : ℕ} (e : Ok end ≡ spelt_to (label_t s at)) where
    is : label_t s at ≡ found (ends_is (label_t s at) e).thing end
    is = (ends_is (label_t s at) e).is

    -- nothing stands there
    pub number_none : end ≡ at → None ≡ number_from (label_t s at) (items_t s)
    number_none h = rw is (go (ends_is (label_t s at) e).thing is)
      where
        go : (n : Label) → label_t s at ≡ found n end → None ≡ number_with n (items_t s end)
        go unlabelled f = unlabelled_none (items_t s end)
        go (label ds) f = let z = label_ends s at (label ds) end l f in absurd (omega (arith, z.0))

    module _ (h : end ≡ at → ⊥) {r : Digits} (q : DigitsAt s (at + 1) 0 r) where
      record Labels : Type 0 where
        digits : List ℕ
        is : label_t s at ≡ found (label digits) end
        number : r.number ≡ decimal 0 digits
        low : r.number < 100000

      labels : Labels
      unfolding label_t
      labels = go (ends_is (label_t s at) e).thing is
        where
          go : (n : Label) → label_t s at ≡ found n end → Labels
          go unlabelled f = let z = label_ends s at unlabelled end l f in absurd (h (omega (arith, z.0)))
          go (label ds) f =
              let k = label_read s (drop at s) ds end f in
              let d : ds ≡ take_while digit (drop (at + 1) s) = k.0 ∙ ap (take_while digit) (drop-drop 1 at s) in
              let b : decimal 0 (take_while digit (drop (at + 1) s)) < 100000 = low (drop (at + 1) s) (rw d at k.1) in
              let w : r.number ≡ decimal 0 (take_while digit (drop (at + 1) s)) = omega (arith, q.writes) in
              record { digits = ds; is = f; number = w ∙ ap (decimal 0) (sym d); low = omega arith }

      pub number_low : r.number < 100000
      number_low = labels.low

      pub number_some : Ok tt ≡ checked (items_t s end) → Some r.number ≡ number_from (label_t s at) (items_t s)
      number_some k = ap Some labels.number ∙ go (items_t s end) k ∙ ap (λ (x : Placed Label). number_from x (items_t s)) (sym labels.is)
        where
          go : (x : Placed (List Item)) → Ok tt ≡ checked x → Some (decimal 0 labels.digits) ≡ number_with (label labels.digits) x
          go (wrong p) f = clash (cc)
          go (found y p) f = refl

-- ---- the number of the line

after_mark : (m : Mark) (x : Placed Label) (items : ℕ → Placed (List Item)) → number_from x items ≡ number_at (bind_p x (λ n q. map_p (line m n) (items q)))
after_mark m (wrong p) items = refl
after_mark m (found n p) items = go (items p)
  where
    go : (y : Placed (List Item)) → number_with n y ≡ number_at (map_p (line m n) y)
    go (wrong q) = refl
    go (found is q) = refl

pub number_line : (s : List ℕ) {p : ℕ} {r : Option ℕ} → Ok p ≡ spelt_to (mark_t s) → r ≡ number_from (label_t s p) (items_t s) → r ≡ number_at (line_t s)
number_line s {p} e h =
    let k = ends_is (mark_t s) e in
    let t : line_t s ≡ bind_p (label_t s p) (λ n q. map_p (line k.thing n) (items_t s q)) = line_tree s ∙ ap (λ (x : Placed Mark). bind_p x (λ m z. bind_p (label_t s z) (λ n q. map_p (line m n) (items_t s q)))) k.is in
    h ∙ after_mark k.thing (label_t s p) (items_t s) ∙ ap number_at (sym t)
