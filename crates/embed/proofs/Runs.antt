-- Runs of numbers, read and put one after the other: a turn of a loop, its end, and the runs of a whole record.
-- Assumes nothing.
use mathlib.Core.Path.{◌≡◌, refl, ap, sym, ◌∙◌}
use mathlib.Core.List.{List, [], ◌∷◌, ◌++◌, append_assoc, append-nil, map}
use Prim.Native.Nat.{ℕ, suc, ◌+◌, ◌≤◌, ◌<◌}
use native.Mathlib.Nat.{zero-add}
use native.Mathlib.Numerals.{add-one}
use native.Mathlib.Omega.{arith}
use lib.IntN.{ℤ, pos}
use lib.ListN.{length, get_or, set, take, drop, length-append, length-drop, length-map, length-set, drop_of_length-le}
use lib.Seq.{sets, sets-eq, take-suc, take-suc-set, take_all, length-take-le, get_or-drop}
use Rattle.rules.specs.Reach.{counts, nowhere}
use Rattle.rules.specs.Commands.{numbers}
use Rattle.rules.specs.declared.Length.{Length}
use Rattle.rules.specs.declared.Record.{Record}
use Rattle.embed.specs.Packing.{modes, quantities, packed, number_at, numbers_at, lengths_at}

pub map-append : {A B : Type 0} (f : A → B) (a b : List A) → map f (a ++ b) ≡ map f a ++ map f b
map-append f [] b = refl
map-append f (x ∷ a) b = ap (λ (l : List _). f x ∷ l) (map-append f a b)

-- a length as a number
abbrev number : Length → ℤ
number l = l.0

-- ---- reading n lengths from a place on, of which i are passed: a turn, and the end
abbrev pub Reading : ℕ → List ℤ → ℕ → List Length → ℕ → Type 0
Reading n zs at ls i = (i ≤ n) × (length ls ≡ n) × (take i ls ≡ lengths_at zs at i)

module _ (n : ℕ) (zs : List ℤ) (at : ℕ) (ls : List Length) (i : ℕ) where
  pub read_next : {l : Length} → at + n ≤ length zs → i < n → l ≡ counts (number_at zs (at + i)) → Reading n zs at ls i → Reading n zs at (set ls i l) (i + 1)
  read_next {l} room h e inv = (
    omega arith,
    length-set ls i l ∙ inv.1,
    rw (e, add-one i, take-suc-set ls i (counts (number_at zs (at + i))) (omega (arith, inv.1)), take-suc (drop at zs) i (pos 0) (omega (arith, length-drop at zs)), get_or-drop at zs i (pos 0), inv.2)
        (sym (map-append counts (numbers_at zs at i) (number_at zs (at + i) ∷ []))),
  )

  pub read_all : n ≤ i → Reading n zs at ls i → ls ≡ lengths_at zs at n
  read_all h inv =
      let last : i ≡ n = omega (arith, inv.0) in
      sym (take_all i ls (omega (arith, inv.1))) ∙ inv.2 ∙ ap (lengths_at zs at) last

-- ---- putting them, likewise
pub sets_append : (a b l : List ℤ) (i : ℕ) → sets l i (a ++ b) ≡ sets (sets l i a) (i + length a) b
sets_append [] b l i =
    let e : i + 0 ≡ i = omega arith in
    rw e
sets_append (x ∷ a) b l i =
    let e : i + suc (length a) ≡ suc i + length a = omega arith in
    sets_append a b (set l i x) (suc i) ∙ ap (λ (k : ℕ). sets (sets (set l i x) (suc i) a) k b) (sym e)

abbrev pub Putting : ℕ → List ℤ → ℕ → List Length → List ℤ → ℕ → Type 0
Putting n zs at ls put i = (i ≤ n) × (length ls ≡ n) × (length put ≡ length zs) × (put ≡ sets zs at (numbers (take i ls)))

module _ (n : ℕ) (zs : List ℤ) (at : ℕ) (ls : List Length) (put : List ℤ) (i : ℕ) where
  one_more : i < length ls → sets zs at (numbers (take (i + 1) ls)) ≡ set (sets zs at (numbers (take i ls))) (at + i) (get_or ls i nowhere).0
  one_more h =
      let first = numbers (take i ls) in
      let e : length first ≡ i = length-map (take i ls) number ∙ length-take-le i ls (omega arith) in
      rw (add-one i, take-suc ls i nowhere h, map-append number (take i ls) (get_or ls i nowhere ∷ []))
      (sets_append first ((get_or ls i nowhere).0 ∷ []) zs at ∙ ap (λ (k : ℕ). set (sets zs at first) (at + k) (get_or ls i nowhere).0) e)

  pub put_next : {next : List ℤ} → i < n → next ≡ set put (at + i) (get_or ls i nowhere).0 → Putting n zs at ls put i → Putting n zs at ls next (i + 1)
  put_next h e inv = (
    omega arith,
    inv.1,
    ap length e ∙ length-set put (at + i) (get_or ls i nowhere).0 ∙ inv.2,
    e ∙ ap (λ (l : List ℤ). set l (at + i) (get_or ls i nowhere).0) inv.3 ∙ sym (one_more (omega (arith, inv.1))),
  )

  pub put_all : n ≤ i → Putting n zs at ls put i → (length ls ≡ n) × (put ≡ sets zs at (numbers ls))
  put_all h inv = (inv.1, inv.3 ∙ ap (λ (l : List Length). sets zs at (numbers l)) (take_all i ls (omega (arith, inv.1))))

-- a run after another, from the start
after_run : (l a b : List ℤ) {n : ℕ} → length a ≡ n → sets (sets l 0 a) n b ≡ sets l 0 (a ++ b)
after_run l a b h = ap (λ (k : ℕ). sets (sets l 0 a) k b) (sym h ∙ sym (zero-add (length a))) ∙ sym (sets_append a b l 0)

-- a run as long as the list
whole_run : (l a : List ℤ) → length l ≡ length a → sets l 0 a ≡ a
whole_run l a h =
    sets-eq a l 0 (omega arith)
    ∙ rw (drop_of_length-le l {i = 0 + length a} (omega arith), append-nil a)

-- five runs, as long as those of a record
five_runs : (l a b c d e : List ℤ) → length l ≡ 43 → length a ≡ 3 → length b ≡ 27 → length c ≡ 3 → length d ≡ 5 → length e ≡ 5 → sets (sets (sets (sets (sets l 0 a) 3 b) 30 c) 33 d) 38 e ≡ a ++ (b ++ (c ++ (d ++ e)))
five_runs l a b c d e hl ha hb hc hd he =
    let ab : length (a ++ b) ≡ 30 = omega (arith, length-append a b) in
    let abc : length (a ++ b ++ c) ≡ 33 = omega (arith, length-append (a ++ b) c) in
    let abcd : length (a ++ b ++ c ++ d) ≡ 38 = omega (arith, length-append (a ++ b ++ c) d) in
    let all : length l ≡ length (a ++ b ++ c ++ d ++ e) = omega (arith, length-append (a ++ b ++ c ++ d) e) in
    rw (after_run l a b ha, after_run l (a ++ b) c ab, after_run l (a ++ b ++ c) d abc, after_run l (a ++ b ++ c ++ d) e abcd, whole_run l (a ++ b ++ c ++ d ++ e) all)
    (simp append_assoc)

-- all five, put one after the other
pub all_runs : (r : Record) (l : List ℤ) → length l ≡ 43 → length r.position ≡ 3 → length r.origins ≡ 27 → length r.offset ≡ 3
    → sets (sets (sets (sets (sets l 0 (numbers r.position)) 3 (numbers r.origins)) 30 (numbers r.offset)) 33 (modes r)) 38 (quantities r) ≡ packed r
all_runs r l hl ha hb hc =
    five_runs l (numbers r.position) (numbers r.origins) (numbers r.offset) (modes r) (quantities r) hl
    (length-map r.position number ∙ ha) (length-map r.origins number ∙ hb) (length-map r.offset number ∙ hc) refl refl
