-- What stands in the front of a list that has room, once an element is put in, written over or taken out there.
-- Assumes nothing.
use mathlib.Core.Path.{◌≡◌, sym, ap, ap₂, ◌∙◌}
use mathlib.Core.List.{List, ◌∷◌, ◌++◌}
use Rattle.std.specs.List.{insert, remove, copy_within}
use Prim.Native.Nat.{ℕ, suc, ◌+◌, ◌-◌, ◌*◌, ◌≤◌, ◌<◌}
use native.Mathlib.Omega.{arith}
use native.Mathlib.Numerals.{add-one}
use lib.ListN.{length, take, drop, set, length-drop, length-append}
use lib.Seq.{take-set-lt, take-paste, length-take-le, drop_at}
use Rattle.std.proofs.lemmas.List.{set_split, take-append-le, take-append-drop}
use Rattle.std.proofs.lemmas.Slice.{between_is}
use Rattle.index.specs.Index.{Entry}
use Rattle.index.specs.Held.{held, kept}
use Rattle.index.proofs.Numbers.{held_long, held_take, held_set, held_within, kept_long}

take_front : {X : Type 0} (s : List X) (i count : ℕ) → i ≤ count → count ≤ length s → take i (take count s) ≡ take i s
take_front s i count h k = sym (take-append-le i (take count s) (drop count s) (omega (arith, length-take-le count s k))) ∙ ap (take i) (take-append-drop count s)

module _ {X : Type 0} (s : List X) (count i : ℕ) (k : count ≤ length s) where
  -- the front, once it has been written at i
  pub written : (x : X) → i < length (take count s) → take count (set s i x) ≡ set (take count s) i x
  written x h = take-set-lt count s i x (omega (arith, length-take-le count s k))

  pub inserted : (x : X) → i ≤ length (take count s) → count < length s → take (count + 1) (set (copy_within s i count (i + 1)) i x) ≡ insert (take count s) i x
  inserted x h l =
      let n = length-take-le count s k in
      let a : i + 1 + (count - i) ≡ count + 1 = omega arith in
      let m : i < count + 1 = omega arith in
      let f : take (count + 1) (copy_within s i count (i + 1)) ≡ take (i + 1) s ++ take (count - i) (drop i s) =
      ap (λ (x : ℕ). take x (copy_within s i count (i + 1))) (sym a) ∙ take-paste s (i + 1) (drop i s) (count - i) (omega arith) (omega (arith, length-drop i s)) in
      let o : length (take (i + 1) s) ≡ i + 1 = length-take-le (i + 1) s (omega arith) in
      take-set-lt (count + 1) (copy_within s i count (i + 1)) i x m
      ∙ ap (λ (y : List X). set y i x) f
      ∙ set_split (take (i + 1) s ++ take (count - i) (drop i s)) i x (omega (arith, o, length-append (take (i + 1) s) (take (count - i) (drop i s))))
      ∙ ap₂ (λ (y z : List X). y ++ x ∷ z)
      (take-append-le i (take (i + 1) s) (take (count - i) (drop i s)) (omega arith) ∙ take_front s i (i + 1) (omega arith) (omega arith) ∙ sym (take_front s i count (omega arith) k))
      (drop_at (take (i + 1) s) (take (count - i) (drop i s)) (suc i) (omega arith) ∙ between_is s i count)

  pub removed : i < length (take count s) → take (count - 1) (copy_within s (i + 1) count i) ≡ remove (take count s) i
  removed h =
      let n = length-take-le count s k in
      let a : i + (count - (i + 1)) ≡ count - 1 = omega arith in
      ap (λ (x : ℕ). take x (copy_within s (i + 1) count i)) (sym a)
      ∙ take-paste s i (drop (i + 1) s) (count - (i + 1)) (omega arith) (omega (arith, length-drop (i + 1) s))
      ∙ ap₂ (λ (x y : List X). x ++ y) (sym (take_front s i count (omega arith) k)) (between_is s (i + 1) count ∙ ap (λ (x : ℕ). drop x (take count s)) (add-one i))

-- ---- the same in numbers, three an entry

module _ (s : List ℕ) (count i : ℕ) (room : 3 * count ≤ length s) where
  many : count ≤ length (held s)
  many = let w = held_long s in omega arith

  long : length (kept s count) ≡ count
  long = kept_long s count room

  front : length (take count (held s)) ≡ count
  front = length-take-le count (held s) many

  pub numbers_written : (e : Entry) → i < length (kept s count) → kept (set (set (set s (3 * i) e.number) (3 * i + 1) e.place.line) (3 * i + 2) e.place.start) count ≡ set (kept s count) i e
  numbers_written e h =
      held_take count (set (set (set s (3 * i) e.number) (3 * i + 1) e.place.line) (3 * i + 2) e.place.start)
      ∙ ap (take count) (held_set s i e (omega (arith, long)))
      ∙ written (held s) count i many e (omega (arith, long, front))
      ∙ ap (λ (x : List Entry). set x i e) (sym (held_take count s))

  pub numbers_inserted : (e : Entry) → i ≤ length (kept s count) → 3 * count + 3 ≤ length s → {t : List ℕ} → t ≡ copy_within s (3 * i) (3 * count) (3 * i + 3) → set (kept t (count + 1)) i e ≡ insert (kept s count) i e
  numbers_inserted e h more {t} q =
      let d : 3 * i + 3 ≡ 3 * (i + 1) = omega arith in
      let w = held_long s in
      let k : held t ≡ copy_within (held s) i count (i + 1) =
      ap held q ∙ ap (λ (x : ℕ). held (copy_within s (3 * i) (3 * count) x)) d ∙ held_within s i count (i + 1) (omega (arith, long)) room (omega (arith, long)) in
      ap (λ (x : List Entry). set x i e) (held_take (count + 1) t ∙ ap (take (count + 1)) k)
      ∙ sym (take-set-lt (count + 1) (copy_within (held s) i count (i + 1)) i e (omega (arith, long)))
      ∙ inserted (held s) count i many e (omega (arith, long, front)) (omega arith)
      ∙ ap (λ (x : List Entry). insert x i e) (sym (held_take count s))

  pub numbers_removed : i < length (kept s count) → {t : List ℕ} → t ≡ copy_within s (3 * i + 3) (3 * count) (3 * i) → kept t (count - 1) ≡ remove (kept s count) i
  numbers_removed h {t} q =
      let d : 3 * i + 3 ≡ 3 * (i + 1) = omega arith in
      let k : held t ≡ copy_within (held s) (i + 1) count i =
      ap held q ∙ ap (λ (x : ℕ). held (copy_within s x (3 * count) (3 * i))) d ∙ held_within s (i + 1) count i (omega (arith, long)) room (omega (arith, long)) in
      held_take (count - 1) t ∙ ap (take (count - 1)) k
      ∙ removed (held s) count i many (omega (arith, long, front))
      ∙ ap (λ (x : List Entry). remove x i) (sym (held_take count s))
