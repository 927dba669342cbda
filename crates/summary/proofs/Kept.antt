-- The first word of each key is held, and the keys seen are bits of a mask: a turn of the loop, and what is held when all words are passed.
-- Assumes nothing.
use mathlib.Core.Path.{◌≡◌, refl, sym, ap, ap₂, subst, ◌∙◌}
use mathlib.Core.Bool.{Bool, true, false, cond, ◌||◌}
use mathlib.Core.List.{List, [], ◌∷◌}
use Prim.Native.Nat.{ℕ, suc, ◌+◌, ◌≤◌, ◌<◌}
use native.Mathlib.Omega.{arith}
use lib.Dec.{T, eqb, ltb}
use lib.Count.{ones}
use lib.IntN.{ℤ, pos}
use lib.ListN.{length, get_or, set, replicate, length-set, length-replicate}
use lib.Seq.{get_or-set_same, get_or-set_other}
use borrow.Author.Tests.{ne_eqb, eq-eqb, eqb-true, eqb-false}
use Rattle.std.specs.Prelude.{Option, Some}
use Rattle.grammar.specs.Bytes.{among}
use Rattle.rules.specs.Block.{twice}
use Rattle.rules.specs.declared.Value.{Value}
use Rattle.summary.specs.declared.words.Entry.{Entry}
use Rattle.summary.specs.declared.filing.Filed.{Filed}
use Rattle.summary.specs.Keys.{first, seen, slot, keep}
use Rattle.summary.proofs.Entries.{keys}
use Rattle.summary.proofs.Mask.{seen_none, seen_more, marked, seen_marked, ones_at_most, fewer_ones}

-- the value held at a key
abbrev value_at : List ℤ → ℕ → Option Value
value_at held k = Some (record { 0 = get_or held k (pos 0) })

-- what is filed and the number of words, with the entries still ahead, come to what all the entries come to
pub record Kept (all ahead : List Entry) (number : ℕ) (filed : Filed) : Type 0 where
  pub marks : marked 0 (keys all) ≡ marked filed.mask (keys ahead)
  pub counted : length all ≡ number + length ahead
  pub room : length filed.held ≡ 64
  pub firsts : (k : ℕ) → first k all ≡ cond (seen filed.mask k) (value_at filed.held k) (first k ahead)

differ : {b : Bool} → b ≡ true → b ≡ false → ⊥
differ p q = subst T (sym p ∙ q) tt

-- none is passed yet
pub keep_none : (all : List Entry) → Kept all all 0 (record { mask = 0; held = replicate 64 (pos 0) })
keep_none all = record { marks = refl; counted = omega arith; room = length-replicate 64 (pos 0); firsts = λ k. rw (seen_none k) refl }

-- one entry more
module _ {all ahead : List Entry} {number : ℕ} {filed : Filed} (e : Entry) (h : e.key < 64) (f : Kept all (e ∷ ahead) number filed) where
  first_more : (k : ℕ) (a b s : Bool) → seen filed.mask k ≡ a → eqb k e.key ≡ b → seen filed.mask e.key ≡ s →
      cond a (value_at filed.held k) (cond (eqb e.key k) (Some (record { 0 = e.value })) (first k ahead)) ≡ cond (b || a) (value_at (cond s filed.held (set filed.held e.key e.value)) k) (first k ahead)
  first_more k true true true p q r = refl
  first_more k true false true p q r = refl
  first_more k true true false p q r = absurd (differ (rw (eqb-true k e.key q) at p) r)
  first_more k true false false p q r = rw (get_or-set_other filed.held e.key k e.value (pos 0) (eqb-false k e.key q)) refl
  first_more k false true true p q r = absurd (differ r (rw (eqb-true k e.key q) at p))
  first_more k false true false p q r =
      let d = eqb-true k e.key q in
      rw (eq-eqb e.key k (sym d), d, get_or-set_same filed.held e.key e.value (pos 0) (omega (arith, f.room))) refl
  first_more k false false s p q r = rw (ne_eqb e.key k (λ d. eqb-false k e.key q (sym d))) refl

  room_more : (s : Bool) → length (cond s filed.held (set filed.held e.key e.value)) ≡ 64
  room_more true = f.room
  room_more false = length-set filed.held e.key e.value ∙ f.room

  pub keep_one : Kept all ahead (number + 1) (keep filed e)
  keep_one = record {
    marks = f.marks;
    counted = omega (arith, f.counted);
    room = room_more (seen filed.mask e.key);
    firsts = λ k. f.firsts k ∙ first_more k (seen filed.mask k) (eqb k e.key) (seen filed.mask e.key) refl refl refl ∙ rw (seen_more filed.mask e.key k) refl;
  }

keys_length : (es : List Entry) → length (keys es) ≡ length es
keys_length [] = refl
keys_length (e ∷ es) = ap suc (keys_length es)

-- with no entry ahead any more
module _ {all : List Entry} {number : ℕ} {filed : Filed} (f : Kept all [] number filed) where
  pub slot_first : (k : ℕ) → slot filed k ≡ first k all
  slot_first k = sym (f.firsts k)

  pub seen_among : (k : ℕ) → seen filed.mask k ≡ among k (keys all)
  seen_among k = ap (λ (m : ℕ). seen m k) (sym f.marks) ∙ seen_marked k (keys all)

  pub ones_few : ones filed.mask ≤ number
  ones_few = omega (arith, f.counted, ap ones f.marks, ones_at_most (keys all), keys_length all)

  pub ones_fewer : ltb (ones filed.mask) number ≡ twice (keys all)
  ones_fewer = ap₂ (λ (m n : ℕ). ltb (ones m) n) (sym f.marks) (omega (arith, f.counted, keys_length all)) ∙ fewer_ones (keys all)
