-- The test of right form is whether a tree derives the line, in at most 256 bytes; the model reader tells every line's form.
-- Assumes nothing.
use mathlib.Core.Path.{◌≡◌, refl, ap}
use mathlib.Core.Bool.{Bool, true, false, ◌&&◌}
use mathlib.Core.List.{List}
use mathlib.Core.Logic.{◌⊎◌, inl, inr}
use Prim.Native.Nat.{ℕ, ◌≤◌}
use native.Mathlib.Omega.{arith}
use borrow.Author.Tests.{leb-true, le-leb}
use lib.Dec.{leb}
use lib.ListN.{length}
use Rattle.grammar.specs.Grammar.{Line}
use Rattle.grammar.specs.Derivation.{Derives, Form}
use Rattle.grammar.proofs.Derivations.{decided}
use Rattle.grammar.proofs.Stuck.{stuck_at, breaks}
use Rattle.grammar.proofs.ByForm.{form_of, by_form, by_form_sole}
use Rattle.texts.specs.Form.{Tells, is_derived, right}

-- there is something that tells
abbrev pub model : List ℕ → Form Line
model s = form_of s

pub model_tells : Tells model
model_tells s = by_form refl

-- and all that tell say the same
pub same_told : {tree other : List ℕ → Form Line} → Tells tree → Tells other → (s : List ℕ) → tree s ≡ other s
same_told p q s = by_form_sole (p s) (q s)

pub both : (a b : Bool) → (a && b) ≡ true → (a ≡ true) × (b ≡ true)
both true b e = (refl, e)
both false b e = let z : ◌≡◌ {A = ℕ} 0 1 = cc in absurd (omega arith)

module _ {tree : List ℕ → Form Line} (told : Tells tree) where
  pub right_is : {t : Line} {s : List ℕ} → Derives t s → length s ≤ 256 → right tree s ≡ true
  unfolding right
  right_is {t} {s} d h = rw ((told s).by_tree t d, le-leb (length s) 256 h)

  pub right_only : (s : List ℕ) → right tree s ≡ true → ((t : Line) × Derives t s) × (length s ≤ 256)
  unfolding right
  right_only s h =
      let p = both (is_derived (tree s)) (leb (length s) 256) h in
      (go (decided s) p.0, leb-true (length s) 256 p.1)
    where
      go : ((t : Line) × Derives t s) ⊎ ((t : Line) → ¬ Derives t s) → is_derived (tree s) ≡ true → (t : Line) × Derives t s
      go (inl w) e = w
      go (inr n) e =
          let f : is_derived (tree s) ≡ false = ap is_derived ((told s).by_place n (stuck_at s) (breaks s n)) in
          let z : ◌≡◌ {A = ℕ} 0 1 = cc in
          absurd (omega arith)
