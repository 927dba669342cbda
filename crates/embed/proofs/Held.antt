-- What it tells that numbers are a record's: how many they are, and that each stays itself through the field that holds it.
-- Assumes nothing.
use mathlib.Core.Path.{◌≡◌, refl, sym, subst, ◌∙◌}
use mathlib.Core.Bool.{Bool, true, false, not, ◌&&◌, true≢false, false≢true}
use mathlib.Core.List.{List, [], ◌∷◌}
use Prim.Native.Nat.{ℕ, zero, suc, ◌+◌, ◌<◌, ◌^◌}
use native.Mathlib.Omega.{arith}
use lib.Dec.{T, eqb, eqb→eq, leb-zero}
use lib.IntN.{ℤ, pos, negsuc, nat_abs}
use lib.ListN.{length, drop}
use lib.Seq.{get_or-drop, get_or-take}
use lib.Signed.{lt_z, le_z, non_neg}
use mir.Syntax.{Width}
use mir.Val.{Fits, bits}
use borrow.Author.Tests.{ltb-true, leb-true, not-true, not-false}
use Rattle.laws.proofs.Bools.{and_left, and_right, T-eq}
use Rattle.rules.specs.Reach.{up_to}
use Rattle.embed.specs.Packing.{number_at, numbers_at, all_up_to, holdable}

-- ---- a number from 0 to high
pub below_zero : (high : ℕ) (z : ℤ) → lt_z z (pos 0) ≡ true → up_to high z ≡ false
below_zero high (pos n) e = absurd (omega (arith, ltb-true n 0 e))
below_zero high (negsuc n) e = refl

pub from_zero : (high : ℕ) (z : ℤ) → lt_z z (pos 0) ≡ false → le_z z (pos high) ≡ up_to high z
from_zero high (pos n) e = refl
from_zero high (negsuc n) e = absurd (true≢false e)

-- is its own size
pub same : (high : ℕ) (z : ℤ) → up_to high z ≡ true → pos (nat_abs z) ≡ z
same high (pos n) e = refl
same high (negsuc n) e = absurd (false≢true e)

-- and fits a width that holds high
pub cast_held : (w : Width) (high : ℕ) (z : ℤ) → high < 2 ^ bits w → up_to high z ≡ true → T (non_neg z) × Fits w (nat_abs z)
cast_held w high (pos n) h e = (tt, record { fits = omega (arith, leb-true n high e) })
cast_held w high (negsuc n) h e = absurd (false≢true e)

-- a call's answer, and the test of it that the code makes, tell what the answer stands for
pub passed : {answer asked : Bool} → answer ≡ asked → not answer ≡ false → asked ≡ true
passed {answer} e t = sym e ∙ not-false answer t

pub failed : {answer asked : Bool} → answer ≡ asked → not answer ≡ true → asked ≡ false
failed {answer} e t = sym e ∙ not-true answer t

-- ---- a run of such numbers
pub each : (high : ℕ) (zs : List ℤ) → T (all_up_to high zs) → (i : ℕ) → T (up_to high (number_at zs i))
unfolding all_up_to
each high [] t i = subst T (sym (leb-zero high)) tt
each high (z ∷ zs) t zero = and_left (up_to high z) (all_up_to high zs) t
each high (z ∷ zs) t (suc i) = each high zs (and_right (up_to high z) (all_up_to high zs) t) i

-- ---- the numbers of a record
module _ (zs : List ℤ) (e : holdable zs ≡ true) where
  all_held : T (holdable zs)
  all_held = subst T (sym e) tt

  abbrev many : Bool
  many = eqb (length zs) 43

  abbrev modes : Bool
  modes = all_up_to 65535 (numbers_at zs 33 5)

  abbrev smalls : Bool
  smalls = all_up_to 255 (numbers_at zs 40 3)

  pub long : length zs ≡ 43
  unfolding holdable
  long = eqb→eq (length zs) 43 (and_left many modes (and_left (many && modes) smalls all_held))

  run_at : (high at n : ℕ) → T (all_up_to high (numbers_at zs at n)) → (i : ℕ) → i < n → up_to high (number_at zs (at + i)) ≡ true
  run_at high at n t i h =
      let at-run : number_at (numbers_at zs at n) i ≡ number_at zs (at + i) = get_or-take n (drop at zs) i (pos 0) h ∙ get_or-drop at zs i (pos 0) in
      T-eq (up_to high (number_at zs (at + i))) (subst (λ (z : ℤ). T (up_to high z)) at-run (each high (numbers_at zs at n) t i))

  pub mode : (i : ℕ) → i < 5 → up_to 65535 (number_at zs (33 + i)) ≡ true
  unfolding holdable
  mode = run_at 65535 33 5 (and_right many modes (and_left (many && modes) smalls all_held))

  pub small : (i : ℕ) → i < 3 → up_to 255 (number_at zs (40 + i)) ≡ true
  unfolding holdable
  small = run_at 255 40 3 (and_right (many && modes) smalls all_held)
