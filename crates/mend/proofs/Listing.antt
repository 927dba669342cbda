-- Entries of the list laid into their space.
-- Assumes nothing.
use mathlib.Core.Path.{◌≡◌}
use mathlib.Core.List.{List, [], ◌∷◌}
use Prim.Native.Nat.{ℕ, ◌+◌, ◌-◌, ◌≤◌, ◌<◌}
use borrow.Author.Tests.{lt-ltb, le-ltb}
use lib.ListN.{length}
use Rattle.mend.specs.Text.{laid_at, enters, enter}

module _ (list : List ℕ) (used a b d : ℕ) where
  pub no_entry : length list - used < 3 → enters used list ≡ enter list used (a ∷ b ∷ d ∷ [])
  unfolding enter
  no_entry h = rw (lt-ltb (length list - used) 3 h)

  pub an_entry : 3 ≤ length list - used → (n : ℕ) (list' : List ℕ) → n ≡ used + 3 → list' ≡ laid_at list used (a ∷ b ∷ d ∷ []) → enters n list' ≡ enter list used (a ∷ b ∷ d ∷ [])
  unfolding enter
  an_entry h n list' e f = rw (le-ltb (length list - used) 3 h, e, f)
