-- A line put in front of a space: the space keeps its length, and its front is the line.
-- Assumes nothing.
use mathlib.Core.Path.{◌≡◌, refl, sym, ap, ◌∙◌}
use mathlib.Core.List.{List, [], ◌∷◌, ◌++◌}
use Prim.Native.Nat.{ℕ, suc, ◌+◌, ◌≤◌, ◌<◌}
use native.Mathlib.Omega.{arith}
use lib.ListN.{length, take, drop, length-append, length-drop}
use lib.Seq.{take_at}
use Rattle.std.specs.Prelude.{Some, None}
use Rattle.mend.specs.Repairs.{remarked}
use Rattle.mend.specs.Places.{remark_place, remark_bytes, remarked_at}
use Rattle.mend.proofs.Passing.{remarked_none}
use Rattle.mend.proofs.Placing.{put_is}

module _ (space f : List ℕ) (n : ℕ) (h : n ≤ length space) (l : length f ≡ n) where
  pub front_long : length (f ++ drop n space) ≡ length space
  front_long = omega (arith, length-append f (drop n space), length-drop n space)

  pub front_is : take n (f ++ drop n space) ≡ f
  front_is = take_at f (drop n space) n l

  pub front_put : {s : List ℕ} → f ≡ s → (n ≤ length (f ++ drop n space)) × (length (f ++ drop n space) ≡ length space) × (take n (f ++ drop n space) ≡ s)
  front_put e = (omega (arith, front_long), front_long, front_is ∙ e)

-- a line is longer by one with its remark made a comment
remark_long : (at i : ℕ) (s : List ℕ) → length (remark_bytes at i s) ≡ length s + 1
remark_long at i [] = refl
remark_long at i (b ∷ s) = let k = remark_long at (suc i) s in omega arith

module _ (s space f : List ℕ) (h : length s < length space) where
  pub remark_front : (at : ℕ) → Some at ≡ remark_place 0 0 s → f ≡ remarked_at at s
      → (length s + 1 ≤ length (f ++ drop (length s + 1) space)) × (length (f ++ drop (length s + 1) space) ≡ length space) × (take (length s + 1) (f ++ drop (length s + 1) space) ≡ remarked 0 s)
  remark_front at a e = front_put space f (length s + 1) (omega arith) (ap length e ∙ remark_long at 0 s) (e ∙ (put_is s at a).1)

  pub plain_front : None ≡ remark_place 0 0 s → f ≡ s
      → (length s ≤ length (f ++ drop (length s) space)) × (length (f ++ drop (length s) space) ≡ length space) × (take (length s) (f ++ drop (length s) space) ≡ remarked 0 s)
  plain_front a e = front_put space f (length s) (omega arith) (ap length e) (e ∙ sym (remarked_none 0 0 s (sym a)))
