-- A line's repairs, one laid over the other: the front of the space is then the line's mended text.
-- Assumes nothing.
use mathlib.Core.Path.{◌≡◌, sym, ap, ◌∙◌}
use mathlib.Core.Bool.{Bool, false, not}
use mathlib.Core.List.{List, ◌++◌}
use Prim.Native.Nat.{ℕ, ◌≤◌}
use native.Mathlib.Omega.{arith}
use lib.ListN.{length, take, drop}
use lib.Seq.{length-take-le}
use Rattle.mend.specs.Repairs.{lone_percent, remarked, flattened, repaired}
use Rattle.mend.specs.Mend.{same}
use Rattle.mend.specs.Line.{Repaired}
use Rattle.mend.proofs.Differing.{repairs_are}
use Rattle.mend.proofs.Fronts.{front_long, front_is}
use Rattle.mend.proofs.LineMended.{repaired_is, flattened_long}

-- plain: the line with its remark made a comment; x: the same in front of the space; y: its nested comments mended
module _ (s plain space x : List ℕ) (n : ℕ) (h : n ≤ length plain) (p : take n plain ≡ remarked 0 s) (j : n ≤ length space) (e : x ≡ take n plain) where
  plain_long : length x ≡ n
  plain_long = ap length e ∙ length-take-le n plain h

  plain_is : take n (x ++ drop n space) ≡ take n plain
  plain_is = front_is space x n j plain_long ∙ e

  pub plain_front_long : n ≡ length (take n (x ++ drop n space))
  plain_front_long = sym (ap length plain_is ∙ length-take-le n plain h)

  module _ (y : List ℕ) (f : y ≡ flattened 0 (take n (x ++ drop n space))) where
    flat_long : length y ≡ n
    flat_long = ap length f ∙ flattened_long 0 (take n (x ++ drop n space)) ∙ sym plain_front_long

    whole : n ≤ length (x ++ drop n space)
    whole = omega (arith, front_long space x n j plain_long)

    flat_is : take n (y ++ drop n (x ++ drop n space)) ≡ y
    flat_is = front_is (x ++ drop n space) y n whole flat_long

    pub repaired_put : (remark nested : Bool) → length space ≡ 257 → false ≡ lone_percent s → remark ≡ not (same s (take n plain))
        → nested ≡ not (same (take n plain) (take n (y ++ drop n (x ++ drop n space))))
        → Repaired s (record { length = n; repairs = record { percent = false; remark = remark; nested = nested } }) (y ++ drop n (x ++ drop n space))
    repaired_put remark nested l lone d g =
        let t : take n (y ++ drop n (x ++ drop n space)) ≡ repaired s = flat_is ∙ f ∙ ap (flattened 0) (plain_is ∙ p) ∙ sym (repaired_is s lone) in
        let a : remark ≡ not (same s (remarked 0 s)) = d ∙ ap (λ (z : List ℕ). not (same s z)) p in
        let b : nested ≡ not (same (remarked 0 s) (repaired s)) = g ∙ rw (p, t) in
        record {
          long = front_long (x ++ drop n space) y n whole flat_long ∙ front_long space x n j plain_long ∙ l;
          within = omega arith;
          text = t;
          by = rw (a, b) (repairs_are s lone);
        }
