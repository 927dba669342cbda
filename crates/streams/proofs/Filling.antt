-- A space that is filled from its front: what stands in it is what was read so far.
-- Assumes nothing.
use Rattle.std.proofs.Common.{◌≡◌, sym, ap, subst, ◌∙◌, List, ◌++◌, ℕ, ◌+◌, ◌≤◌, length, take, drop, Option}
use Rattle.std.proofs.Math.Seq.{take-add}
use Rattle.std.proofs.lemmas.List.{take-append-le, take_at, drop_at, length-take-le}
use Rattle.std.specs.Io.KnownBytes.{Consumes}
use Rattle.std.proofs.KnownBytes.{Consumes-trans}

-- what stands before a part is as it was, and behind it is what the part holds
pub front_is : (xs ys rest : List ℕ) (f n : ℕ) → f ≤ length xs → n ≤ length ys → take (f + n) (take f xs ++ (ys ++ rest)) ≡ take f xs ++ take n ys
front_is xs ys rest f n h k =
    let long = length-take-le f xs h in
    take-add f n (take f xs ++ (ys ++ rest))
    ∙ ap (λ (l : List ℕ). l ++ take n (drop f (take f xs ++ (ys ++ rest)))) (take_at (take f xs) (ys ++ rest) f long)
    ∙ ap (λ (l : List ℕ). take f xs ++ take n l) (drop_at (take f xs) (ys ++ rest) f long)
    ∙ ap (λ (l : List ℕ). take f xs ++ l) (take-append-le n ys rest k)

-- a read more, into the part behind what was read so far
pub filled_on : (a b c : Option (List ℕ)) (xs ys rest : List ℕ) (f n : ℕ) → f ≤ length xs → n ≤ length ys → Consumes a b (take f xs) → Consumes b c (take n ys)
    → Consumes a c (take (f + n) (take f xs ++ (ys ++ rest)))
filled_on a b c xs ys rest f n h k before read =
    subst (Consumes a c) (sym (front_is xs ys rest f n h k)) (Consumes-trans a b c (take f xs) (take n ys) before read)
