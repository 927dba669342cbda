-- A table's rule at all of its entries, and past its end.
-- Assumes nothing.
use mathlib.Core.Path.{◌≡◌, refl, ◌∙◌, ap, sym}
use mathlib.Core.Bool.{Bool, true, false, ◌&&◌}
use mathlib.Core.List.{List, [], ◌∷◌}
use Prim.Native.Nat.{ℕ, zero, suc, ◌+◌, ◌<◌, ◌≤◌}
use native.Mathlib.Nat.{add-zero, zero-add, add-suc, suc-add, le_of_suc-le-suc, not-suc-le-zero}
use native.Mathlib.Omega.{arith}
use lib.Dec.{T, ltb, ltb→lt}
use lib.ListN.{get_or}
use borrow.Author.Tests.{ne_eqb}
use Rattle.laws.proofs.Bools.{and_left, and_right}
use Rattle.grammar.specs.Bytes.{among}
use Rattle.rules.specs.Codes.{Group, listed_in, not_served}
use Rattle.rules.specs.Codes.Group.{◌holds◌}

-- the table of n entries that a rule fills, from place i on
abbrev pub filled : (ℕ → ℕ) → ℕ → ℕ → List ℕ
filled rule i zero = []
filled rule i (suc n) = rule i ∷ filled rule (suc i) n

filled_from : (rule : ℕ → ℕ) (n i k : ℕ) → k < n → get_or (filled rule i n) k 0 ≡ rule (i + k)
filled_from rule zero i k h = absurd (not-suc-le-zero h)
filled_from rule (suc n) i zero h = ap rule (sym (add-zero i))
filled_from rule (suc n) i (suc k) h = filled_from rule n (suc i) k (le_of_suc-le-suc h) ∙ ap rule (suc-add i k ∙ sym (add-suc i k))

-- at each place stands what the rule says of it. Where this is used of a table that the source writes out, the check works the rule out at every
-- place and compares: one test of all the entries.
pub entry : (rule : ℕ → ℕ) (n k : ℕ) → k < n → get_or (filled rule 0 n) k 0 ≡ rule k
entry rule n k h = filled_from rule n 0 k h ∙ ap rule (zero-add k)

-- every code of a list, and every code that a group holds, is below n
abbrev pub under : ℕ → List ℕ → Bool
under n [] = true
under n (x ∷ xs) = ltb x n && under n xs

abbrev pub all_under : ℕ → List Group → Bool
all_under n [] = true
all_under n ((g holds codes) ∷ gs) = under n codes && all_under n gs

not_among : (n code : ℕ) (xs : List ℕ) → T (under n xs) → n ≤ code → among code xs ≡ false
not_among n code [] t h = refl
not_among n code (x ∷ xs) t h =
    let l : x < n = ltb→lt x n (and_left (ltb x n) (under n xs) t) in
    rw (ne_eqb code x (λ e. omega arith)) (not_among n code xs (and_right (ltb x n) (under n xs) t) h)

-- past the end of a table that has every listed code, no code is served
pub past : (n : ℕ) (gs : List Group) → T (all_under n gs) → (code : ℕ) → n ≤ code → listed_in gs code ≡ not_served
past n [] t code h = refl
past n ((g holds codes) ∷ gs) t code h =
    rw (not_among n code codes (and_left (under n codes) (all_under n gs) t) h) (past n gs (and_right (under n codes) (all_under n gs) t) code h)
