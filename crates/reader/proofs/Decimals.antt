-- Of the decimals of a number the first five tell its value (`first_five`): whatever digits come after them write less than one of their units.
-- Assumes nothing.
use mathlib.Core.Path.{◌≡◌, refl, sym, ap, ◌∙◌}
use mathlib.Core.Bool.{Bool, true, false, cond, and-eq-true_iff}
use mathlib.Core.List.{List, [], ◌∷◌, ◌++◌}
use Prim.Native.Nat.{ℕ, zero, suc, ◌+◌, ◌-◌, ◌*◌, ◌^◌, ◌≤◌, ◌<◌}
use native.Mathlib.Omega.{arith}
use native.Mathlib.Nat as N
use borrow.Author.Tests.{leb-true}
use lib.Dec.{leb}
use lib.ListN.{length, take, drop, length-append}
use lib.Seq.{take-nil, length-take-le}
use Rattle.grammar.specs.Grammar.{digit}
use Rattle.grammar.proofs.Read.{take_while, drop_while}
use Rattle.grammar.proofs.Sound.{while_good}
use Rattle.rules.specs.Meaning.{decimal, written}
use Rattle.value.proofs.Written.{after_fifth}

-- ---- of a run of at least k bytes that pass a test, the first k and those after them
module _ (p : ℕ → Bool) where
  first_run : (k : ℕ) (l : List ℕ) → k ≤ length (take_while p l) → take_while p (take k l) ≡ take k l
  first_run zero l h = refl
  first_run (suc k) [] h = absurd (omega arith)
  first_run (suc k) (b ∷ l) h = go (p b) h (first_run k l)
    where
      go : (c : Bool) → suc k ≤ length (cond c (b ∷ take_while p l) []) → (k ≤ length (take_while p l) → take_while p (take k l) ≡ take k l) → cond c (b ∷ take_while p (take k l)) [] ≡ b ∷ take k l
      go true h r = ap {B = List ℕ} (λ x. b ∷ x) (r (omega arith))
      go false h r = absurd (omega arith)

  two_runs : (k : ℕ) (l : List ℕ) → k ≤ length (take_while p l) → take_while p l ≡ take k l ++ take_while p (drop k l)
  two_runs zero l h = refl
  two_runs (suc k) [] h = absurd (omega arith)
  two_runs (suc k) (b ∷ l) h = go (p b) h (two_runs k l)
    where
      go : (c : Bool) → suc k ≤ length (cond c (b ∷ take_while p l) []) → (k ≤ length (take_while p l) → take_while p l ≡ take k l ++ take_while p (drop k l)) → cond c (b ∷ take_while p l) [] ≡ b ∷ (take k l ++ take_while p (drop k l))
      go true h r = ap {B = List ℕ} (λ x. b ∷ x) (r (omega arith))
      go false h r = absurd (omega arith)

  enough : (k : ℕ) (l : List ℕ) → k ≤ length (take_while p l) → k ≤ length l
  enough k l h = omega (arith, ap length (while_good p l), length-append (take_while p l) (drop_while p l))

-- ---- the number that digits write
pub decimal_append : (v : ℕ) (ds es : List ℕ) → decimal (decimal v ds) es ≡ decimal v (ds ++ es)
unfolding decimal
decimal_append v [] es = refl
decimal_append v (d ∷ ds) es = decimal_append (v * 10 + (d - 48)) ds es

-- digits after a number move it up by as many places, and what they write by themselves is below one of its units
pub record Places (v : ℕ) (ds : List ℕ) : Type 0 where
  pub rest : ℕ
  pub is : decimal v ds ≡ v * 10 ^ length ds + rest
  pub below : rest < 10 ^ length ds

digit_low : (b : ℕ) → digit b ≡ true → b - 48 ≤ 9
digit_low b e = omega (arith, leb-true b 57 ((and-eq-true_iff (leb 48 b) (leb b 57)).0 e).1)

pub moved_up : (v : ℕ) (l : List ℕ) → Places v (take_while digit l)
unfolding decimal
moved_up v [] = record { rest = 0; is = omega arith; below = omega arith }
moved_up v (b ∷ l) = go (digit b) refl (moved_up (v * 10 + (b - 48)) l)
  where
    go : (c : Bool) → digit b ≡ c → Places (v * 10 + (b - 48)) (take_while digit l) → Places v (cond c (b ∷ take_while digit l) [])
    go true e q =
        let K = 10 ^ length (take_while digit l) in
        let n = N.pow-succ' 10 (length (take_while digit l)) in
        let m : (b - 48) * K ≤ 9 * K = N.mul-le-mul (digit_low b e) (N.le_refl K) in
        record { rest = (b - 48) * K + q.rest; is = q.is ∙ rw n (omega arith); below = rw n (omega (arith, q.below)) }
    go false e q = record { rest = 0; is = omega arith; below = omega arith }

-- of five decimals and more, those of d, the first five tell the value
pub first_five : (g : Bool) (v : ℕ) (d : List ℕ) → 5 ≤ length (take_while digit d) →
    written g (decimal v (take_while digit (take 5 d))) 5 ≡ written g (decimal v (take_while digit d)) (length (take_while digit d))
first_five g v d h =
    let five = take 5 d in
    let later = take_while digit (drop 5 d) in
    let m = moved_up (decimal v five) (drop 5 d) in
    let l : length five ≡ 5 = length-take-le 5 d (enough digit 5 d h) in
    rw (first_run digit 5 d h, two_runs digit 5 d h, ← decimal_append v five later, length-append five later)
    (sym (after_fifth g (decimal v five) (length later) m.rest m.below)
    ∙ ap (λ (n : ℕ). written g n (5 + length later)) (sym m.is)
    ∙ ap (λ (k : ℕ). written g (decimal (decimal v five) later) (k + length later)) (sym l))

-- ---- at a place of a line
pub take_on : (at k : ℕ) (s : List ℕ) → drop at (take (at + k) s) ≡ take k (drop at s)
take_on zero k s = ap (λ (x : ℕ). take x s) (N.zero-add k)
take_on (suc at) k [] = rw (N.suc-add at k) (sym (take-nil k))
take_on (suc at) k (b ∷ s) = rw (N.suc-add at k) (take_on at k s)
