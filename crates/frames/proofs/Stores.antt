-- Runs of stores into a text, one after the other.
-- Assumes nothing.
use mathlib.Core.Path.{◌≡◌, refl, ap, sym, ◌∙◌}
use mathlib.Core.List.{List, [], ◌∷◌, ◌++◌}
use Prim.Native.Nat.{ℕ, suc, ◌+◌, ◌≤◌}
use native.Mathlib.Omega.{arith}
use lib.ListN.{length, length-append, set}
use lib.Seq.{sets, set_comm}

-- two runs, the second where the first ends
pub sets_append : (a b l : List ℕ) (i : ℕ) → sets l i (a ++ b) ≡ sets (sets l i a) (i + length a) b
sets_append [] b l i =
    let e : i + 0 ≡ i = omega arith in
    rw e
sets_append (x ∷ a) b l i =
    let e : i + suc (length a) ≡ suc i + length a = omega arith in
    sets_append a b (set l i x) (suc i) ∙ ap (λ (k : ℕ). sets (sets (set l i x) (suc i) a) k b) (sym e)

-- a store behind a run may as well come before it
pub set_behind : (a l : List ℕ) (i j x : ℕ) → i + length a ≤ j → set (sets l i a) j x ≡ sets (set l j x) i a
set_behind [] l i j x h = refl
set_behind (y ∷ a) l i j x h =
    set_behind a (set l i y) (suc i) j x (omega arith)
    ∙ ap (λ (m : List ℕ). sets m (suc i) a) (set_comm l i j y x (λ e. omega arith))

-- and so may a run
pub run_behind : (a b l : List ℕ) (i j : ℕ) → i + length a ≤ j → sets (sets l j b) i a ≡ sets (sets l i a) j b
run_behind a [] l i j h = refl
run_behind a (x ∷ b) l i j h =
    run_behind a b (set l j x) i (suc j) (omega arith) ∙ ap (λ (m : List ℕ). sets m (suc j) b) (sym (set_behind a l i j x h))

-- two runs and one store after them
pub closed_run : {t t' : List ℕ} {n m : ℕ} (a b l : List ℕ) (i x : ℕ) → t ≡ sets l i a → t' ≡ sets t (i + n) b → length a ≡ n → length b ≡ m
    → set t' (i + n + m) x ≡ sets l i (a ++ b ++ x ∷ [])
closed_run {t} {t'} {n} {m} a b l i x ht ht' hn hm =
    let p : i + n ≡ i + length a = omega arith in
    let q : i + n + m ≡ i + length (a ++ b) = omega (arith, length-append a b) in
    let both : t' ≡ sets l i (a ++ b) =
    ht' ∙ ap (λ (s : List ℕ). sets s (i + n) b) ht ∙ ap (λ (k : ℕ). sets (sets l i a) k b) p ∙ sym (sets_append a b l i) in
    ap (λ (s : List ℕ). set s (i + n + m) x) both ∙ ap (λ (k : ℕ). set (sets l i (a ++ b)) k x) q ∙ sym (sets_append (a ++ b) (x ∷ []) l i)
