-- Words held side by side, the words that a loop still has ahead of it, and words of the grammar's letters.
-- Assumes nothing.
use mathlib.Core.Path.{◌≡◌, refl, sym, ap, ◌∙◌}
use mathlib.Core.Bool.{Bool, true, false, cond}
use mathlib.Core.List.{List, [], ◌∷◌, map}
use Prim.Native.Nat.{ℕ, zero, suc, ◌+◌, ◌≤◌, ◌<◌, min}
use native.Mathlib.Nat.{zero-min, min-zero, suc-min-suc, min-le_left, min-le_right}
use native.Mathlib.Numerals.{add-one}
use native.Mathlib.Omega.{arith}
use lib.Dec.{T}
use lib.IntN.{ℤ, pos}
use lib.ListN.{length, take, drop, get_or, drop_of_length-le}
use lib.Seq.{drop-cons, length-take-le}
use Rattle.laws.proofs.Bools.{and_left, and_right}
use Rattle.grammar.specs.Bytes.{all}
use Rattle.grammar.specs.Grammar.{letter}
use Rattle.rules.specs.Meaning.{Said}
use Rattle.summary.specs.Words.{said, lettered}

-- ---- the words in the first places of longer spaces
pub said_count : (n : ℕ) (ls : List ℕ) (vs : List ℤ) → length (said (take n ls) (take n vs)) ≡ min n (min (length ls) (length vs))
said_count zero ls vs = sym (zero-min (min (length ls) (length vs)))
said_count (suc n) [] vs = rw (zero-min (length vs), min-zero (suc n)) refl
said_count (suc n) (l ∷ ls) [] = rw (min-zero (suc (length ls)), min-zero (suc n)) refl
said_count (suc n) (l ∷ ls) (v ∷ vs) = rw (suc-min-suc (length ls) (length vs), suc-min-suc n (min (length ls) (length vs))) (ap suc (said_count n ls vs))

-- as many places as there are words hold the same words
pub said_front : (count : ℕ) (ls : List ℕ) (vs : List ℤ) {n : ℕ} → n ≡ length (said (take count ls) (take count vs)) → said (take n ls) (take n vs) ≡ said (take count ls) (take count vs)
said_front count ls vs e = rw e (go count ls vs)
  where
    go : (count : ℕ) (ls : List ℕ) (vs : List ℤ) → said (take (length (said (take count ls) (take count vs))) ls) (take (length (said (take count ls) (take count vs))) vs) ≡ said (take count ls) (take count vs)
    go zero ls vs = refl
    go (suc n) [] vs = refl
    go (suc n) (l ∷ ls) [] = refl
    go (suc n) (l ∷ ls) (v ∷ vs) = ap (λ (ws : List Said). record { letter = l; value = v } ∷ ws) (go n ls vs)

-- and both spaces have them
pub front_fits : (count : ℕ) (ls : List ℕ) (vs : List ℤ) {n : ℕ} → n ≡ length (said (take count ls) (take count vs)) → (n ≤ length ls) × (n ≤ length vs)
front_fits count ls vs {n} e =
    let k = said_count count ls vs in
    let l = min-le_right count (min (length ls) (length vs)) in
    (omega (arith, k, l, min-le_left (length ls) (length vs)), omega (arith, k, l, min-le_right (length ls) (length vs)))

pub front_even : (count : ℕ) (ls : List ℕ) (vs : List ℤ) {n : ℕ} → n ≡ length (said (take count ls) (take count vs)) → length (take n ls) ≡ length (take n vs)
front_even count ls vs {n} e =
    let h = front_fits count ls vs e in
    length-take-le n ls h.0 ∙ sym (length-take-le n vs h.1)

-- ---- the words from place i on
abbrev pub from : List ℕ → List ℤ → ℕ → List Said
from ls vs i = said (drop i ls) (drop i vs)

-- none are left past the end
pub all_passed : (ls : List ℕ) (vs : List ℤ) (i : ℕ) → length ls ≤ i → from ls vs i ≡ []
all_passed ls vs i h = rw (drop_of_length-le ls h) refl

-- the word at place i, and those behind it
pub next : (ls : List ℕ) (vs : List ℤ) (i : ℕ) → i < length ls → i < length vs → from ls vs i ≡ record { letter = get_or ls i 0; value = get_or vs i (pos 0) } ∷ from ls vs (i + 1)
next ls vs i h g = rw (drop-cons ls i 0 h, drop-cons vs i (pos 0) g, add-one i) refl

-- ---- words of the grammar's letters
abbrev pub AllLettered : List Said → Type 0
AllLettered ws = T (all letter (map (λ (w : Said). w.letter) ws))

-- where all are, none is passed over
pub lettered_all : (ws : List Said) → AllLettered ws → lettered ws ≡ ws
lettered_all [] t = refl
lettered_all (w ∷ ws) t = go (letter w.letter) (and_left (letter w.letter) _ t) (lettered_all ws (and_right (letter w.letter) _ t))
  where
    go : (b : Bool) → T b → lettered ws ≡ ws → cond b (w ∷ lettered ws) (lettered ws) ≡ w ∷ ws
    go true s e = ap (λ (us : List Said). w ∷ us) e
    go false s e = absurd s

-- what is not passed over is such
pub all_lettered : (ws : List Said) → AllLettered (lettered ws)
all_lettered [] = tt
all_lettered (w ∷ ws) = go (letter w.letter) refl (all_lettered ws)
  where
    go : (b : Bool) → letter w.letter ≡ b → AllLettered (lettered ws) → AllLettered (cond b (w ∷ lettered ws) (lettered ws))
    go true e t = rw e t
    go false e t = t
