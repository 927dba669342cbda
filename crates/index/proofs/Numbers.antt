-- Numbers and the entries that they hold, three numbers each: entry i is the three numbers from 3 i on, so that what is moved or written there tells the entries.
-- Assumes nothing.
use mathlib.Core.Path.{◌≡◌, refl, sym, ap, ap₂, ◌∙◌}
use mathlib.Core.List.{List, [], ◌∷◌, ◌++◌, append_assoc}
use Rattle.std.specs.List.{copy_within}
use Prim.Native.Nat.{ℕ, zero, suc, ◌+◌, ◌-◌, ◌*◌, ◌≤◌, ◌<◌}
use native.Mathlib.Omega.{arith}
use lib.ListN.{length, take, drop, get_or, set, length-drop}
use lib.Seq.{length-take-le, take_all}
use Rattle.std.proofs.lemmas.List.{take-append-le}
use Rattle.index.specs.Index.{place, Entry}
use Rattle.index.specs.Held.{held, kept, flat, nth}

three_more : (i : ℕ) → 3 * suc i ≡ suc (suc (suc (3 * i)))
three_more i = omega arith

-- ---- there and back

pub flat_long : (es : List Entry) → length (flat es) ≡ 3 * length es
flat_long [] = refl
flat_long (e ∷ es) = let h = flat_long es in omega arith

pub held_flat : (es : List Entry) → held (flat es) ≡ es
held_flat [] = refl
held_flat (e ∷ es) = ap (λ (x : List Entry). e ∷ x) (held_flat es)

pub flat_held : (i : ℕ) (l : List ℕ) → length l ≡ 3 * i → flat (held l) ≡ l
flat_held i [] h = refl
flat_held i (n ∷ []) h = absurd (omega arith)
flat_held i (n ∷ k ∷ []) h = absurd (omega arith)
flat_held i (n ∷ k ∷ at ∷ l) h = ap (λ (x : List ℕ). n ∷ k ∷ at ∷ x) (flat_held (i - 1) l (omega arith))

pub held_long : (l : List ℕ) → (3 * length (held l) ≤ length l) × (length l < 3 * length (held l) + 3)
held_long [] = (omega arith, omega arith)
held_long (n ∷ []) = (omega arith, omega arith)
held_long (n ∷ k ∷ []) = (omega arith, omega arith)
held_long (n ∷ k ∷ at ∷ l) = let h = held_long l in (omega arith, omega arith)

-- ---- a part of them

pub held_take : (i : ℕ) (l : List ℕ) → held (take (3 * i) l) ≡ take i (held l)
held_take zero l = refl
held_take (suc i) [] = ap (λ (x : ℕ). held (take x [])) (three_more i)
held_take (suc i) (n ∷ []) = ap (λ (x : ℕ). held (take x (n ∷ []))) (three_more i)
held_take (suc i) (n ∷ k ∷ []) = ap (λ (x : ℕ). held (take x (n ∷ k ∷ []))) (three_more i)
held_take (suc i) (n ∷ k ∷ at ∷ l) =
    ap (λ (x : ℕ). held (take x (n ∷ k ∷ at ∷ l))) (three_more i) ∙ ap (λ (x : List Entry). record { number = n; place = place k at } ∷ x) (held_take i l)

pub held_drop : (i : ℕ) (l : List ℕ) → held (drop (3 * i) l) ≡ drop i (held l)
held_drop zero l = refl
held_drop (suc i) [] = ap (λ (x : ℕ). held (drop x [])) (three_more i)
held_drop (suc i) (n ∷ []) = ap (λ (x : ℕ). held (drop x (n ∷ []))) (three_more i)
held_drop (suc i) (n ∷ k ∷ []) = ap (λ (x : ℕ). held (drop x (n ∷ k ∷ []))) (three_more i)
held_drop (suc i) (n ∷ k ∷ at ∷ l) = ap (λ (x : ℕ). held (drop x (n ∷ k ∷ at ∷ l))) (three_more i) ∙ held_drop i l

pub held_append : (i : ℕ) (l m : List ℕ) → length l ≡ 3 * i → held (l ++ m) ≡ held l ++ held m
held_append i [] m h = refl
held_append i (n ∷ []) m h = absurd (omega arith)
held_append i (n ∷ k ∷ []) m h = absurd (omega arith)
held_append i (n ∷ k ∷ at ∷ l) m h = ap (λ (x : List Entry). record { number = n; place = place k at } ∷ x) (held_append (i - 1) l m (omega arith))

-- ---- an entry read

-- the entry whose numbers stand from 3 i on
abbrev pub entry_from : List ℕ → ℕ → Entry
entry_from l i = record { number = get_or l (3 * i) 0; place = place (get_or l (3 * i + 1) 0) (get_or l (3 * i + 2) 0) }

pub held_at : (l : List ℕ) (i : ℕ) → i < length (held l) → nth (held l) i ≡ entry_from l i
held_at [] i h = absurd (omega arith)
held_at (n ∷ []) i h = absurd (omega arith)
held_at (n ∷ k ∷ []) i h = absurd (omega arith)
held_at (n ∷ k ∷ at ∷ l) zero h = refl
held_at (n ∷ k ∷ at ∷ l) (suc i) h =
    let m : List ℕ = n ∷ k ∷ at ∷ l in
    let b : suc (suc (suc (3 * i + 1))) ≡ 3 * suc i + 1 = omega arith in
    let c : suc (suc (suc (3 * i + 2))) ≡ 3 * suc i + 2 = omega arith in
    held_at l i (omega arith)
    ∙ ap (λ (x : ℕ). let z : Entry = record { number = get_or m x 0; place = place (get_or l (3 * i + 1) 0) (get_or l (3 * i + 2) 0) } in z) (sym (three_more i))
    ∙ ap (λ (x : ℕ). let z : Entry = record { number = get_or m (3 * suc i) 0; place = place (get_or m x 0) (get_or l (3 * i + 2) 0) } in z) b
    ∙ ap (λ (x : ℕ). let z : Entry = record { number = get_or m (3 * suc i) 0; place = place (get_or m (3 * suc i + 1) 0) (get_or m x 0) } in z) c

-- ---- numbers written and moved

-- three numbers written are an entry written
pub held_set : (l : List ℕ) (i : ℕ) (e : Entry) → 3 * i + 3 ≤ length l
    → held (set (set (set l (3 * i) e.number) (3 * i + 1) e.place.line) (3 * i + 2) e.place.start) ≡ set (held l) i e
held_set [] i e h = absurd (omega arith)
held_set (n ∷ []) i e h = absurd (omega arith)
held_set (n ∷ k ∷ []) i e h = absurd (omega arith)
held_set (n ∷ k ∷ at ∷ l) zero e h = refl
held_set (n ∷ k ∷ at ∷ l) (suc i) e h =
    let m : List ℕ = n ∷ k ∷ at ∷ l in
    let b : 3 * suc i + 1 ≡ suc (suc (suc (3 * i + 1))) = omega arith in
    let c : 3 * suc i + 2 ≡ suc (suc (suc (3 * i + 2))) = omega arith in
    ap (λ (x : ℕ). held (set (set (set m x e.number) (3 * suc i + 1) e.place.line) (3 * suc i + 2) e.place.start)) (three_more i)
    ∙ ap₂ (λ (x y : ℕ). held (set (set (n ∷ k ∷ at ∷ set l (3 * i) e.number) x e.place.line) y e.place.start)) b c
    ∙ ap (λ (x : List Entry). record { number = n; place = place k at } ∷ x) (held_set l i e (omega arith))

-- entries moved
pub held_within : (l : List ℕ) (a b d : ℕ) → a ≤ b → 3 * b ≤ length l → 3 * (d + (b - a)) ≤ length l → held (copy_within l (3 * a) (3 * b) (3 * d)) ≡ copy_within (held l) a b d
held_within l a b d h k m =
    let n : 3 * b - 3 * a ≡ 3 * (b - a) = omega arith in
    let p : 3 * d + (3 * b - 3 * a) ≡ 3 * (d + (b - a)) = omega arith in
    let low : length (take (3 * d) l) ≡ 3 * d = length-take-le (3 * d) l (omega arith) in
    let mid : length (take (3 * (b - a)) (drop (3 * a) l)) ≡ 3 * (b - a) = length-take-le (3 * (b - a)) (drop (3 * a) l) (omega (arith, length-drop (3 * a) l)) in
    ap₂ (λ (x y : ℕ). held (take (3 * d) l ++ take x (drop (3 * a) l) ++ drop y l)) n p
    ∙ ap held (append_assoc (take (3 * d) l) (take (3 * (b - a)) (drop (3 * a) l)) (drop (3 * (d + (b - a))) l))
    ∙ held_append d (take (3 * d) l) (take (3 * (b - a)) (drop (3 * a) l) ++ drop (3 * (d + (b - a))) l) low
    ∙ ap₂ (λ (x y : List Entry). x ++ y) (held_take d l)
    (held_append (b - a) (take (3 * (b - a)) (drop (3 * a) l)) (drop (3 * (d + (b - a))) l) mid
    ∙ ap₂ (λ (x y : List Entry). x ++ y) (held_take (b - a) (drop (3 * a) l) ∙ ap (take (b - a)) (held_drop a l)) (held_drop (d + (b - a)) l))
    ∙ sym (append_assoc (take d (held l)) (take (b - a) (drop a (held l))) (drop (d + (b - a)) (held l)))

-- all of them
pub held_all : (l : List ℕ) → kept l (length (held l)) ≡ held l
held_all l = held_take (length (held l)) l ∙ take_all (length (held l)) (held l) (omega arith)

-- ---- the front of a space

pub kept_long : (l : List ℕ) (count : ℕ) → 3 * count ≤ length l → length (kept l count) ≡ count
kept_long l count h = let w = held_long (take (3 * count) l) in omega (arith, length-take-le (3 * count) l h)

-- numbers put in there
pub kept_front : (l rest : List ℕ) → kept (l ++ rest) (length (held l)) ≡ held l
kept_front l rest = ap held (take-append-le (3 * length (held l)) l rest (held_long l).0) ∙ held_all l

-- the numbers there are those of its entries
pub flat_kept : (l : List ℕ) (count : ℕ) → 3 * count ≤ length l → take (3 * count) l ≡ flat (kept l count)
flat_kept l count h = sym (flat_held count (take (3 * count) l) (length-take-le (3 * count) l h))
