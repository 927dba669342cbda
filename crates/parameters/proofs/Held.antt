-- What record and table hold under each number: every number has its one place, and what stands there is allowed.
-- Assumes nothing.
use mathlib.Core.Path.{◌≡◌, refl, sym, ap, subst}
use mathlib.Core.Bool.{Bool, true, false, cond, not, ◌||◌}
use mathlib.Core.List.{List, [], ◌∷◌}
use Prim.Native.Nat.{ℕ, zero, suc, ◌-◌, ◌/◌, ◌%◌, ◌≤◌, ◌<◌}
use native.Mathlib.Omega.{arith}
use lib.Dec.{T, eqb, leb, ltb, eqb→eq, leb→le}
use lib.ListN.{length, get_or, drop}
use lib.IntN.{ℤ, pos}
use borrow.Author.Tests.{le-leb}
use Rattle.laws.proofs.Bools.{and_left, and_right, below, all_below}
use Rattle.grammar.specs.Bytes.{among}
use Rattle.rules.specs.Numbers.{in_range, within}
use Rattle.rules.specs.Codes.{systems, g_group, further, place_in, system_number}
use Rattle.rules.specs.Steps.{origin_place}
use Rattle.rules.specs.Reach.{in_reach, at}
use Rattle.rules.specs.declared.Length.{Length}
use Rattle.rules.specs.declared.Record.{Record}
use Rattle.rules.proofs.Index.{system_listed}
use Rattle.record.proofs.InOrder.{InOrder}
use Rattle.parameters.specs.Places.{stands_for, origin_at, lies, offset_number, origin_number, allowed}
use Rattle.parameters.specs.declared.places.Place.{Place}
use Rattle.parameters.specs.declared.places.Place.TheVariants.{Entry as entry, Offset as offset, Origin as origin, System as system, Passed as passed}
use Rattle.parameters.specs.Reading.{system_code}
use Rattle.parameters.specs.Writing.{held_at, held, all_in_range}

-- ---- every place has its number
pub entry_place : (n : ℕ) → 1 ≤ n → n ≤ 4999 → stands_for n ≡ entry n
unfolding stands_for
entry_place n h l = rw (le-leb 1 n h, le-leb n 4999 l)

pub system_place : stands_for 5220 ≡ system
unfolding stands_for
system_place = refl

pub offset_place : (i : ℕ) → i < 3 → stands_for (offset_number i) ≡ offset i
unfolding stands_for
offset_place zero h = refl
offset_place (suc zero) h = refl
offset_place (suc (suc zero)) h = refl
offset_place (suc (suc (suc i))) h = absurd (omega arith)

abbrev is_origin : Place → ℕ → Bool
is_origin (entry n) i = false
is_origin (offset j) i = false
is_origin (origin j) i = eqb j i
is_origin system i = false
is_origin passed i = false

is_origin_holds : (p : Place) (i : ℕ) → T (is_origin p i) → p ≡ origin i
is_origin_holds (entry n) i t = absurd t
is_origin_holds (offset j) i t = absurd t
is_origin_holds (origin j) i t = ap origin (eqb→eq j i t)
is_origin_holds system i t = absurd t
is_origin_holds passed i t = absurd t

origins_tested : T (all_below (λ i. is_origin (stands_for (origin_number i)) i) 27)
unfolding stands_for
origins_tested = tt

pub origin_place_holds : (i : ℕ) → i < 27 → stands_for (origin_number i) ≡ origin i
origin_place_holds i h = is_origin_holds (stands_for (origin_number i)) i (below (λ j. is_origin (stands_for (origin_number j)) j) 27 origins_tested i h)

-- ---- systems
place_found : (xs : List ℕ) (c : ℕ) → T (among c xs) → (1 ≤ place_in xs c) × (place_in xs c ≤ length xs) × (get_or xs (place_in xs c - 1) 540 ≡ c)
place_found [] c t = absurd t
place_found (x ∷ xs) c t = go (eqb c x) refl t (λ u. place_found xs c u)
  where
    past : (n : ℕ) → (1 ≤ n) × (n ≤ length xs) × (get_or xs (n - 1) 540 ≡ c) → (1 ≤ further n) × (further n ≤ suc (length xs)) × (get_or (x ∷ xs) (further n - 1) 540 ≡ c)
    past zero h = absurd (omega (arith, h.0))
    past (suc n) h =
        let e : suc (suc n) - 1 ≡ suc n = omega arith in
        let e' : suc n - 1 ≡ n = omega arith in
        (omega arith, omega (arith, h.1), rw e (rw e' at h.2))

    go : (b : Bool) → eqb c x ≡ b → T (b || among c xs) → (T (among c xs) → (1 ≤ place_in xs c) × (place_in xs c ≤ length xs) × (get_or xs (place_in xs c - 1) 540 ≡ c))
        → (1 ≤ cond b 1 (further (place_in xs c))) × (cond b 1 (further (place_in xs c)) ≤ suc (length xs)) × (get_or (x ∷ xs) (cond b 1 (further (place_in xs c)) - 1) 540 ≡ c)
    go true e u f = (omega arith, omega arith, sym (eqb→eq c x (subst T (sym e) tt)))
    go false e u f = past (place_in xs c) (f u)

pub system_back : (c : ℕ) → g_group c ≡ 12 → system_code (system_number c) ≡ c
unfolding system_number
system_back c e = (place_found systems c (system_listed c e)).2

system_allowed : (c : ℕ) → g_group c ≡ 12 → T (allowed system (pos (system_number c)))
unfolding system_number
system_allowed c e =
    let f = place_found systems c (system_listed c e) in
    rw (le-leb 1 (place_in systems c) f.0, le-leb (place_in systems c) 9 f.1) tt

-- ---- lengths and entries
reach_at : (ls : List Length) (i : ℕ) → T (in_reach ls) → T (within 1000000000 (at ls i).0)
reach_at [] i t = tt
reach_at (l ∷ ls) zero t = and_left (within 1000000000 l.0) (in_reach ls) t
reach_at (l ∷ ls) (suc i) t = reach_at ls i (and_right (within 1000000000 l.0) (in_reach ls) t)

range_at : (zs : List ℤ) (i : ℕ) → T (all_in_range zs) → T (in_range (get_or zs i (pos 0)))
range_at [] i t = tt
range_at (z ∷ zs) zero t = and_left (in_range z) (all_in_range zs) t
range_at (z ∷ zs) (suc i) t = range_at zs i (and_right (in_range z) (all_in_range zs) t)

entry_allowed : (table : List ℤ) (n : ℕ) → 1 ≤ n → T (all_in_range (drop 1 table)) → T (in_range (get_or table n (pos 0)))
entry_allowed table zero h t = absurd (omega arith)
entry_allowed [] (suc n) h t = tt
entry_allowed (z ∷ zs) (suc n) h t = range_at zs n t

pub cond_ind : {A : Type 0} (c : Bool) (x y : A) (P : A → Type 0) → (T c → P x) → (T (not c) → P y) → P (cond c x y)
cond_ind true x y P f g = f tt
cond_ind false x y P f g = g tt

yes : {b : Bool} → b ≡ true → T b
yes e = rw e tt

pub held_allowed : (r : Record) (table : List ℤ) → InOrder r → T (all_in_range (drop 1 table)) → (n : ℕ) → T (allowed (stands_for n) (held r table n))
unfolding held stands_for
held_allowed r table o t n =
    let P : Place → Type 0 = λ p. T (allowed p (held_at r table p)) in
    cond_ind (lies 1 4999 n) (entry n) _ P
    (λ u. entry_allowed table n (leb→le 1 n (and_left (leb 1 n) (leb n 4999) u)) t)
    (λ _. cond_ind (lies 5211 5213 n) (offset (n - 5211)) _ P
    (λ _. reach_at r.offset (n - 5211) (yes o.offset))
    (λ _. cond_ind (eqb n 5220) system _ P
    (λ _. system_allowed r.system o.system)
    (λ _. cond_ind (lies 5221 5383 n) (origin_at (n - 5221)) passed P
    (λ _. cond_ind (ltb ((n - 5221) % 20) 3) (origin (origin_place (suc ((n - 5221) / 20)) ((n - 5221) % 20))) passed P
    (λ _. reach_at r.origins (origin_place (suc ((n - 5221) / 20)) ((n - 5221) % 20)) (yes o.origins))
    (λ _. tt))
    (λ _. tt))))
