-- The index never merges. A value at most 0.0001 from a code's number is that code, however it is written; no value is two codes; what is near none is none.
-- The nine work systems are nine: G59 is 6, G59.1 is 7, and each has origins of its own. The codes served are those listed, each in one group.
-- Assumes nothing.
use mathlib.Core.Path.{◌≡◌, refl, ap, ◌∙◌, sym, subst}
use mathlib.Core.Bool.{Bool, true, false, cond, not, ◌&&◌, ◌||◌}
use mathlib.Core.List.{List, [], ◌∷◌, ◌++◌, map}
use Prim.Native.Nat.{ℕ, zero, suc, ◌+◌, ◌-◌, ◌*◌, ◌≤◌, ◌<◌}
use native.Mathlib.Omega.{arith}
use lib.ListN.{length, set, get_or-eq_default}
use lib.Seq.{set_out}
use lib.Dec.{T, eqb, leb, eqb→eq, eqb_refl, T_not, leb→le}
use lib.IntN.{ℤ, pos, negsuc, nat_abs, ◌-ℤ◌, ◌*ℤ◌}
use borrow.Author.Tests.{le-leb, leb-true}
use Rattle.std.specs.Prelude.{Option, None, Some, option_map}
use Rattle.std.proofs.lemmas.Option.{none-some, same_Some}
use Rattle.laws.proofs.Bools.{and_left, and_right, T-eq}
use Rattle.grammar.specs.Bytes.{among, all}
use Rattle.rules.specs.Numbers.{nearest, near, within, between}
use Rattle.rules.specs.Codes.{Group, ◌holds◌, not_served, listed_in, systems, g_groups, m_groups, g_group, m_group, code_up_to, g_code, m_code, further, place_in, system_number}
use Rattle.rules.specs.Block.{twice}
use Rattle.rules.specs.Reach.{nowhere, at}
use Rattle.rules.specs.Steps.{origin_place}
use Rattle.rules.specs.declared.Length.{Length}
use Rattle.rules.proofs.Nearest.{Nearest, nearest_is}

-- ---- values and codes, once for any step between codes (1,000 ten-thousandths for G, 10,000 for M)

-- v is at most one ten-thousandth from the number of code c
abbrev pub Close : ℕ → ℕ → ℤ → Type 0
Close step c v = nat_abs (v -ℤ pos (c * step)) ≤ 1

close_nearest : (step c : ℕ) (v : ℤ) → 2 < step → Close step c v → Nearest v (pos step) (pos c)
close_nearest step c v h p = record { near = omega arith; away = λ t. absurd (omega arith) }

-- no value is two codes
pub close_one : (step c d : ℕ) (v : ℤ) → 2 < step → Close step c v → Close step d v → c ≡ d
close_one step c d v h p q =
    ap nat_abs (nearest_is v (pos step) (pos c) (omega arith) (close_nearest step c v h p) ∙ sym (nearest_is v (pos step) (pos d) (omega arith) (close_nearest step d v h q)))

-- a value at most 0.0001 from a code's number is that code
pub near_is : (step c : ℕ) (v : ℤ) → 2 < step → Close step c v → near step v ≡ Some (pos c)
unfolding near
near_is step c v h p = rw (← nearest_is v (pos step) (pos c) (omega arith) (close_nearest step c v h p), le-leb (nat_abs (v -ℤ pos (c * step))) 1 p)

module _ (step last : ℕ) (h : 2 < step) where
  pub code_is : (c : ℕ) (v : ℤ) → c ≤ last → Close step c v → code_up_to last (near step v) ≡ Some c
  code_is c v l p = rw (near_is step c v h p, le-leb 0 c (omega arith), le-leb c last l)

  -- and is a code only then
  pub code_only : (c : ℕ) (v : ℤ) → code_up_to last (near step v) ≡ Some c → (c ≤ last) × Close step c v
  unfolding near
  code_only c v e = go (within 1 (v -ℤ nearest v (pos step) *ℤ pos step)) refl (nearest v (pos step)) refl e
    where
      inside : (k : ℕ) → nearest v (pos step) ≡ pos k → within 1 (v -ℤ nearest v (pos step) *ℤ pos step) ≡ true → (b : Bool) → between 0 last (Some (pos k)) ≡ b → cond b (Some k) None ≡ Some c → (c ≤ last) × Close step c v
      inside k n w true l e =
          let same : k ≡ c = same_Some k c e in
          (rw (← same) (leb→le k last (and_right (leb 0 k) (leb k last) (subst T (sym l) tt))), rw (← same) (leb-true (nat_abs (v -ℤ pos (k * step))) 1 (rw n at w)))
      inside k n w false l e = absurd (none-some c e)

      go : (b : Bool) → within 1 (v -ℤ nearest v (pos step) *ℤ pos step) ≡ b → (k : ℤ) → nearest v (pos step) ≡ k → code_up_to last (cond b (Some k) None) ≡ Some c → (c ≤ last) × Close step c v
      go false w k n e = absurd (none-some c e)
      go true w (negsuc k) n e = absurd (none-some c e)
      go true w (pos k) n e = inside k n w (between 0 last (Some (pos k))) refl e

  -- what is near no code of the table is none
  pub code_none : (v : ℤ) → ((c : ℕ) → c ≤ last → Close step c v → ⊥) → code_up_to last (near step v) ≡ None
  code_none v far = go (near step v) refl
    where
      inside : (k : ℕ) → near step v ≡ Some (pos k) → (b : Bool) → between 0 last (Some (pos k)) ≡ b → cond b (Some k) None ≡ None
      inside k q true l = let w = code_only k v (rw (q, l)) in absurd (far k w.0 w.1)
      inside k q false l = refl

      go : (n : Option ℤ) → near step v ≡ n → code_up_to last n ≡ None
      go None q = refl
      go (Some (negsuc k)) q = refl
      go (Some (pos k)) q = inside k q (between 0 last (Some (pos k))) refl

-- ---- G and M

-- "a G number likewise at the nearest tenth": every G code, c being ten times the code
pub g_is : (c : ℕ) (v : ℤ) → c ≤ 999 → Close 1000 c v → g_code v ≡ Some c
unfolding g_code
g_is c v l p = code_is 1000 999 (omega arith) c v l p

pub g_only : (c : ℕ) (v : ℤ) → g_code v ≡ Some c → (c ≤ 999) × Close 1000 c v
unfolding g_code
g_only c v e = code_only 1000 999 (omega arith) c v e

-- "A code outside its table, or near no tenth (M: no whole number), is not served"
pub g_none : (v : ℤ) → ((c : ℕ) → c ≤ 999 → Close 1000 c v → ⊥) → g_code v ≡ None
unfolding g_code
g_none v far = code_none 1000 999 (omega arith) v far

pub m_is : (c : ℕ) (v : ℤ) → c ≤ 99 → Close 10000 c v → m_code v ≡ Some c
unfolding m_code
m_is c v l p = code_is 10000 99 (omega arith) c v l p

pub m_only : (c : ℕ) (v : ℤ) → m_code v ≡ Some c → (c ≤ 99) × Close 10000 c v
unfolding m_code
m_only c v e = code_only 10000 99 (omega arith) c v e

pub m_none : (v : ℤ) → ((c : ℕ) → c ≤ 99 → Close 10000 c v → ⊥) → m_code v ≡ None
unfolding m_code
m_none v far = code_none 10000 99 (omega arith) v far

-- ---- the groups, once for any list of them in which none has the number that stands for "not served"

-- all codes listed, and those of group g
abbrev pub listed : List Group → List ℕ
listed [] = []
listed ((g holds codes) ∷ gs) = codes ++ listed gs

abbrev pub codes_of : ℕ → List Group → List ℕ
codes_of g [] = []
codes_of g ((k holds codes) ∷ gs) = cond (eqb k g) (codes ++ codes_of g gs) (codes_of g gs)

-- every code listed has the group that lists it
abbrev pub filed : (ℕ → ℕ) → List Group → Bool
filed group [] = true
filed group ((g holds codes) ∷ gs) = all (λ c. eqb (group c) g) codes && filed group gs

abbrev numbered : List Group → Bool
numbered [] = true
numbered ((g holds codes) ∷ gs) = not (eqb g not_served) && numbered gs

among_append : (c : ℕ) (xs ys : List ℕ) → among c (xs ++ ys) ≡ (among c xs || among c ys)
among_append c [] ys = refl
among_append c (x ∷ xs) ys = go (eqb c x) (among_append c xs ys)
  where
    go : (b : Bool) → among c (xs ++ ys) ≡ (among c xs || among c ys) → (b || among c (xs ++ ys)) ≡ ((b || among c xs) || among c ys)
    go true e = refl
    go false e = e

-- a code has a group exactly when it is listed
served_is : (gs : List Group) (c : ℕ) → T (numbered gs) → not (eqb (listed_in gs c) not_served) ≡ among c (listed gs)
served_is [] c t = refl
served_is ((g holds codes) ∷ gs) c t = rw (among_append c codes (listed gs)) (go (among c codes) (served_is gs c (and_right (not (eqb g not_served)) (numbered gs) t)))
  where
    go : (b : Bool) → not (eqb (listed_in gs c) not_served) ≡ among c (listed gs) → not (eqb (cond b g (listed_in gs c)) not_served) ≡ (b || among c (listed gs))
    go true e = T-eq (not (eqb g not_served)) (and_left (not (eqb g not_served)) (numbered gs) t)
    go false e = e

-- and is then among the codes of that group
group_of : (gs : List Group) (c g : ℕ) → listed_in gs c ≡ g → T (not (eqb g not_served)) → T (among c (codes_of g gs))
group_of [] c g e t = absurd (T_not (eqb g not_served) t (subst (λ (k : ℕ). T (eqb k not_served)) e tt))
group_of ((k holds codes) ∷ gs) c g e t = go (among c codes) refl e (λ f. group_of gs c g f t)
  where
    keep : among c codes ≡ false → (b : Bool) → T (among c (codes_of g gs)) → T (among c (cond b (codes ++ codes_of g gs) (codes_of g gs)))
    keep a true t = rw (among_append c codes (codes_of g gs), a) t
    keep a false t = t

    go : (b : Bool) → among c codes ≡ b → cond b k (listed_in gs c) ≡ g → (listed_in gs c ≡ g → T (among c (codes_of g gs))) → T (among c (cond (eqb k g) (codes ++ codes_of g gs) (codes_of g gs)))
    go true a e f = rw (T-eq (eqb k g) (subst (λ (x : ℕ). T (eqb k x)) e (eqb_refl k)), among_append c codes (codes_of g gs), a) tt
    go false a e f = keep a (eqb k g) (f e)

-- "gives each group or "not served"": for every number, served exactly when listed
pub g_served : (c : ℕ) → not (eqb (g_group c) not_served) ≡ among c (listed g_groups)
unfolding g_group
g_served c = served_is g_groups c tt

pub m_served : (c : ℕ) → not (eqb (m_group c) not_served) ≡ among c (listed m_groups)
unfolding m_group
m_served c = served_is m_groups c tt

-- no code is listed twice, and each is in the group that lists it
pub g_once : twice (listed g_groups) ≡ false
g_once = refl

pub m_once : twice (listed m_groups) ≡ false
m_once = refl

pub g_filed : filed g_group g_groups ≡ true
unfolding g_group
g_filed = refl

pub m_filed : filed m_group m_groups ≡ true
unfolding m_group
m_filed = refl

-- ---- the nine work systems

-- G54 G55 G56 G57 G58 G59 G59.1 G59.2 G59.3 are the systems 1 to 9
pub systems_numbered : map system_number systems ≡ 1 ∷ 2 ∷ 3 ∷ 4 ∷ 5 ∷ 6 ∷ 7 ∷ 8 ∷ 9 ∷ []
unfolding system_number
systems_numbered = refl

-- "G59 is system 6, G59.1 system 7": at most 0.0001 from 59 is the one, at most 0.0001 from 59.1 the other
pub g59 : (v : ℤ) → Close 1000 590 v → option_map system_number (g_code v) ≡ Some 6
unfolding system_number
g59 v p = rw (g_is 590 v (omega arith) p)

pub g59_1 : (v : ℤ) → Close 1000 591 v → option_map system_number (g_code v) ≡ Some 7
unfolding system_number
g59_1 v p = rw (g_is 591 v (omega arith) p)

-- a code of group 12 is one of the nine
pub system_listed : (c : ℕ) → g_group c ≡ 12 → T (among c systems)
unfolding g_group
system_listed c e = group_of g_groups c 12 e tt

place_positive : (xs : List ℕ) (c : ℕ) → T (among c xs) → 0 < place_in xs c
place_positive [] c p = absurd p
place_positive (x ∷ xs) c p = go (eqb c x) p (λ q. place_positive xs c q)
  where
    past : (n : ℕ) → 0 < n → 0 < further n
    past zero h = h
    past (suc n) h = omega arith

    go : (b : Bool) → T (b || among c xs) → (T (among c xs) → 0 < place_in xs c) → 0 < cond b 1 (further (place_in xs c))
    go true p f = omega arith
    go false p f = past (place_in xs c) (f p)

-- a place further on is not the first, and tells which place it was
further_is : (n : ℕ) → 0 < n → further n ≡ suc n
further_is zero h = absurd (omega arith)
further_is (suc n) h = refl

place_one : (xs : List ℕ) (c d : ℕ) → T (among c xs) → T (among d xs) → place_in xs c ≡ place_in xs d → c ≡ d
place_one [] c d p q e = absurd p
place_one (x ∷ xs) c d p q e = go (eqb c x) (eqb d x) refl refl p q e (λ p q e. place_one xs c d p q e)
  where
    go : (a b : Bool) → eqb c x ≡ a → eqb d x ≡ b → T (a || among c xs) → T (b || among d xs) → cond a 1 (further (place_in xs c)) ≡ cond b 1 (further (place_in xs d)) →
        (T (among c xs) → T (among d xs) → place_in xs c ≡ place_in xs d → c ≡ d) → c ≡ d
    go true true l m p q e f = eqb→eq c x (subst T (sym l) tt) ∙ sym (eqb→eq d x (subst T (sym m) tt))
    go true false l m p q e f = absurd (let h = place_positive xs d q in omega (arith, further_is (place_in xs d) h))
    go false true l m p q e f = absurd (let h = place_positive xs c p in omega (arith, further_is (place_in xs c) h))
    go false false l m p q e f =
        let h = place_positive xs c p in
        let k = place_positive xs d q in
        f p q (omega (arith, further_is (place_in xs c) h, further_is (place_in xs d) k))

-- two systems with one number are one system
pub system_one : (c d : ℕ) → g_group c ≡ 12 → g_group d ≡ 12 → system_number c ≡ system_number d → c ≡ d
unfolding system_number
system_one c d p q e = place_one systems c d (system_listed c p) (system_listed d q) e

-- where the origin of a system stands
pub place_is : (n i : ℕ) → 0 < n → origin_place n i ≡ 3 * (n - 1) + i
place_is zero i h = absurd (omega arith)
place_is (suc n) i h = omega arith

-- a place in a list is at most its length
place_within : (xs : List ℕ) (code : ℕ) → place_in xs code ≤ length xs
place_within [] code = omega arith
place_within (x ∷ xs) code = go (eqb code x) (place_in xs code) (place_within xs code)
  where
    go : (c : Bool) (n : ℕ) → n ≤ length xs → cond c 1 (further n) ≤ suc (length xs)
    go true n h = omega arith
    go false zero h = omega arith
    go false (suc n) h = omega arith

pub system_within : (code : ℕ) → system_number code ≤ 9
unfolding system_number
system_within code = place_within systems code

-- no two systems share a place among the origins
pub origin_one : (c d i j : ℕ) → g_group c ≡ 12 → g_group d ≡ 12 → i < 3 → j < 3 → origin_place (system_number c) i ≡ origin_place (system_number d) j → (c ≡ d) × (i ≡ j)
unfolding system_number
origin_one c d i j p q l m e =
    let a = place_positive systems c (system_listed c p) in
    let b = place_positive systems d (system_listed d q) in
    let x = place_is (system_number c) i a in
    let y = place_is (system_number d) j b in
    (system_one c d p q (omega arith), omega arith)

-- and a code that is no system shares none with any: its number 0 has no origin
pub no_origin : (d i j : ℕ) → g_group d ≡ 12 → j < 3 → origin_place 0 i ≡ origin_place (system_number d) j → ⊥
unfolding system_number
no_origin d i j q m e =
    let b = place_positive systems d (system_listed d q) in
    let y = place_is (system_number d) j b in
    let w = system_within d in
    omega arith

-- nothing is read there, and nothing can be set
module _ (os : List Length) (i : ℕ) (all : length os ≡ 27) where
  pub nothing_read : at os (origin_place 0 i) ≡ nowhere
  nothing_read = get_or-eq_default os nowhere (omega arith)

  pub nothing_set : (l : Length) → set os (origin_place 0 i) l ≡ os
  nothing_set l = set_out os (origin_place 0 i) l (omega arith)
