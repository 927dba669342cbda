-- An accepted file leaves record and table in order, and every entry from 1 to 4999 in range: a session goes on from there.
-- Assumes nothing.
use mathlib.Core.Path.{◌≡◌, refl, sym, ap, ◌∙◌, subst}
use mathlib.Core.Bool.{Bool, true, false, cond, not, ◌||◌}
use mathlib.Core.List.{List, [], ◌∷◌, map}
use mathlib.Core.Option.{Option, none, some}
use Prim.Native.Nat.{ℕ, zero, suc, ◌+◌, ◌-◌, ◌/◌, ◌%◌, ◌≤◌, ◌<◌}
use native.Mathlib.Omega.{arith}
use lib.Dec.{T, eqb, leb, ltb, eqb→eq, leb→le}
use lib.ListN.{length, drop}
use lib.IntN.{ℤ, pos, nat_abs}
use borrow.Author.Tests.{le-leb, eqb-true}
use Rattle.laws.proofs.Bools.{and_right, T-eq, below, all_below}
use Rattle.grammar.specs.Grammar.{Number}
use Rattle.rules.specs.Numbers.{in_range, within, minus}
use Rattle.rules.specs.Codes.{g_group}
use Rattle.rules.specs.Steps.{origin_place}
use Rattle.rules.specs.Reach.{in_reach, in_order}
use Rattle.rules.specs.Promise.{disorder}
use Rattle.rules.specs.Frames.{lines}
use Rattle.rules.specs.declared.Length.{Length}
use Rattle.rules.specs.declared.Record.{Record}
use Rattle.record.proofs.InOrder.{InOrder}
use Rattle.parameters.specs.File.{Entry}
use Rattle.parameters.specs.Places.{stands_for, origin_at, lies, offset_number, origin_number, decimals, allowed, fine, value_in, unfit}
use Rattle.parameters.specs.declared.places.Place.{Place}
use Rattle.parameters.specs.declared.places.Place.TheVariants.{Entry as entry, Offset as offset, Origin as origin, System as system, Passed as passed}
use Rattle.parameters.specs.Reading.{Loaded, number_of, line_refusal, or_else, refusal, derived, unsaid, value_at, given, renewed, entry_from, table_from, length_from, system_code, record_from, by_number, loaded, Loads}
use Rattle.parameters.specs.Writing.{all_in_range}
use Rattle.parameters.specs.Parse.{parse}
use Rattle.parameters.proofs.Cut.{All}
use Rattle.parameters.proofs.Held.{cond_ind, entry_place, system_place, offset_place, origin_place_holds}
use Rattle.parameters.proofs.Loading.{loads_is}
use Rattle.parameters.proofs.RoundTrip.{Shaped, ordered, renewed_length}

-- ---- what no refusal tells of each line
abbrev Fit : Entry → Type 0
Fit e = unfit (stands_for (number_of e)) e.value ≡ false

line_fit : (least : ℕ) (e : Entry) → line_refusal least (some e) ≡ 0 → Fit e
unfolding line_refusal
line_fit least e q = by (ltb (number_of e) least) (not (lies 1 5399 (number_of e))) (unfit (stands_for (number_of e)) e.value) q
  where
    by : (a b c : Bool) → ◌≡◌ {A = ℕ} (cond a 21 (cond b 22 (cond c 23 0))) 0 → c ≡ false
    by true b c q = absurd (omega arith)
    by false true c q = absurd (omega arith)
    by false false true q = absurd (omega arith)
    by false false false q = refl

pub no_tree : (least : ℕ) → line_refusal least none ≡ 0 → ⊥
unfolding line_refusal
no_tree least q = omega arith

pub both_zero : (a b : ℕ) → or_else a b ≡ 0 → (a ≡ 0) × (b ≡ 0)
both_zero zero b q = (refl, q)
both_zero (suc a) b q = absurd (omega arith)

all_fit : (least : ℕ) (os : List (Option Entry)) → refusal least os ≡ 0 → All Fit (derived os)
all_fit least [] q = tt
all_fit least (none ∷ os) q = absurd (no_tree least (both_zero (line_refusal least none) (refusal 0 os) q).0)
all_fit least (some e ∷ os) q =
    let z = both_zero (line_refusal least (some e)) (refusal (suc (number_of e)) os) q in
    (line_fit least e z.0, all_fit (suc (number_of e)) os z.1)

-- ---- what the file gives is allowed
neither : (a b : Bool) → (a || not b) ≡ false → T b
neither true b q = absurd (subst T q tt)
neither false true q = tt
neither false false q = absurd (subst T q tt)

fit_allowed : (p : Place) (x : Number) → unfit p x ≡ false → T (allowed p (value_in (decimals p) x))
unfolding unfit
fit_allowed passed x q = tt
fit_allowed (entry n) x q = neither (ltb 4 (length (fine x))) (in_range (value_in 4 x)) q
fit_allowed (offset n) x q = neither (ltb 5 (length (fine x))) (within 1000000000 (value_in 5 x)) q
fit_allowed (origin n) x q = neither (ltb 5 (length (fine x))) (within 1000000000 (value_in 5 x)) q
fit_allowed system x q = neither (ltb 0 (length (fine x))) (allowed system (value_in 0 x)) q

unsaid_allowed : (m : ℕ) → T (allowed (stands_for m) (unsaid m))
unfolding stands_for
unsaid_allowed m =
    let P : Place → Type 0 = λ p. T (allowed p (unsaid m)) in
    cond_ind (lies 1 4999 m) (entry m) _ P (λ u. small 999999999 (eqb m 5220) tt tt)
    (λ _. cond_ind (lies 5211 5213 m) (offset (m - 5211)) _ P (λ u. small 1000000000 (eqb m 5220) tt tt)
    (λ _. cond_ind (eqb m 5220) system _ P (λ u. rw (T-eq (eqb m 5220) u) tt)
    (λ _. cond_ind (lies 5221 5383 m) (origin_at (m - 5221)) passed P
    (λ _. cond_ind (ltb ((m - 5221) % 20) 3) (origin (origin_place (suc ((m - 5221) / 20)) ((m - 5221) % 20))) passed P
    (λ u. small 1000000000 (eqb m 5220) tt tt) (λ _. tt))
    (λ _. tt))))
  where
    small : (k : ℕ) (c : Bool) → T (within k (pos 1)) → T (within k (pos 0)) → T (within k (pos (cond c 1 0)))
    small k true a b = a
    small k false a b = b

given_allowed : (es : List Entry) → All Fit es → (m : ℕ) → T (allowed (stands_for m) (given es m))
given_allowed [] f m = unsaid_allowed m
given_allowed (e ∷ es) f m = by (eqb (number_of e) m) refl (given_allowed es f.1 m)
  where
    by : (c : Bool) → eqb (number_of e) m ≡ c → T (allowed (stands_for m) (given es m)) → T (allowed (stands_for m) (cond c (value_at e) (given es m)))
    by true q h = subst (λ (k : ℕ). T (allowed (stands_for k) (value_at e))) (eqb-true (number_of e) m q) (fit_allowed (stands_for (number_of e)) e.value f.0)
    by false q h = h

-- ---- lists made anew
module _ (es : List Entry) (f : All Fit es) where
  entries_ranged : (n : ℕ) (xs : List ℤ) → suc n + length xs ≤ 5000 → T (all_in_range (renewed (entry_from es) (suc n) xs))
  entries_ranged n [] l = tt
  entries_ranged n (x ∷ xs) l =
      let a : T (in_range (given es (suc n))) = rw (entry_place (suc n) (omega arith) (omega arith)) at (given_allowed es f (suc n)) in
      rw (T-eq (in_range (given es (suc n))) a) (entries_ranged (suc n) xs (omega arith))

  lengths_reach : (number : ℕ → ℕ) (bound : ℕ) → ((i : ℕ) → i < bound → T (within 1000000000 (given es (number i)))) → (n : ℕ) (ls : List Length) → n + length ls ≤ bound → T (in_reach (renewed (length_from es number) n ls))
  lengths_reach number bound g n [] l = tt
  lengths_reach number bound g n (x ∷ ls) l = rw (T-eq (within 1000000000 (given es (number n))) (g n (omega arith))) (lengths_reach number bound g (suc n) ls (omega arith))

  offset_reach : (i : ℕ) → i < 3 → T (within 1000000000 (given es (offset_number i)))
  offset_reach i h = rw (offset_place i h) at (given_allowed es f (offset_number i))

  origin_reach : (i : ℕ) → i < 27 → T (within 1000000000 (given es (origin_number i)))
  origin_reach i h = rw (origin_place_holds i h) at (given_allowed es f (origin_number i))

  nine : T (all_below (λ k. not (lies 1 9 k) || eqb (g_group (system_code k)) 12) 10)
  unfolding g_group
  nine = tt

  system_served : g_group (system_code (nat_abs (given es 5220))) ≡ 12
  system_served =
      let a : T (allowed system (given es 5220)) = rw system_place at (given_allowed es f 5220) in
      let k = nat_abs (given es 5220) in
      let b : T (lies 1 9 k) = and_right (not (minus (given es 5220))) (lies 1 9 k) a in
      let h : k ≤ 9 = leb→le k 9 (and_right (leb 1 k) (leb k 9) b) in
      eqb→eq (g_group (system_code k)) 12 (second (lies 1 9 k) (eqb (g_group (system_code k)) 12) b (below (λ j. not (lies 1 9 j) || eqb (g_group (system_code j)) 12) 10 nine k (omega arith)))
    where
      second : (a b : Bool) → T a → T (not a || b) → T b
      second true b t u = u
      second false b t u = absurd t

  record_in_order : (r : Record) → InOrder r → Shaped r → in_order (record_from es r) ≡ true
  unfolding in_order record_from
  record_in_order r o s =
      let a : in_reach (renewed (length_from es offset_number) 0 r.offset) ≡ true = T-eq (in_reach (renewed (length_from es offset_number) 0 r.offset)) (lengths_reach offset_number 3 offset_reach 0 r.offset (omega (arith, s.offset))) in
      let b : in_reach (renewed (length_from es origin_number) 0 r.origins) ≡ true = T-eq (in_reach (renewed (length_from es origin_number) 0 r.origins)) (lengths_reach origin_number 27 origin_reach 0 r.origins (omega (arith, s.origins))) in
      rw (o.position, b, a, o.feed, o.speed, le-leb r.tool 99 o.tool, le-leb r.spindle 2 o.spindle, le-leb r.coolant 3 o.coolant)
      (rw (o.motion, o.plane, o.distance, o.units, system_served))

  table_length : (table : List ℤ) → length (table_from es table) ≡ length table
  unfolding table_from
  table_length table = renewed_length (entry_from es) 0 table

  table_ranged : (table : List ℤ) → length table ≡ 5000 → T (all_in_range (drop 1 (table_from es table)))
  unfolding table_from
  table_ranged [] h = tt
  table_ranged (z ∷ zs) h = entries_ranged 0 zs (omega arith)

  all_in_order : (r : Record) (table : List ℤ) → disorder r table ≡ false → Shaped r → disorder (record_from es r) (table_from es table) ≡ false
  unfolding disorder
  all_in_order r table d s =
      let o = ordered r table d in
      rw (table_length table, o.1, record_in_order r o.0 s)

pub read_in_order : (text : List ℕ) (r : Record) (table : List ℤ) (after : Loaded) → Shaped r → Loads text r table after → after.number ≡ 0
    → (disorder after.rec after.table ≡ false) × T (all_in_range (drop 1 after.table))
unfolding loaded
read_in_order text r table after s l q = go (disorder r table) refl (refusal 0 (map parse (lines text))) refl (loads_is text r table after l)
  where
    go : (d : Bool) → disorder r table ≡ d → (n : ℕ) → refusal 0 (map parse (lines text)) ≡ n → after ≡ by_number (cond d 1 n) (derived (map parse (lines text))) r table
        → (disorder after.rec after.table ≡ false) × T (all_in_range (drop 1 after.table))
    go true d n e a = absurd (let z : ◌≡◌ {A = ℕ} 1 0 = sym (ap (λ (x : Loaded). x.number) a) ∙ q in omega arith)
    go false d (suc n) e a = absurd (let z : ◌≡◌ {A = ℕ} (suc n) 0 = sym (ap (λ (x : Loaded). x.number) a) ∙ q in omega arith)
    go false d zero e a =
        let os = map parse (lines text) in
        let f = all_fit 0 os e in
        rw a (all_in_order (derived os) f r table d s, table_ranged (derived os) f table (ordered r table d).1)
