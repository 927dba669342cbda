-- Every line leaves record and table in order where they were in order, so that number 1 cannot come from a session's own lines.
-- Assumes nothing.
use mathlib.Core.Path.{◌≡◌, refl, ap, ◌∙◌, sym, subst}
use mathlib.Core.Bool.{Bool, true, false, cond, not, ◌&&◌, ◌||◌}
use mathlib.Core.List.{List, [], ◌∷◌, map}
use Prim.Native.Nat.{ℕ, zero, suc, ◌*◌, ◌≤◌}
use native.Mathlib.Omega.{arith}
use native.Mathlib.Decide.{ℕ_discrete}
use lib.Dec.{T, eqb, leb, eqb→eq, leb→le, le→leb, eqb_refl, T_not}
use lib.ListN.{length, set, replicate, length-set}
use lib.Seq.{get_or-set_other}
use lib.IntN.{ℤ, pos, negsuc}
use borrow.Author.Tests.{eqb-false}
use Rattle.std.specs.Prelude.{Option, None, Some, IfSome, unwrap_or, is_some}
use Rattle.std.specs.Option.{option_map_or}
use Rattle.laws.proofs.Bools.{and_left, and_right, neither_left, neither_right, or_cases, T-eq}
use Rattle.grammar.specs.Bytes.{byte, among}
use Rattle.grammar.specs.Grammar.{Line}
use Rattle.grammar.specs.Derivation.{Form, derived, breaks_at}
use Rattle.grammar.specs.Working.{Contents}
use Rattle.grammar.proofs.ByForm.{form_of}
use Rattle.rules.specs.Numbers.{within, in_range, whole, between, counted}
use Rattle.rules.specs.Meaning.{Entry, reading, Said, Setting, words, settings}
use Rattle.rules.specs.Codes.{g_group, group_of}
use Rattle.rules.specs.Block.{amount, of_group, g_codes, block_of, all_axes, dwells, moves, sets_origin, sets_offset, zeroes_offset}
use Rattle.rules.specs.Reach.{converted, in_reach, up_to, in_order, at, nowhere, fresh}
use Rattle.rules.specs.Steps.{feed_step, speed_step, tool_step, change_step, spindle_step, coolant_step, plane_step, units_step, system_step, distance_step, origin_step, offset_step, target, motion_step, stop_step, in_turn, ready, left}
use Rattle.rules.specs.Steps.{origin_place, origin_system, origin_of, origins_set, named, no_offset, ends, spindle_of, coolant_with}
use Rattle.rules.specs.Arcs.{arc_move, centre}
use Rattle.rules.specs.Refusals.{Case, ◌when◌, first, below0, outside, wrong_word, too_far}
use Rattle.rules.specs.Promise.{After, Right, answer_to, numbers, by_number, underived, taken, place_in, apply, number_of, disorder}
use Rattle.rules.specs.declared.Length.{Length}
use Rattle.rules.specs.declared.Value.{Value}
use Rattle.rules.specs.declared.Block.{Block}
use Rattle.rules.specs.declared.Record.{Record}
use Rattle.rules.proofs.Answers.{first_carriable}
use Rattle.rules.proofs.Demands.{unchanged, by_model, number_is}
use Rattle.rules.proofs.Told.{condition}
use Rattle.rules.proofs.InRange.{AllInRange, words_in_range, word_in_range}

-- ---- a record in order, field by field
pub record Ordered (r : Record) : Type 0 where
  pub position : T (in_reach r.position)
  origins : T (in_reach r.origins)
  offset : T (in_reach r.offset)
  feed : T (up_to 253999999746 r.feed.0)
  speed : T (up_to 999999999 r.speed.0)
  tool : T (leb r.tool 99)
  spindle : T (leb r.spindle 2)
  coolant : T (leb r.coolant 3)
  motion : T (eqb (g_group r.motion) 1)
  plane : T (eqb (g_group r.plane) 2)
  distance : T (eqb (g_group r.distance) 3)
  units : T (eqb (g_group r.units) 6)
  system : T (eqb (g_group r.system) 12)

-- a chain of `&&` as a list, and its parts
abbrev chain : Bool → List Bool → Bool
chain a [] = a
chain a (b ∷ bs) = chain (a && b) bs

abbrev Each : Bool → List Bool → Type 0
Each a [] = T a
Each a (b ∷ bs) = T a × Each b bs

parts : (a : Bool) (bs : List Bool) → T (chain a bs) → Each a bs
parts a [] t = t
parts true (b ∷ bs) t = (tt, parts b bs t)
parts false (b ∷ bs) t = absurd (never bs t)
  where
    never : (bs : List Bool) → T (chain false bs) → ⊥
    never [] t = t
    never (b ∷ bs) t = never bs t

together : (a : Bool) (bs : List Bool) → Each a bs → T (chain a bs)
together a [] e = e
together true (b ∷ bs) e = together b bs e.1
together false (b ∷ bs) e = absurd e.0

-- the conditions of a record in order, after the first
abbrev tests : Record → List Bool
tests r =
    in_reach r.origins ∷ in_reach r.offset ∷ up_to 253999999746 r.feed.0 ∷ up_to 999999999 r.speed.0 ∷ leb r.tool 99 ∷ leb r.spindle 2 ∷ leb r.coolant 3
    ∷ eqb (g_group r.motion) 1 ∷ eqb (g_group r.plane) 2 ∷ eqb (g_group r.distance) 3 ∷ eqb (g_group r.units) 6 ∷ eqb (g_group r.system) 12 ∷ []

pub ordered : (r : Record) → T (in_order r) → Ordered r
unfolding in_order
ordered r t =
    let e = parts (in_reach r.position) (tests r) t in
    record {
      position = e.0;
      origins = e.1.0;
      offset = e.1.1.0;
      feed = e.1.1.1.0;
      speed = e.1.1.1.1.0;
      tool = e.1.1.1.1.1.0;
      spindle = e.1.1.1.1.1.1.0;
      coolant = e.1.1.1.1.1.1.1.0;
      motion = e.1.1.1.1.1.1.1.1.0;
      plane = e.1.1.1.1.1.1.1.1.1.0;
      distance = e.1.1.1.1.1.1.1.1.1.1.0;
      units = e.1.1.1.1.1.1.1.1.1.1.1.0;
      system = e.1.1.1.1.1.1.1.1.1.1.1.1;
    }

in_order_holds : (r : Record) → Ordered r → T (in_order r)
unfolding in_order
in_order_holds r o = together (in_reach r.position) (tests r)
    (o.position, (o.origins, (o.offset, (o.feed, (o.speed, (o.tool, (o.spindle, (o.coolant, (o.motion, (o.plane, (o.distance, (o.units, o.system))))))))))))

-- ---- where no number is given, no condition holds
abbrev positive : List Case → Bool
positive [] = true
positive ((n when c) ∷ cs) = not (eqb n 0) && positive cs

none_holds : (n : ℕ) (cs : List Case) → T (positive cs) → T (not (eqb n 0)) → first cs ≡ 0 → T (not (condition n cs))
none_holds n [] t u e = u
none_holds n ((k when true) ∷ cs) t u e = absurd (T_not (eqb k 0) (and_left (not (eqb k 0)) (positive cs) t) (subst (λ (x : ℕ). T (eqb k x)) e (eqb_refl k)))
none_holds n ((k when false) ∷ cs) t u e = go (eqb k n) (none_holds n cs (and_right (not (eqb k 0)) (positive cs) t) u e)
  where
    go : (x : Bool) → T (not (condition n cs)) → T (not (cond x false (condition n cs)))
    go true p = tt
    go false p = p

-- a condition that does not hold although its first part does
other_part : (a b : Bool) → T (not (a && not b)) → a ≡ true → T b
other_part true true t e = tt
other_part true false t e = absurd t
other_part false b t e = absurd (subst T (sym e) tt)

-- ---- places in reach
pub reach_at : (ls : List Length) (k : ℕ) → T (in_reach ls) → T (within 1000000000 (at ls k).0)
reach_at [] k t = tt
reach_at (l ∷ ls) zero t = and_left (within 1000000000 l.0) (in_reach ls) t
reach_at (l ∷ ls) (suc k) t = reach_at ls k (and_right (within 1000000000 l.0) (in_reach ls) t)

at_reach : (ls : List Length) → ((k : ℕ) → T (within 1000000000 (at ls k).0)) → T (in_reach ls)
at_reach [] p = tt
at_reach (l ∷ ls) p = together (within 1000000000 l.0) (in_reach ls ∷ []) (p zero, at_reach ls (λ k. p (suc k)))

-- G10: the places of the named axes, whatever the axes are
module _ (b : Block) (r : Record) where
  abbrev place : ℕ → ℕ
  place i = origin_place (origin_system b) i

  elsewhere : (is : List ℕ) (os : List Length) (k : ℕ) → among k (map place is) ≡ false → at (origins_set b r is os) k ≡ at os k
  elsewhere [] os k e = refl
  elsewhere (i ∷ is) os k e =
      elsewhere is (set os (place i) (named b r i (at os (place i)))) k (later (eqb k (place i)) (among k (map place is)) e)
      ∙ get_or-set_other os (place i) k (named b r i (at os (place i))) nowhere (eqb-false k (place i) (now (eqb k (place i)) (among k (map place is)) e))
    where
      now : (x y : Bool) → (x || y) ≡ false → x ≡ false
      now true y e = e
      now false y e = refl

      later : (x y : Bool) → (x || y) ≡ false → y ≡ false
      later true y e = absurd (subst T e tt)
      later false y e = e

  here : (new : List Length) (is : List ℕ) (k : ℕ) → T (among k (map place is)) → T (in_reach (map (λ (i : ℕ). at new (place i)) is)) → T (within 1000000000 (at new k).0)
  here new [] k a t = absurd a
  here new (i ∷ is) k a t =
      let w = within 1000000000 (at new (place i)).0 in
      let ws = in_reach (map (λ (i : ℕ). at new (place i)) is) in
      or_cases (eqb k (place i)) (among k (map place is)) (λ e. rw (eqb→eq k (place i) e) (and_left w ws t)) (λ e. here new is k e (and_right w ws t)) a

  -- the origins are in reach where they were and those of the system that was set are
  origins_reach : (is : List ℕ) (os : List Length) → T (in_reach os) → T (in_reach (map (λ (i : ℕ). at (origins_set b r is os) (place i)) is)) → T (in_reach (origins_set b r is os))
  origins_reach is os t h = at_reach (origins_set b r is os) (λ k. go k (among k (map place is)) refl)
    where
      go : (k : ℕ) (x : Bool) → among k (map place is) ≡ x → T (within 1000000000 (at (origins_set b r is os) k).0)
      go k true e = here (origins_set b r is os) is k (subst T (sym e) tt) h
      go k false e = rw (elsewhere is os k e) (reach_at os k t)

-- ---- words
not_below : (v : Value) → T (not (below0 (Some v))) → T (in_range v.0) → (n : ℕ) × (v.0 ≡ pos n) × (n ≤ 999999999)
not_below v t h = go v.0 refl
  where
    go : (z : ℤ) → v.0 ≡ z → (n : ℕ) × (v.0 ≡ pos n) × (n ≤ 999999999)
    go (pos n) e = (n, e, leb→le n 999999999 (rw e at h))
    go (negsuc n) e = absurd (rw e at t)

-- "one ten-thousandth is 10 counts under G21, 254 under G20", so the largest feed is 253,999,999,746
feed_reach : (units : ℕ) (v : Value) (n : ℕ) → v.0 ≡ pos n → n ≤ 999999999 → T (up_to 253999999746 (converted units v).0)
unfolding converted
feed_reach units v n e h = rw e (go (eqb units 200))
  where
    go : (x : Bool) → T (leb (n * cond x 254 10) 253999999746)
    go true = le→leb (n * 254) 253999999746 (omega arith)
    go false = le→leb (n * 10) 253999999746 (omega arith)

abbrev UpTo : ℕ → ℕ → Type 0
UpTo high n = T (leb n high)

counted_up_to : (low high : ℕ) (n : Option ℤ) → T (between low high n) → T (leb (counted n) high)
counted_up_to low high None t = absurd t
counted_up_to low high (Some (negsuc k)) t = absurd t
counted_up_to low high (Some (pos k)) t = and_right (leb low k) (leb k high) t

-- ---- codes

abbrev Served : ℕ → ℕ → Type 0
Served g code = T (eqb (g_group code) g)

of_group_holds : (group : ℕ → ℕ) (g : ℕ) (cs : List (Option ℕ)) → IfSome (of_group group g cs) (λ c. T (eqb (group c) g))
of_group_holds group g [] = tt
of_group_holds group g (c ∷ cs) = go c (eqb (group_of group c) g) refl (of_group_holds group g cs)
  where
    go : (c : Option ℕ) (x : Bool) → eqb (group_of group c) g ≡ x → IfSome (of_group group g cs) (λ c. T (eqb (group c) g)) → IfSome (cond x c (of_group group g cs)) (λ c. T (eqb (group c) g))
    go None true p q = tt
    go (Some n) true p q = subst T (sym p) tt
    go c false p q = q

either : {A : Type 0} (P : A → Type 0) (c : Bool) (x y : A) → (c ≡ true → P x) → P y → P (cond c x y)
either P true x y f g = f refl
either P false x y f g = g

map_or : {A B : Type 0} (P : B → Type 0) (f : A → B) (w : Option A) (y : B) → IfSome w (λ x. P (f x)) → P y → P (option_map_or f w y)
map_or P f None y p q = q
map_or P f (Some x) y p q = p

or_old : {A : Type 0} (P : A → Type 0) (w : Option A) (y : A) → IfSome w P → P y → P (unwrap_or w y)
or_old P None y p q = q
or_old P (Some x) y p q = p

-- ---- a line whose numbers 11 and 13 are not given

-- what is known of a summary: F and S in range, each code in its group
record Summary (b : Block) : Type 0 where
  f : T (in_range (amount b.f).0)
  s : T (in_range (amount b.s).0)
  motion : IfSome b.motion (Served 1)
  plane : IfSome b.plane (Served 2)
  distance : IfSome b.distance (Served 3)
  units : IfSome b.units (Served 6)
  system : IfSome b.system (Served 12)

summary : (ws : List Said) → AllInRange ws → Summary (block_of ws)
unfolding block_of
summary ws p = record {
  f = word_in_range (byte "F") ws p;
  s = word_in_range (byte "S") ws p;
  motion = of_group_holds g_group 1 (g_codes ws);
  plane = of_group_holds g_group 2 (g_codes ws);
  distance = of_group_holds g_group 3 (g_codes ws);
  units = of_group_holds g_group 6 (g_codes ws);
  system = of_group_holds g_group 12 (g_codes ws);
}

record WordsRight (b : Block) : Type 0 where
  f : T (not (below0 b.f))
  s : T (not (below0 b.s))
  t : T (not (outside 0 99 b.t))

words_right : (b : Block) → T (not (wrong_word b)) → WordsRight b
unfolding wrong_word
words_right b h =
    let f = below0 b.f in
    let s = below0 b.s in
    let p = dwells b && below0 b.p in
    let t = outside 0 99 b.t in
    let l = outside 2 2 b.l in
    let q = sets_origin b && outside 1 9 b.p in
    let toL = neither_left (f || s || p || t || l) q h in
    let toT = neither_left (f || s || p || t) l toL in
    let toP = neither_left (f || s || p) t toT in
    let toS = neither_left (f || s) p toP in
    record { f = neither_left f s toS; s = neither_right f s toS; t = neither_right (f || s || p) t toT }

pub record InReach (b : Block) (m : Record) : Type 0 where
  pub target : moves b ≡ true → T (in_reach (target b m))
  pub centre : arc_move b m ≡ true → T (in_reach (centre b m))
  origin : sets_origin b ≡ true → T (in_reach (origin_of m (origin_system b)))
  offset : sets_offset b ≡ true → T (in_reach m.offset)

pub in_reach_holds : (b : Block) (m : Record) → T (not (too_far b m)) → InReach b m
unfolding too_far
in_reach_holds b m h =
    let t = moves b && not (in_reach (target b m)) in
    let c = arc_move b m && not (in_reach (centre b m)) in
    let o = sets_origin b && not (in_reach (origin_of m (origin_system b))) in
    let f = sets_offset b && not (in_reach m.offset) in
    let to_o = neither_left (t || c || o) f h in
    record {
      target = other_part (moves b) (in_reach (target b m)) (neither_left t c (neither_left (t || c) o to_o));
      centre = other_part (arc_move b m) (in_reach (centre b m)) (neither_right t c (neither_left (t || c) o to_o));
      origin = other_part (sets_origin b) (in_reach (origin_of m (origin_system b))) (neither_right (t || c) o to_o);
      offset = other_part (sets_offset b) (in_reach m.offset) (neither_right (t || c || o) f h);
    }

-- ---- field by field
set_or_not : (b : Block) (m : Record) (c : Bool) (os : List Length) → T (in_reach os) → (c ≡ true → T (in_reach (map (λ (i : ℕ). at (cond c (origins_set b m all_axes os) os) (place b m i)) all_axes))) →
    T (in_reach (cond c (origins_set b m all_axes os) os))
set_or_not b m true os t h = origins_reach b m all_axes os t (h refl)
set_or_not b m false os t h = t

judged_or_not : (c : Bool) (x y : List Length) → (c ≡ true → T (in_reach (cond c x y))) → T (in_reach y) → T (in_reach (cond c x y))
judged_or_not true x y h t = h refl
judged_or_not false x y h t = t

spindle_of_holds : (m : ℕ) → T (leb (spindle_of m) 2)
spindle_of_holds m = either (UpTo 2) (eqb m 3) 1 _ (λ e. tt) (either (UpTo 2) (eqb m 4) 2 0 (λ e. tt) tt)

coolant_with_holds : (m old : ℕ) → T (leb (coolant_with m old) 3)
coolant_with_holds m old =
    either (UpTo 3) (eqb m 7) _ _ (λ e. either (UpTo 3) (eqb old 2 || eqb old 3) 3 1 (λ e. tt) tt)
    (either (UpTo 3) (eqb m 8) _ 0 (λ e. either (UpTo 3) (eqb old 1 || eqb old 3) 3 2 (λ e. tt) tt) tt)

feed_holds : (units : ℕ) (w : Option Value) → T (not (below0 w)) → T (in_range (amount w).0) → IfSome w (λ v. T (up_to 253999999746 (converted units v).0))
feed_holds units None t h = tt
feed_holds units (Some v) t h = let n = not_below v t h in feed_reach units v n.0 n.1 n.2

speed_holds : (w : Option Value) → T (not (below0 w)) → T (in_range (amount w).0) → IfSome w (λ v. T (up_to 999999999 v.0))
speed_holds None t h = tt
speed_holds (Some v) t h = let n = not_below v t h in rw n.1 (le→leb n.0 999999999 n.2)

tool_holds : (w : Option Value) → T (not (outside 0 99 w)) → IfSome w (λ v. UpTo 99 (counted (whole v.0)))
tool_holds None t = tt
tool_holds (Some v) t = counted_up_to 0 99 (whole v.0) (T_not_not (between 0 99 (whole v.0)) t)
  where
    T_not_not : (b : Bool) → T (not (not b)) → T b
    T_not_not true t = tt
    T_not_not false t = t

each_holds : {A : Type 0} (P : A → Type 0) (w : Option A) → ((x : A) → P x) → IfSome w P
each_holds P None f = tt
each_holds P (Some x) f = f x

-- the record as G10 finds it
abbrev before10 : Block → Record → Record
before10 b r = in_turn (
    feed_step b ∷ speed_step b ∷ tool_step b ∷ change_step b ∷ spindle_step b ∷ coolant_step b ∷ plane_step b ∷ units_step b ∷ system_step b ∷ distance_step b ∷ []) r

module _ (b : Block) (r : Record) (k : Summary b) (o : Ordered r) (words : WordsRight b) (near : InReach b (ready b r)) where
  left_ordered : Ordered (left b r)
  unfolding left motion_step stop_step ready feed_step speed_step tool_step change_step spindle_step coolant_step plane_step units_step system_step distance_step origin_step offset_step g_group
  left_ordered = record {
    position = either (λ p. T (in_reach p)) (moves b) (target b (ready b r)) r.position near.target o.position;
    origins = set_or_not b (before10 b r) (sets_origin b) r.origins o.origins near.origin;
    offset = either (λ p. T (in_reach p)) (ends b) no_offset (ready b r).offset (λ e. tt)
        (judged_or_not (sets_offset b) _ _ near.offset (either (λ p. T (in_reach p)) (zeroes_offset b) no_offset r.offset (λ e. tt) o.offset));
    feed = map_or (λ (l : Length). T (up_to 253999999746 l.0)) (converted r.units) b.f r.feed (feed_holds r.units b.f words.f k.f) o.feed;
    speed = or_old (λ (v : Value). T (up_to 999999999 v.0)) b.s r.speed (speed_holds b.s words.s k.s) o.speed;
    tool = map_or (UpTo 99) (λ (v : Value). counted (whole v.0)) b.t r.tool (tool_holds b.t words.t) o.tool;
    spindle = either (UpTo 2) (ends b) 0 _ (λ e. tt)
        (map_or (UpTo 2) spindle_of b.spindle _ (each_holds (λ m. UpTo 2 (spindle_of m)) b.spindle spindle_of_holds)
        (either (UpTo 2) (is_some b.change) 0 r.spindle (λ e. tt) o.spindle));
    coolant = either (UpTo 3) (ends b) 0 _ (λ e. tt)
        (map_or (UpTo 3) (λ m. coolant_with m r.coolant) b.coolant r.coolant (each_holds (λ m. UpTo 3 (coolant_with m r.coolant)) b.coolant (λ m. coolant_with_holds m r.coolant)) o.coolant);
    motion = either (Served 1) (ends b) 10 _ (λ e. tt) (or_old (Served 1) b.motion r.motion k.motion o.motion);
    plane = either (Served 2) (ends b) 170 _ (λ e. tt) (or_old (Served 2) b.plane r.plane k.plane o.plane);
    distance = either (Served 3) (ends b) 900 _ (λ e. tt) (or_old (Served 3) b.distance r.distance k.distance o.distance);
    units = or_old (Served 6) b.units r.units k.units o.units;
    system = either (Served 12) (ends b) 540 _ (λ e. tt) (or_old (Served 12) b.system r.system k.system o.system);
  }

-- ---- record and table after any line
apply_length : (ss : List Setting) (table : List ℤ) → length (apply ss table) ≡ length table
apply_length [] table = refl
apply_length (s ∷ ss) table = apply_length ss (set table s.number s.value) ∙ length-set table s.number s.value

in_order_table : (r : Record) (table : List ℤ) → T (in_order r) → length table ≡ 5000 → disorder r table ≡ false
unfolding disorder
in_order_table r table t e = rw (e, T-eq (in_order r) t)

ordered_before : (r : Record) (table : List ℤ) → disorder r table ≡ false → T (in_order r) × (length table ≡ 5000)
unfolding disorder
ordered_before r table e = go (eqb (length table) 5000) (in_order r) refl e
  where
    go : (x y : Bool) → eqb (length table) 5000 ≡ x → (not x || not y) ≡ false → T y × (length table ≡ 5000)
    go true true p e = (tt, eqb→eq (length table) 5000 (subst T (sym p) tt))
    go true false p e = absurd (subst T e tt)
    go false y p e = absurd (subst T e tt)

module _ (line : List ℕ) (switch : Bool) (r : Record) (table out : List ℤ) (before : disorder r table ≡ false) where
  accepted_in_order : (e : Form (Contents Entry)) → AllInRange (words (taken e).entries) → number_of (answer_to e line switch r table out).outcome.answer ≡ 0 →
      disorder (answer_to e line switch r table out).outcome.rec (answer_to e line switch r table out).table ≡ false
  unfolding answer_to
  accepted_in_order e fine h =
      let b = block_of (words (taken e).entries) in
      let cs = numbers (underived e) (taken e) b line switch r table (length out) in
      let zero_is : first cs ≡ 0 = sym (number_is (first cs) (place_in e) (taken e) b r table out (first_carriable cs tt)) ∙ h in
      let was = ordered_before r table before in
      let now = left_ordered b r (summary (words (taken e).entries) fine) (ordered r was.0) (words_right b (none_holds 11 cs tt tt zero_is)) (in_reach_holds b (ready b r) (none_holds 13 cs tt tt zero_is)) in
      subst (λ (n : ℕ). disorder (by_number n (place_in e) (taken e) b r table out).outcome.rec (by_number n (place_in e) (taken e) b r table out).table ≡ false) (sym zero_is)
      (in_order_table (left b r) (apply (settings (taken e).entries) table) (in_order_holds (left b r) now) (apply_length (settings (taken e).entries) table ∙ was.1))

  reading_in_range : (f : Form Line) → AllInRange (words (taken (reading table f)).entries)
  reading_in_range (breaks_at n) = tt
  reading_in_range (derived t) = words_in_range table t

  -- from a record and a table in order, whatever the promise allows leaves them in order
  pub stays_in_order : {a : After} → Right line switch r table out a → disorder a.outcome.rec a.table ≡ false
  stays_in_order {a} p = go (ℕ_discrete (number_of a.outcome.answer) 0)
    where
      go : Dec (number_of a.outcome.answer ≡ 0) → disorder a.outcome.rec a.table ≡ false
      go (yes e) =
          let m = by_model line switch r table out p in
          let f = form_of line in
          subst (λ (x : After). disorder x.outcome.rec x.table ≡ false) (sym m)
          (accepted_in_order (reading table f) (reading_in_range f) (ap (λ (x : After). number_of x.outcome.answer) (sym m) ∙ e))
      go (no e) = let u = unchanged line switch r table out p e in rw (u.same_record, u.same_table) before

-- and a session begins in order
pub fresh_in_order : disorder fresh (replicate 5000 (pos 0)) ≡ false
unfolding disorder in_order fresh g_group
fresh_in_order = refl
