-- From line to line: a file is judged, and what it gives each number is found by going on from where the number before it was looked for.
-- Assumes nothing.
use mathlib.Core.Path.{◌≡◌, refl, sym, ap, ◌∙◌, subst}
use mathlib.Core.Bool.{Bool, true, false, cond, not}
use mathlib.Core.List.{List, [], ◌∷◌, map}
use mathlib.Core.Option.{Option, none, some}
use Prim.Native.Nat.{ℕ, zero, suc, ◌+◌, ◌≤◌, ◌<◌}
use native.Mathlib.Numerals.{add-one}
use native.Mathlib.Omega.{arith}
use lib.Dec.{eqb, ltb}
use lib.IntN.{ℤ, pos, nat_abs}
use lib.ListN.{length, get_or, set, length-set}
use lib.Seq.{ext_get_or, get_or-set_same, get_or-set_other}
use native.Mathlib.Decide.{ℕ_discrete}
use borrow.Author.Tests.{eq-eqb, ne_eqb, le-ltb, ltb-false}
use Rattle.std.specs.Prelude.{Option as Found, Some, None, Ok, Err}
use Rattle.std.specs.Option.{option_map}
use Rattle.rules.specs.Reach.{counts, nowhere}
use Rattle.rules.specs.Promise.{disorder}
use Rattle.rules.specs.Frames.{lines}
use Rattle.rules.specs.With.{with_origins, with_offset, with_system}
use Rattle.rules.specs.declared.Length.{Length}
use Rattle.rules.specs.declared.Record.{Record}
use Rattle.parameters.specs.File.{Entry}
use Rattle.parameters.specs.Places.{lies, stands_for, judged, unfit, offset_number, origin_number, number_from}
use Rattle.parameters.specs.Refusal.{refusal_number}
use Rattle.parameters.specs.Reading.{Loaded, number_of, line_refusal, risen, or_else, refusal, by_line, refused_line, derived, unsaid, value_at, given, renewed, entry_from, table_from, length_from, system_code, record_from, by_number, loaded, loaded_as, Loads, FirstRefused}
use Rattle.parameters.specs.Parse.{parse, parsed, trees, entries_of}
use Rattle.parameters.specs.Told.{FirstLine, Gives, JudgedAs, Remains, GivenFrom}
use Rattle.parameters.specs.declared.lines.Said.{Said}
use Rattle.parameters.specs.declared.load.RefusedLine.{RefusedLine}
use Rattle.parameters.specs.declared.refusal.FileRefusal.{FileRefusal}
use Rattle.parameters.specs.declared.refusal.FileRefusal.TheVariants.{Disorder, Malformed, NotRising, NumberOutOfRange, ValueUnfit, NoRoom}
use Rattle.parameters.proofs.Loading.{map_tells, loads_some}
use Rattle.parameters.proofs.Held.{entry_place, offset_place, origin_place_holds, system_place}
use Rattle.parameters.proofs.RoundTrip.{renewed_length, renewed_at}
use Rattle.parameters.proofs.Order.{no_tree, both_zero}

-- ---- the lines of a text
pub trees_on : {text line behind : List ℕ} → FirstLine text line behind → trees text ≡ parse line ∷ trees behind
unfolding trees
trees_on f = ap parsed f.cut

pub trees_end : {text : List ℕ} → text ≡ [] → trees text ≡ []
unfolding trees
trees_end e = rw e

-- ---- refusals
or_first : (a b n : ℕ) → a ≡ n → (n ≡ 0 → ⊥) → or_else a b ≡ n
or_first zero b n e h = absurd (h (sym e))
or_first (suc a) b n e h = e

-- no refusal has the number of acceptance
pub some_number : (why : FileRefusal) → refusal_number why ≡ 0 → ⊥
some_number Disorder e = omega arith
some_number Malformed e = omega arith
some_number NotRising e = omega arith
some_number NumberOutOfRange e = omega arith
some_number ValueUnfit e = omega arith
some_number NoRoom e = omega arith

-- a line that is right behind a number is right where it comes first
right_first : (least : ℕ) (o : Option Entry) → line_refusal least o ≡ 0 → line_refusal 0 o ≡ 0
unfolding line_refusal
right_first least none q = q
right_first least (some e) q = rw (le-ltb (number_of e) 0 (omega arith)) (by (ltb (number_of e) least) (not (lies 1 5399 (number_of e))) (unfit (stands_for (number_of e)) e.value) q)
  where
    by : (a b c : Bool) → ◌≡◌ {A = ℕ} (cond a 21 (cond b 22 (cond c 23 0))) 0 → ◌≡◌ {A = ℕ} (cond b 22 (cond c 23 0)) 0
    by true b c q = absurd (omega arith)
    by false b c q = q

all_right : (least : ℕ) (os : List (Option Entry)) → refusal least os ≡ 0 → refusal 0 os ≡ 0
all_right least [] q = refl
all_right least (o ∷ os) q =
    let z = both_zero (line_refusal least o) (refusal (risen o) os) q in
    rw (right_first least o z.0) z.1

risen_low : (least : ℕ) (e : Entry) → line_refusal least (some e) ≡ 0 → least ≤ number_of e
unfolding line_refusal
risen_low least e q = by (ltb (number_of e) least) refl (not (lies 1 5399 (number_of e))) (unfit (stands_for (number_of e)) e.value) q
  where
    by : (a : Bool) → ltb (number_of e) least ≡ a → (b c : Bool) → ◌≡◌ {A = ℕ} (cond a 21 (cond b 22 (cond c 23 0))) 0 → least ≤ number_of e
    by true t b c q = absurd (omega arith)
    by false t b c q = ltb-false (number_of e) least t

-- what comes behind a number does not say one that lies before it
below_none : (least : ℕ) (os : List (Option Entry)) (m : ℕ) → refusal least os ≡ 0 → m < least → given (derived os) m ≡ unsaid m
below_none least [] m q h = refl
below_none least (none ∷ os) m q h = absurd (no_tree least (both_zero (line_refusal least none) (refusal 0 os) q).0)
below_none least (some e ∷ os) m q h =
    let z = both_zero (line_refusal least (some e)) (refusal (suc (number_of e)) os) q in
    let l = risen_low least e z.0 in
    rw (ne_eqb (number_of e) m (λ d. omega arith)) (below_none (suc (number_of e)) os m z.1 (omega arith))

-- ---- judging: the lines of the rest, behind a number, are refused as the text is
abbrev onward : ℕ → Found ℕ → Found ℕ
onward passed None = None
onward passed (Some k) = Some (passed + k)

onward_further : (passed : ℕ) (o : Found ℕ) → onward passed (option_map suc o) ≡ onward (passed + 1) o
onward_further passed None = refl
onward_further passed (Some k) = let e : passed + suc k ≡ passed + 1 + k = omega arith in ap Some e

pub record Judging (text rest : List ℕ) (least passed : ℕ) : Type 0 where
  pub low : least ≤ 5400
  pub few : passed + length rest ≤ length text
  pub same : refusal least (trees rest) ≡ refusal 0 (trees text)
  pub place : onward passed (refused_line least (trees rest)) ≡ refused_line 0 (trees text)

module _ {text rest : List ℕ} {least passed : ℕ} (q : Judging text rest least passed) where
  pub judge_end : rest ≡ [] → JudgedAs text None
  judge_end h =
      let e = trees_end h in
      (sym q.same ∙ ap (refusal least) e, sym q.place ∙ ap (λ (t : List (Option Entry)). onward passed (refused_line least t)) e)

  module _ {line behind : List ℕ} (f : FirstLine rest line behind) where
    step : refusal least (trees rest) ≡ or_else (line_refusal least (parse line)) (refusal (risen (parse line)) (trees behind))
    step = ap (refusal least) (trees_on f)

    place_step : onward passed (refused_line least (trees rest)) ≡ onward passed (by_line (line_refusal least (parse line)) (refused_line (risen (parse line)) (trees behind)))
    place_step = ap (λ (t : List (Option Entry)). onward passed (refused_line least t)) (trees_on f)

    pub judge_on : {s : Said} → Gives least s (parse line) → Judging text behind (s.number + 1) (passed + 1)
    judge_on {s} g = record {
      low = omega (arith, g.small);
      few = omega (arith, q.few, f.shorter);
      same = sym (sym q.same ∙ step ∙ rw (g.is, g.right, g.number, add-one s.number));
      place = sym (onward_further passed (refused_line (s.number + 1) (trees behind))) ∙ sym (sym q.place ∙ place_step ∙ rw (g.is, g.right, g.number, add-one s.number));
    }

    pub judge_refused : (why : FileRefusal) → line_refusal least (parse line) ≡ refusal_number why → JudgedAs text (Some (record { line = passed + 1; why = why }))
    judge_refused why e = (
      sym q.same ∙ step ∙ or_first (line_refusal least (parse line)) (refusal (risen (parse line)) (trees behind)) (refusal_number why) e (some_number why),
      sym q.place ∙ place_step ∙ by (line_refusal least (parse line)) (λ z. some_number why (sym e ∙ z)),
    )
      where
        by : (a : ℕ) → (a ≡ 0 → ⊥) → onward passed (by_line a (refused_line (risen (parse line)) (trees behind))) ≡ Some (passed + 1)
        by zero h = absurd (h refl)
        by (suc a) h = refl

pub judged_line : (text : List ℕ) (o : Found RefusedLine) → JudgedAs text o → option_map (λ (r : RefusedLine). r.line) o ≡ refused_line 0 (trees text)
judged_line text None j = sym j.1
judged_line text (Some r) j = sym j.1

-- ---- what the file gives a number
pub remains_start : (text : List ℕ) (m : ℕ) → Remains text text m
remains_start text m = record { same = λ n k. refl }

pub remains_of : {text text' rest : List ℕ} {m : ℕ} → text ≡ text' → Remains text rest m → Remains text' rest m
remains_of {rest = rest} {m = m} e q = subst (λ (t : List ℕ). Remains t rest m) e q

pub remains_on : {text rest : List ℕ} {m : ℕ} (k : ℕ) → Remains text rest m → m ≤ k → Remains text rest k
remains_on k q h = record { same = λ n l. q.same n (omega arith) }

pub remains_join : {text rest next : List ℕ} {m : ℕ} (k : ℕ) → Remains text rest m → Remains rest next k → m ≤ k → Remains text next k
remains_join k q r h = record { same = λ n l. r.same n l ∙ q.same n (omega arith) }

module _ {text rest : List ℕ} {n : ℕ} (q : Remains text rest n) where
  unsaid_here : given (entries_of rest) n ≡ unsaid n → {v : ℤ} → v ≡ unsaid n → GivenFrom text n v rest
  unsaid_here g e = record { value_is = e ∙ sym (sym (q.same n (omega arith)) ∙ g); remains = remains_on (n + 1) q (omega arith) }

  pub value_end : rest ≡ [] → {v : ℤ} → v ≡ unsaid n → GivenFrom text n v rest
  value_end h = unsaid_here (ap (λ (t : List (Option Entry)). given (derived t) n) (trees_end h))

  module _ (r : refusal 0 (trees rest) ≡ 0) {line behind : List ℕ} (f : FirstLine rest line behind) where
    parts : (line_refusal 0 (parse line) ≡ 0) × (refusal (risen (parse line)) (trees behind) ≡ 0)
    parts = both_zero (line_refusal 0 (parse line)) (refusal (risen (parse line)) (trees behind)) (sym (ap (refusal 0) (trees_on f)) ∙ r)

    pub value_refused : (why : FileRefusal) → line_refusal 0 (parse line) ≡ refusal_number why → ⊥
    value_refused why e = some_number why (sym e ∙ parts.0)

    module _ {s : Said} (here : Gives 0 s (parse line)) where
      entries_are : entries_of rest ≡ here.entry ∷ entries_of behind
      entries_are = ap derived (trees_on f) ∙ rw here.is

      given_is : (k : ℕ) → given (entries_of rest) k ≡ cond (eqb s.number k) (value_at here.entry) (given (entries_of behind) k)
      given_is k = ap (λ (es : List Entry). given es k) entries_are ∙ rw here.number

      right_on : refusal (suc s.number) (trees behind) ≡ 0
      right_on = sym (ap (λ (k : ℕ). refusal k (trees behind)) (ap risen here.is ∙ ap suc here.number)) ∙ parts.1

      pub accepted_on : refusal 0 (trees behind) ≡ 0
      accepted_on = all_right (suc s.number) (trees behind) right_on

      on : (k : ℕ) → n ≤ k → s.number < k → Remains text behind k
      on k h j = record { same = λ d b. sym (sym (q.same d (omega arith)) ∙ given_is d ∙ rw (ne_eqb s.number d (λ x. omega arith))) }

      pub value_behind : n < s.number → {v : ℤ} → v ≡ unsaid n → GivenFrom text n v rest
      value_behind h = unsaid_here (given_is n ∙ rw (ne_eqb s.number n (λ x. omega arith)) (below_none (suc s.number) (trees behind) n right_on (omega arith)))

      pub value_here : s.number ≡ n → judged (stands_for n) ≡ true → {v : ℤ} → v ≡ s.value → GivenFrom text n v behind
      value_here h j f = record {
        value_is = f ∙ sym (sym (q.same n (omega arith)) ∙ given_is n ∙ rw (eq-eqb s.number n h) (here.value (rw h j)));
        remains = on (n + 1) (omega arith) (omega arith);
      }

      pub value_before : s.number ≤ n → (s.number ≡ n → ⊥) → Remains text behind n
      value_before h d = on n (omega arith) (omega (arith, d))

-- ---- a list made anew, from its front
module _ {A : Type 0} (d : A) (target : List A) where
  pub record Filling (i : ℕ) (xs : List A) : Type 0 where
    pub long : length xs ≡ length target
    pub same : (k : ℕ) → k < i → get_or xs k d ≡ get_or target k d

  pub fill_next : {i : ℕ} {xs : List A} (v : A) → Filling i xs → i < length target → v ≡ get_or target i d → Filling (i + 1) (set xs i v)
  fill_next {i} {xs} v q h e = record {
    long = length-set xs i v ∙ q.long;
    same = λ k b. by k b (ℕ_discrete k i);
  }
    where
      by : (k : ℕ) → k < i + 1 → Dec (k ≡ i) → get_or (set xs i v) k d ≡ get_or target k d
      by k b (yes s) = rw s (get_or-set_same xs i v d (omega (arith, q.long)) ∙ e)
      by k b (no s) = get_or-set_other xs i k v d s ∙ q.same k (omega (arith, s))

  pub fill_all : {i : ℕ} {xs : List A} → Filling i xs → length target ≤ i → xs ≡ target
  fill_all {i} {xs} q h = ext_get_or d xs target q.long (λ k b. q.same k (omega (arith, q.long)))

-- ---- the table, the offset and the origins
module _ (es : List Entry) (table : List ℤ) where
  pub table_long : length (table_from es table) ≡ length table
  unfolding table_from
  table_long = renewed_length (entry_from es) 0 table

  table_at : (n : ℕ) → n < length table → get_or (table_from es table) n (pos 0) ≡ entry_from es n (get_or table n (pos 0))
  unfolding table_from
  table_at n h = let e : 0 + n ≡ n = omega arith in renewed_at (entry_from es) 0 n table (pos 0) h ∙ rw e

  pub table_first : length table ≡ 5000 → Filling (pos 0) (table_from es table) 1 table
  table_first h = record { long = sym table_long; same = λ k b. by k b }
    where
      by : (k : ℕ) → k < 1 → get_or table k (pos 0) ≡ get_or (table_from es table) k (pos 0)
      by zero b = sym (table_at 0 (omega arith))
      by (suc k) b = absurd (omega arith)

  pub table_next : (n : ℕ) → 1 ≤ n → n < length table → {v : ℤ} → v ≡ given es n → v ≡ get_or (table_from es table) n (pos 0)
  table_next zero a b e = absurd (omega arith)
  table_next (suc n) a b e = e ∙ sym (table_at (suc n) b)

-- lengths made anew by other entries and numbers that give the same
renewed_as : (es es' : List Entry) (f g : ℕ → ℕ) (n : ℕ) (ls : List Length) → ((i : ℕ) → n ≤ i → i < n + length ls → given es (f i) ≡ given es' (g i)) → renewed (length_from es f) n ls ≡ renewed (length_from es' g) n ls
renewed_as es es' f g n [] h = refl
renewed_as es es' f g n (x ∷ ls) h = rw (h n (omega arith) (omega arith), renewed_as es es' f g (suc n) ls (λ i a b. h i (omega arith) (omega arith)))

pub lengths_as : {text rest : List ℕ} {m : ℕ} (first : ℕ) (g : ℕ → ℕ) (ls : List Length) → Remains text rest m → ((i : ℕ) → i < length ls → (m ≤ number_from first i) × (number_from first i ≡ g i))
    → renewed (length_from (entries_of rest) (number_from first)) 0 ls ≡ renewed (length_from (entries_of text) g) 0 ls
lengths_as {text} {rest} {m} first g ls q h =
    renewed_as (entries_of rest) (entries_of text) (number_from first) g 0 ls (λ i a b. let w = h i (omega arith) in q.same (number_from first i) w.0 ∙ ap (given (entries_of text)) w.1)

-- the numbers rise with the places
pub number_rises : (first k i : ℕ) → k < i → number_from first k < number_from first i
number_rises first k i h = omega arith

module _ (es : List Entry) (number : ℕ → ℕ) (old : List Length) where
  pub lengths_long : length (renewed (length_from es number) 0 old) ≡ length old
  lengths_long = renewed_length (length_from es number) 0 old

  pub lengths_first : Filling nowhere (renewed (length_from es number) 0 old) 0 old
  lengths_first = record { long = sym lengths_long; same = λ k b. absurd (omega arith) }

  pub lengths_next : (i : ℕ) → i < length old → {v : ℤ} {n : ℕ} → n ≡ number i → v ≡ given es n → counts v ≡ get_or (renewed (length_from es number) 0 old) i nowhere
  lengths_next i h f e =
      let z : 0 + i ≡ i = omega arith in
      ap counts (e ∙ ap (given es) f) ∙ sym (renewed_at (length_from es number) 0 i old nowhere h ∙ rw z)

-- a value found in the rest is that of the text
pub from_start : {text rest next : List ℕ} {n : ℕ} {v : ℤ} → Remains text rest n → GivenFrom rest n v next → v ≡ given (entries_of text) n
from_start {n = n} q g = g.value_is ∙ q.same n (omega arith)

pub entry_judged : (n : ℕ) → 1 ≤ n → n ≤ 4999 → judged (stands_for n) ≡ true
entry_judged n h l = rw (entry_place n h l)

pub offset_judged : (i : ℕ) → i < 3 → {n : ℕ} → n ≡ offset_number i → judged (stands_for n) ≡ true
offset_judged i h e = rw (e, offset_place i h)

pub system_judged : judged (stands_for 5220) ≡ true
system_judged = rw system_place

pub origin_judged : (i : ℕ) → i < 27 → {n : ℕ} → n ≡ origin_number i → judged (stands_for n) ≡ true
origin_judged i h e = rw (e, origin_place_holds i h)

-- ---- all that a call leaves
parsed_is : (ls : List (List ℕ)) → parsed ls ≡ map parse ls
parsed_is [] = refl
parsed_is (l ∷ ls) = ap (λ (t : List (Option Entry)). parse l ∷ t) (parsed_is ls)

pub first_refused : (text : List ℕ) {n : Found ℕ} → n ≡ refused_line 0 (trees text) → FirstRefused text n
unfolding trees
first_refused text e tree t = e ∙ ap (refused_line 0) (parsed_is (lines text) ∙ sym (map_tells tree t (lines text)))

module _ (text : List ℕ) (r : Record) (table : List ℤ) where
  loaded_is : loaded parse text r table ≡ by_number (cond (disorder r table) 1 (refusal 0 (trees text))) (entries_of text) r table
  unfolding loaded trees
  loaded_is = rw (parsed_is (lines text))

  pub read_as : {after : Loaded} → after ≡ by_number (cond (disorder r table) 1 (refusal 0 (trees text))) (entries_of text) r table → Loads text r table after
  read_as e tree t = e ∙ sym loaded_is ∙ loads_some text r table tree t

  pub read_1 : disorder r table ≡ true → Loads text r table (loaded_as (Err Disorder) r table)
  read_1 d = read_as (rw d)

  pub read_refused_with : (why : FileRefusal) → disorder r table ≡ false → refusal 0 (trees text) ≡ refusal_number why → Loads text r table (loaded_as (Err why) r table)
  read_refused_with why d e = read_as (rw (d, e) (by (refusal_number why) (some_number why)))
    where
      by : (k : ℕ) → (k ≡ 0 → ⊥) → record { number = k; rec = r; table = table } ≡ by_number k (entries_of text) r table
      by zero h = absurd (h refl)
      by (suc k) h = refl

  pub read_0 : {left : List ℤ} {offset origins : List Length} {system : ℕ} {z : ℤ} → disorder r table ≡ false → refusal 0 (trees text) ≡ 0
      → left ≡ table_from (entries_of text) table
      → offset ≡ renewed (length_from (entries_of text) offset_number) 0 r.offset
      → origins ≡ renewed (length_from (entries_of text) origin_number) 0 r.origins
      → system ≡ system_code (nat_abs z) → z ≡ given (entries_of text) 5220
      → Loads text r table (loaded_as (Ok (with_offset offset (with_origins origins (with_system system r)))) r left)
  unfolding record_from
  read_0 d e a b c f g = read_as (rw (d, e) (rw (a, b, c, f, g)))
