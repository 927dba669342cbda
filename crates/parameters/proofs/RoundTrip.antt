-- What is written reads back: from any record in order and table in range, into any record and table in order.
-- Assumes nothing.
use mathlib.Core.Path.{◌≡◌, refl, sym, ap, ◌∙◌, subst}
use mathlib.Core.Bool.{Bool, true, false, not, ◌||◌}
use mathlib.Core.List.{List, [], ◌∷◌, ◌++◌, map}
use mathlib.Core.Option.{some}
use Prim.Native.Nat.{ℕ, zero, suc, ◌+◌, ◌≤◌, ◌<◌}
use native.Mathlib.Omega.{arith}
use lib.Dec.{T, eqb, ltb, eqb→eq}
use lib.ListN.{length, get_or, take, drop}
use lib.Seq.{ext_get_or, take_at}
use lib.IntN.{ℤ, pos, nat_abs}
use Rattle.rules.specs.Reach.{in_order, counts, nowhere, at}
use Rattle.rules.specs.With.{with_origins, with_offset, with_system}
use Rattle.rules.specs.Promise.{disorder}
use Rattle.rules.specs.Frames.{lines}
use Rattle.rules.specs.declared.Length.{Length}
use Rattle.rules.specs.declared.Record.{Record}
use Rattle.record.proofs.InOrder.{InOrder, told}
use Rattle.parameters.specs.File.{Entry, EntryOk, write_entry}
use Rattle.parameters.specs.Places.{offset_number, origin_number}
use Rattle.parameters.specs.Reading.{Loaded, derived, refusal, given, renewed, entry_from, table_from, length_from, system_code, record_from, loaded, Loads}
use Rattle.parameters.specs.Writing.{held, entries, file, all_in_range, saved_by, save_refusal, saved}
use Rattle.parameters.specs.Parse.{parse}
use Rattle.parameters.proofs.Model.{found}
use Rattle.parameters.proofs.Cut.{All, lines_file}
use Rattle.parameters.proofs.Listed.{entries_ok, none_refused, given_is}
use Rattle.parameters.proofs.Held.{entry_place, system_place, offset_place, origin_place_holds, system_back, held_allowed}
use Rattle.parameters.proofs.Loading.{loads_is}

-- ---- what an order is made of
pub ordered : (r : Record) (table : List ℤ) → disorder r table ≡ false → InOrder r × (length table ≡ 5000)
unfolding disorder
ordered r table e = by (eqb (length table) 5000) (in_order r) refl refl e
  where
    by : (a b : Bool) → eqb (length table) 5000 ≡ a → in_order r ≡ b → (not a || not b) ≡ false → InOrder r × (length table ≡ 5000)
    by true true p q u = (told r q, eqb→eq (length table) 5000 (rw p tt))
    by true false p q u = absurd (subst T u tt)
    by false b p q u = absurd (subst T u tt)

-- ---- a list made anew
module _ {A : Type 0} (f : ℕ → A → A) where
  pub renewed_length : (n : ℕ) (xs : List A) → length (renewed f n xs) ≡ length xs
  renewed_length n [] = refl
  renewed_length n (x ∷ xs) = ap suc (renewed_length (suc n) xs)

  pub renewed_at : (n i : ℕ) (xs : List A) (d : A) → i < length xs → get_or (renewed f n xs) i d ≡ f (n + i) (get_or xs i d)
  renewed_at n i [] d h = absurd (omega arith)
  renewed_at n zero (x ∷ xs) d h =
      let e : n + 0 ≡ n = omega arith in
      rw e
  renewed_at n (suc i) (x ∷ xs) d h =
      let e : n + suc i ≡ suc n + i = omega arith in
      rw e (renewed_at (suc n) i xs d (omega arith))

-- ---- what the written entries give
module _ (r : Record) (table : List ℤ) where
  entries_all_ok : All EntryOk (entries r table)
  unfolding entries
  entries_all_ok = entries_ok (held r table) 1 5399

  given_held : (m : ℕ) → 1 ≤ m → m ≤ 5399 → given (entries r table) m ≡ held r table m
  unfolding entries
  given_held m h l = given_is (held r table) 1 5399 m h (omega arith)

  accepted : InOrder r → T (all_in_range (drop 1 table)) → refusal 0 (map some (entries r table)) ≡ 0
  unfolding entries
  accepted o t = none_refused (held r table) (held_allowed r table o t) 0 1 5399 (omega arith) (omega arith) (omega arith)

pub held_entry : (r : Record) (table : List ℤ) (n : ℕ) → 1 ≤ n → n ≤ 4999 → held r table n ≡ get_or table n (pos 0)
unfolding held
held_entry r table n h l = rw (entry_place n h l)

held_offset : (r : Record) (table : List ℤ) (i : ℕ) → i < 3 → held r table (offset_number i) ≡ (at r.offset i).0
unfolding held
held_offset r table i h = rw (offset_place i h)

held_origin : (r : Record) (table : List ℤ) (i : ℕ) → i < 27 → held r table (origin_number i) ≡ (at r.origins i).0
unfolding held
held_origin r table i h = rw (origin_place_holds i h)

held_system : (r : Record) (table : List ℤ) → InOrder r → system_code (nat_abs (held r table 5220)) ≡ r.system
unfolding held
held_system r table o = rw system_place (system_back r.system o.system)

-- the arrays have their lengths
pub record Shaped (r : Record) : Type 0 where
  pub offset : length r.offset ≡ 3
  pub origins : length r.origins ≡ 27

table_back : (r : Record) (table table' : List ℤ) → length table ≡ 5000 → length table' ≡ 5000 → table_from (entries r table) table' ≡ take 1 table' ++ drop 1 table
unfolding table_from
table_back r [] table' h l = absurd (omega arith)
table_back r (z ∷ zs) [] h l = absurd (omega arith)
table_back r (z ∷ zs) (x ∷ xs) h l =
    let es = entries r (z ∷ zs) in
    ap (λ (t : List ℤ). x ∷ t) (ext_get_or (pos 0) (renewed (entry_from es) 1 xs) zs (renewed_length (entry_from es) 1 xs ∙ omega arith) (λ i b. each i (omega (arith, renewed_length (entry_from es) 1 xs))))
  where
    each : (i : ℕ) → i < 4999 → get_or (renewed (entry_from (entries r (z ∷ zs))) 1 xs) i (pos 0) ≡ get_or zs i (pos 0)
    each i b =
        let es = entries r (z ∷ zs) in
        let e : 1 + i ≡ suc i = omega arith in
        renewed_at (entry_from es) 1 i xs (pos 0) (omega arith) ∙ rw e (given_held r (z ∷ zs) (suc i) (omega arith) (omega arith) ∙ held_entry r (z ∷ zs) (suc i) (omega arith) (omega arith))

-- lengths made anew from what is held are what was held
lengths_back : (es : List Entry) (number : ℕ → ℕ) (ls ls' : List Length) → length ls ≡ length ls' → ((i : ℕ) → i < length ls → given es (number i) ≡ (at ls i).0) → renewed (length_from es number) 0 ls' ≡ ls
lengths_back es number ls ls' h f =
    ext_get_or nowhere (renewed (length_from es number) 0 ls') ls (renewed_length (length_from es number) 0 ls' ∙ sym h) (λ i b. each i (omega (arith, renewed_length (length_from es number) 0 ls')))
  where
    each : (i : ℕ) → i < length ls → get_or (renewed (length_from es number) 0 ls') i nowhere ≡ get_or ls i nowhere
    each i b =
        let e : 0 + i ≡ i = omega arith in
        renewed_at (length_from es number) 0 i ls' nowhere (omega arith) ∙ rw e (ap counts (f i b))

-- what the file of r and table leaves of r' and table': entries 1 to 4999, offset, origins and system of the first, all else of the second
abbrev pub read_back : Record → List ℤ → Record → List ℤ → Loaded
read_back r table r' table' = record { number = 0; rec = with_offset r.offset (with_origins r.origins (with_system r.system r')); table = take 1 table' ++ drop 1 table }

record_back : (r r' : Record) (table : List ℤ) → InOrder r → Shaped r → Shaped r' → record_from (entries r table) r' ≡ with_offset r.offset (with_origins r.origins (with_system r.system r'))
unfolding record_from
record_back r r' table o s s' =
    let es = entries r table in
    let a : renewed (length_from es offset_number) 0 r'.offset ≡ r.offset =
    lengths_back es offset_number r.offset r'.offset (s.offset ∙ sym s'.offset) (λ i b. given_held r table (offset_number i) (omega arith) (omega (arith, s.offset)) ∙ held_offset r table i (omega (arith, s.offset))) in
    let b : renewed (length_from es origin_number) 0 r'.origins ≡ r.origins =
    lengths_back es origin_number r.origins r'.origins (s.origins ∙ sym s'.origins) (λ i b. given_held r table (origin_number i) (omega arith) (omega (arith, s.origins)) ∙ held_origin r table i (omega (arith, s.origins))) in
    let c : system_code (nat_abs (given es 5220)) ≡ r.system = rw (given_held r table 5220 (omega arith) (omega arith)) (held_system r table o) in
    rw (a, b, c)

-- ---- the file
map_found : (es : List Entry) → All EntryOk es → map parse (map write_entry es) ≡ map some es
map_found [] ok = refl
map_found (e ∷ es) ok = rw (found e ok.0, map_found es ok.1)

derived_some : (es : List Entry) → derived (map some es) ≡ es
derived_some [] = refl
derived_some (e ∷ es) = ap (λ (t : List Entry). e ∷ t) (derived_some es)

pub file_lines : (r : Record) (table : List ℤ) → lines (file r table) ≡ map write_entry (entries r table)
unfolding file
file_lines r table = lines_file (entries r table) (entries_all_ok r table)

file_back : (r r' : Record) (table table' : List ℤ) → InOrder r → length table ≡ 5000 → T (all_in_range (drop 1 table)) → Shaped r → Shaped r' → disorder r' table' ≡ false
    → loaded parse (file r table) r' table' ≡ read_back r table r' table'
unfolding loaded
file_back r r' table table' o l t s s' d =
    let es = entries r table in
    rw (file_lines r table, map_found es (entries_all_ok r table))
    (rw (d, accepted r table o t, derived_some es)
    (rw (record_back r r' table o s s', table_back r table table' l (ordered r' table' d).1)))

-- where a file is written, record and table are as number 1 and 23 ask, and the output begins with it
pub wrote : (r : Record) (table : List ℤ) (out : List ℕ) → (saved r table out).number ≡ 0
    → (disorder r table ≡ false) × T (all_in_range (drop 1 table)) × (take (saved r table out).count (saved r table out).out ≡ file r table)
unfolding saved
wrote r table out e = by (disorder r table) (all_in_range (drop 1 table)) (ltb (length out) (length (file r table))) refl refl refl e
  where
    by : (a b c : Bool) → disorder r table ≡ a → all_in_range (drop 1 table) ≡ b → ltb (length out) (length (file r table)) ≡ c → (saved_by (save_refusal r table (length out)) (file r table) out).number ≡ 0
        → (disorder r table ≡ false) × T (all_in_range (drop 1 table))
        × (take (saved_by (save_refusal r table (length out)) (file r table) out).count (saved_by (save_refusal r table (length out)) (file r table) out).out ≡ file r table)
    by true b c p q u e = absurd (let z : ◌≡◌ {A = ℕ} 1 0 = rw p at e in omega arith)
    by false false c p q u e = absurd (let z : ◌≡◌ {A = ℕ} 23 0 = rw (p, q) at e in omega arith)
    by false true true p q u e = absurd (let z : ◌≡◌ {A = ℕ} 24 0 = rw (p, q, u) at e in omega arith)
    by false true false p q u e = (p, rw q tt, rw (p, q, u) (take_at (file r table) (drop (length (file r table)) out) (length (file r table)) refl))

-- "What is written reads back to the same entries 1 to 4999, origins, offset and system; entry 0 and the rest of the record .. are kept"
pub round_trip : (r r' : Record) (table table' : List ℤ) (out : List ℕ) (after : Loaded) → Shaped r → Shaped r'
    → (saved r table out).number ≡ 0 → disorder r' table' ≡ false
    → Loads (take (saved r table out).count (saved r table out).out) r' table' after
    → after ≡ read_back r table r' table'
round_trip r r' table table' out after s s' w d l =
    let v = wrote r table out w in
    let o = ordered r table v.0 in
    loads_is (take (saved r table out).count (saved r table out).out) r' table' after l ∙ rw v.2 (file_back r r' table table' o.0 o.1 v.1 s s' d)
