-- The file as code comes to it: what is held under a number, its line, and the lines from a number on.
-- Assumes nothing.
use mathlib.Core.Path.{◌≡◌, refl, sym, ap, ◌∙◌}
use mathlib.Core.Bool.{Bool, true, false, cond, not}
use mathlib.Core.List.{List, [], ◌∷◌, ◌++◌, append_assoc}
use Prim.Native.Nat.{ℕ, zero, suc, ◌+◌, ◌-◌, ◌/◌, ◌≤◌, ◌<◌}
use native.Mathlib.Numerals.{add-one}
use native.Mathlib.Omega.{arith}
use native.Mathlib.Decide.{dec_le}
use native.Mathlib.Nat.{lt_of_not-le}
use lib.Dec.{T, leb, leb→le}
use lib.IntN.{ℤ, pos, negsuc, nat_abs}
use lib.ListN.{length, set, drop, length-append}
use lib.Seq.{sets, sets-eq}
use borrow.Author.Tests.{lt-ltb, le-ltb}
use Rattle.std.specs.Prelude.{Ok, Err}
use Rattle.laws.proofs.Bools.{and_right}
use Rattle.grammar.specs.Bytes.{byte}
use Rattle.grammar.specs.Grammar.{Sign, unsigned, plus, minus as minus_sign, spell_sign, write_fraction, write_number}
use Rattle.rules.specs.Numbers.{minus, signed}
use Rattle.rules.specs.Promise.{disorder}
use Rattle.rules.specs.declared.Record.{Record}
use Rattle.frames.proofs.Stores.{sets_append}
use Rattle.parameters.specs.File.{Entry, write_entry}
use Rattle.parameters.specs.Places.{stands_for, decimals, allowed, lies, trimmed}
use Rattle.parameters.specs.Writing.{digits_of, without, last, fraction, sign_of, shortest, held_at, held, entry_for, said, entries_from, entries, write_file, line_for, file, all_in_range, saved_as, saved}
use Rattle.parameters.specs.declared.places.Place.{Place}
use Rattle.parameters.specs.declared.places.Place.TheVariants.{Entry as entry, Offset as offset, Origin as origin, System as system, Passed as passed}
use Rattle.parameters.specs.declared.refusal.FileRefusal.TheVariants.{Disorder, ValueUnfit, NoRoom}
use Rattle.parameters.proofs.Digits.{trim_short, last_length}
use Rattle.parameters.proofs.Puts.{count_one, count_step, without_less, number_size}
use Rattle.parameters.proofs.Held.{held_allowed}
use Rattle.parameters.proofs.RoundTrip.{ordered}

-- ---- what is held
pub held_at_holds : (r : Record) (table : List ℤ) (n : ℕ) (p : Place) {z : ℤ} → p ≡ stands_for n → z ≡ held_at r table p → z ≡ held r table n
unfolding held
held_at_holds r table n p e h = h ∙ ap (held_at r table) e

small : (r : Record) (table : List ℤ) (p : Place) → T (allowed p (held_at r table p)) → nat_abs (held_at r table p) ≤ 1000000000
small r table (entry n) t = omega (arith, leb→le (nat_abs (held_at r table (entry n))) 999999999 t)
small r table (offset i) t = leb→le (nat_abs (held_at r table (offset i))) 1000000000 t
small r table (origin i) t = leb→le (nat_abs (held_at r table (origin i))) 1000000000 t
small r table system t =
    let n = nat_abs (held_at r table system) in
    omega (arith, leb→le n 9 (and_right (leb 1 n) (leb n 9) (and_right (not (minus (held_at r table system))) (lies 1 9 n) t)))
small r table passed t = omega arith

-- of a record in order and a table in range, no more than a thousand million units
pub held_small : (r : Record) (table : List ℤ) → disorder r table ≡ false → T (all_in_range (drop 1 table)) → (n : ℕ) → nat_abs (held r table n) ≤ 1000000000
unfolding held
held_small r table d t n = small r table (stands_for n) (held_allowed r table (ordered r table d).0 t n)

-- ---- a line
number_is : (z : ℤ) → signed (minus z) (nat_abs z) ≡ z
number_is (pos n) = refl
number_is (negsuc n) = refl

-- the number of a line, by its sign, its size and its decimals
pub number_of_holds : (n : ℕ) (z : ℤ) {b : Bool} {size k : ℕ} {p : Place} → b ≡ minus z → size ≡ nat_abs z → k ≡ decimals p → p ≡ stands_for n
    → write_number (shortest k (signed b size)) ≡ write_number (shortest (decimals (stands_for n)) z)
number_of_holds n z e h g f = rw (e, h, g, f, number_is z)

abbrev worth : ℕ → ℤ → List ℕ
worth n z = write_number (shortest (decimals (stands_for n)) z)

line_is : (n : ℕ) (z : ℤ) → line_for n z ≡ digits_of n ++ (byte " " ∷ (worth n z ++ byte "\n" ∷ []))
unfolding line_for entry_for
line_is n z = append_assoc (digits_of n) (byte " " ∷ worth n z) (byte "\n" ∷ [])

pub line_length : (n : ℕ) (z : ℤ) {w : List ℕ} → w ≡ write_number (shortest (decimals (stands_for n)) z) → length (line_for n z) ≡ length (digits_of n) + 1 + length w + 1
line_length n z {w} e =
    ap length (line_is n z)
    ∙ omega (arith, ap length e, length-append (digits_of n) (byte " " ∷ (worth n z ++ byte "\n" ∷ [])), length-append (worth n z) (byte "\n" ∷ []))

pub line_put : {o₁ o₂ : List ℕ} {space end : ℕ} (l : List ℕ) (at n : ℕ) (z : ℤ) {w : List ℕ} → w ≡ write_number (shortest (decimals (stands_for n)) z)
    → space ≡ at + length (digits_of n) → o₁ ≡ sets l at (digits_of n)
    → end ≡ space + 1 + length w → o₂ ≡ sets (set o₁ space (byte " ")) (space + 1) w
    → (end + 1 ≡ at + length (line_for n z)) × (set o₂ end (byte "\n") ≡ sets l at (line_for n z))
line_put {o₁} {o₂} {space} {end} l at n z {w} e s h t g =
    let ds = digits_of n in
    let here : at + length ds ≡ space = sym s in
    let last : suc space + length (worth n z) ≡ end = omega (arith, ap length e) in
    let text : sets l at (line_for n z) ≡ set (sets (set (sets l at ds) space (byte " ")) (suc space) (worth n z)) end (byte "\n") =
    ap (sets l at) (line_is n z)
    ∙ sets_append ds (byte " " ∷ (worth n z ++ byte "\n" ∷ [])) l at
    ∙ ap (λ (k : ℕ). sets (sets l at ds) k (byte " " ∷ (worth n z ++ byte "\n" ∷ []))) here
    ∙ sets_append (worth n z) (byte "\n" ∷ []) (set (sets l at ds) space (byte " ")) (suc space)
    ∙ ap (λ (k : ℕ). set (sets (set (sets l at ds) space (byte " ")) (suc space) (worth n z)) k (byte "\n")) last in
    let put : o₂ ≡ sets (set (sets l at ds) space (byte " ")) (suc space) (worth n z) = g ∙ rw (add-one space, e, h) in
    (omega (arith, line_length n z e), ap (λ (o : List ℕ). set o end (byte "\n")) put ∙ sym text)

-- ---- the lines from a number on
unfoldable pub rest_from : Record → List ℤ → ℕ → List ℕ
rest_from r table n = write_file (entries_from (held r table) n (5400 - n))

write_append : (a b : List Entry) → write_file (a ++ b) ≡ write_file a ++ write_file b
write_append [] b = refl
write_append (e ∷ a) b = ap (λ (t : List ℕ). write_entry e ++ (byte "\n" ∷ t)) (write_append a b) ∙ sym (append_assoc (write_entry e) (byte "\n" ∷ write_file a) (write_file b))

module _ (r : Record) (table : List ℤ) where
  pub rest_first : rest_from r table 1 ≡ file r table
  unfolding rest_from file entries
  rest_first = refl

  pub rest_last : (n : ℕ) → 5400 ≤ n → rest_from r table n ≡ []
  unfolding rest_from
  rest_last n h = let e : 5400 - n ≡ 0 = omega arith in rw e

  module _ (n : ℕ) (h : n < 5400) {z : ℤ} (q : z ≡ held r table n) where
    step : rest_from r table n ≡ write_file (cond (said n (held r table n)) (entry_for n (held r table n) ∷ []) []) ++ rest_from r table (n + 1)
    unfolding rest_from
    step =
        let e : 5400 - n ≡ suc (5400 - suc n) = omega arith in
        rw (e, add-one n) (write_append (cond (said n (held r table n)) (entry_for n (held r table n) ∷ []) []) (entries_from (held r table) (suc n) (5400 - suc n)))

    pub rest_said : said n z ≡ true → rest_from r table n ≡ line_for n z ++ rest_from r table (n + 1)
    unfolding line_for
    rest_said t = step ∙ rw (← q, t)

    pub rest_unsaid : said n z ≡ false → rest_from r table n ≡ rest_from r table (n + 1)
    rest_unsaid t = step ∙ rw (← q, t)

-- ---- all that a call leaves
module _ (r : Record) (table : List ℤ) (out : List ℕ) where
  pub saved_1 : disorder r table ≡ true → saved_as (Err Disorder) out ≡ saved r table out
  unfolding saved
  saved_1 d = rw d

  pub saved_23 : disorder r table ≡ false → all_in_range (drop 1 table) ≡ false → saved_as (Err ValueUnfit) out ≡ saved r table out
  unfolding saved
  saved_23 d t = rw (d, t)

  pub saved_24 : disorder r table ≡ false → all_in_range (drop 1 table) ≡ true → length out < length (file r table) → saved_as (Err NoRoom) out ≡ saved r table out
  unfolding saved
  saved_24 d t h = rw (d, t, lt-ltb (length out) (length (file r table)) h)

  pub saved_0 : {count : ℕ} {left : List ℕ} → disorder r table ≡ false → all_in_range (drop 1 table) ≡ true → count ≡ length (file r table) → count ≤ length out → left ≡ sets out 0 (file r table)
      → saved_as (Ok count) left ≡ saved r table out
  unfolding saved
  saved_0 {count} {left} d t e h g =
      let l : length (file r table) ≤ length out = omega arith in
      let p : sets out 0 (file r table) ≡ file r table ++ drop (length (file r table)) out = sets-eq (file r table) out 0 (omega arith) ∙ (let z : 0 + length (file r table) ≡ length (file r table) = omega arith in rw z) in
      rw (d, t, le-ltb (length out) (length (file r table)) l) (rw (e, g, p))

pub few_decimals : (p : Place) → decimals p ≤ 5
few_decimals (entry n) = omega arith
few_decimals (offset i) = omega arith
few_decimals (origin i) = omega arith
few_decimals system = omega arith
few_decimals passed = omega arith

-- ---- a line is short
abbrev below : ℕ → ℕ → Type 0
below zero n = n < 10
below (suc j) n = below j (n / 10)

digits_few : (j n : ℕ) → below j n → length (digits_of n) ≤ suc j
digits_few zero n h = omega (arith, count_one n h)
digits_few (suc j) n h = elim (dec_le 10 n) [
  | yes k ↦ omega (arith, count_step n k, digits_few j (n / 10) h)
  | no k ↦ (let l : n < 10 = lt_of_not-le k in omega (arith, count_one n l))
]

digits_short : (n : ℕ) → n ≤ 1000000000 → length (digits_of n) ≤ 10
digits_short n h = digits_few 9 n (omega arith)

sign_short : (s : Sign) → length (spell_sign s) ≤ 1
sign_short unsigned = omega arith
sign_short plus = omega arith
sign_short minus_sign = omega arith

fraction_short : (ds : List ℕ) → length (write_fraction (fraction ds)) ≤ suc (length ds)
fraction_short [] = omega arith
fraction_short (d ∷ ds) = omega arith

pub line_short : (n : ℕ) (z : ℤ) → n ≤ 5399 → nat_abs z ≤ 1000000000 → length (line_for n z) ≤ 32
line_short n z h l =
    let k = decimals (stands_for n) in
    let m = nat_abs z in
    let p : k ≤ 5 = few_decimals (stands_for n) in
    let w : without k m ≤ m = without_less k m in
    omega (
      arith,
      line_length n z (ap (λ (x : ℤ). write_number (shortest k x)) (number_is z)),
      number_size k (minus z) m,
      digits_short n (omega arith),
      digits_short (without k m) (omega arith),
      sign_short (sign_of (minus (signed (minus z) m))),
      fraction_short (trimmed (last k m)),
      trim_short (last k m),
      last_length k m,
    )

-- ---- a turn of the loop that puts the lines: what is put and what is still to be put come to the same
pub put_on : {t : List ℕ} {to : ℕ} {all : List ℕ} (l : List ℕ) (at : ℕ) (line rest : List ℕ) → t ≡ sets l at line → to ≡ at + length line → all ≡ line ++ rest → sets t to rest ≡ sets l at all
put_on l at line rest e h g = rw (e, h, g) (sym (sets_append line rest l at))

pub none_on : {t : List ℕ} {to : ℕ} {all : List ℕ} (l : List ℕ) (at : ℕ) (rest : List ℕ) → t ≡ l → to ≡ at → all ≡ rest → sets t to rest ≡ sets l at all
none_on l at rest e h g = rw (e, h, g)
