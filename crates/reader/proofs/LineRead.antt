-- From the prepared bytes to the line's form: whoever reads as the model does leaves what the derivation says, or tells the place at which the form breaks.
-- Assumes nothing.
use mathlib.Core.Path.{◌≡◌, refl, sym, ap, ◌∙◌}
use mathlib.Core.Bool.{Bool, true, false, cond}
use mathlib.Core.List.{List, [], ◌∷◌, ◌++◌}
use mathlib.Core.Option.{Option, none, some}
use Prim.Native.Nat.{ℕ, ◌-◌, ◌≤◌, ◌<◌}
use Rattle.std.specs.Prelude.{Option as Answered, Some, None, Result, Ok, Err, eqb}
use Rattle.std.specs.Option.{ok_or}
use native.Mathlib.Omega.{arith}
use borrow.Author.Tests.{leb-true, leb-false, le-ltb, lt-ltb}
use lib.Dec.{leb, ltb}
use lib.IntN.{ℤ}
use lib.ListN.{length, take, drop, length-append}
use lib.Seq.{take_at}
use Rattle.grammar.specs.Grammar.{Line}
use Rattle.grammar.specs.Derivation.{strip, Derives, Place, Form, derived, breaks_at, ByForm}
use Rattle.grammar.specs.Typed.{typed_from}
use Rattle.grammar.specs.Work.{work, depth}
use Rattle.grammar.specs.Working.{Took, Contents, contents}
use Rattle.grammar.proofs.Read.{got, read_line}
use Rattle.grammar.proofs.LineBack.{line_back}
use Rattle.grammar.proofs.Lengths.{strip_length}
use Rattle.grammar.proofs.Place.{Placed, wrong, found, place}
use Rattle.grammar.proofs.Stuck.{stuck, none_fails, breaks, place_one}
use Rattle.grammar.proofs.Trees.{line_t}
use Rattle.rules.specs.Meaning.{Entry, words, settings}
use Rattle.rules.specs.Named.{refusal_of}
use Rattle.rules.specs.Refusals.{◌when◌, first}
use Rattle.rules.specs.Promise.{too_deep, panel, panel_place, underived, place_in}
use Rattle.rules.specs.declared.Refusal.{Refusal}
use Rattle.text.specs.Prepare.{bytes_of, prepared}
use Rattle.reader.specs.Pass.{guarded}
use Rattle.reader.specs.Reading.{Spaces, zeros, stored, Reading, stop_of, counted, outcome, left_for, Left, left, Reads, formed, form_answer, form_number, form_place}
use Rattle.reader.specs.Gather.{checked, left_by_line, typed_in, as_typed, form_said}
use Rattle.reader.specs.Number.{number_at, number_on}
use Rattle.reader.specs.declared.answer.Unread.TheVariants.{Refused, Skipped, Deep, Wrong, TooLong}
use Rattle.reader.specs.declared.answer.FormError.TheVariants.{TooLong as FormTooLong}
use Rattle.reader.proofs.Guarding.{guarded_line}
use Rattle.reader.proofs.Clash.{clash}
use Rattle.reader.proofs.Evaluating.{ok_one, err_one}

-- ---- the prepared bytes

module _ (l : List ℕ) (room : ℕ) where
  fits_is : {n : ℕ} → Some n ≡ bytes_of l room → (leb (length l) room ≡ true) × (n ≡ length (strip l))
  unfolding bytes_of
  fits_is {n} e = go (leb (length l) room) e
    where
      go : (c : Bool) → Some n ≡ cond c (Some (length (strip l))) None → (c ≡ true) × (n ≡ length (strip l))
      go true h = (refl, let k : n ≡ length (strip l) = cc in k)
      go false h = clash (cc)

  long_is : None ≡ bytes_of l room → leb (length l) room ≡ false
  unfolding bytes_of
  long_is e = go (leb (length l) room) e
    where
      go : (c : Bool) → None ≡ cond c (Some (length (strip l))) None → c ≡ false
      go true h = clash (cc)
      go false h = refl

-- where an option is asked for with an error in its place
pub ok_or_was : {A E : Type 0} {o s : Answered A} {r : Result A E} (why : E) {x : A} → r ≡ Ok x → r ≡ ok_or o why → o ≡ s → Some x ≡ s
ok_or_was {o = Some y} why e d h = (let k : ◌≡◌ {A = Result _ _} (Ok y) (Ok _) = sym d ∙ e in ap Some (sym (ok_one k))) ∙ h
ok_or_was {o = None} why e d h = clash (let k : ◌≡◌ {A = Result _ _} (Err _) (Ok _) = sym d ∙ e in cc)

pub none_was : {A E : Type 0} {o s : Answered A} {r : Result A E} (why : E) {no : E} → r ≡ Err no → r ≡ ok_or o why → o ≡ s → (None ≡ s) × (no ≡ why)
none_was {o = Some y} why e d h = clash (let k : ◌≡◌ {A = Result _ _} (Ok y) (Err _) = sym d ∙ e in cc)
none_was {o = None} why e d h = (h, (let k : ◌≡◌ {A = Result _ _} (Err _) (Err _) = sym e ∙ d in err_one k))

-- the line has been prepared into the front of a text of 256 bytes
module _ (l old : List ℕ) (room : length old ≡ 256) {n : ℕ} {text : List ℕ} (p : Some n ≡ bytes_of l (length old)) (q : text ≡ prepared l old) where
  content : text ≡ strip l ++ drop (length (strip l)) old
  unfolding prepared
  content = q ∙ rw (fits_is l (length old) p).0

  pub front_is : take n text ≡ strip l
  front_is = rw (content, (fits_is l (length old) p).1) (take_at (strip l) (drop (length (strip l)) old) (length (strip l)) refl)

  pub front_within : n ≤ length text
  front_within = omega (arith, (fits_is l (length old) p).1, ap length content, length-append (strip l) (drop (length (strip l)) old))

  pub front_long : n ≡ length (take n text)
  front_long = (fits_is l (length old) p).1 ∙ sym (ap length front_is)

  pub short : length l ≤ 256
  short = leb-true (length l) 256 (rw room at (fits_is l (length old) p).0)

  pub front_short : length (take n text) ≤ 256
  front_short = rw front_is (omega (arith, strip_length l, short))

pub too_long : (l : List ℕ) (room : ℕ) → room ≡ 256 → None ≡ bytes_of l room → 256 < length l
too_long l room e p = leb-false (length l) 256 (rw e at (long_is l room p))

-- ---- what the model's reader says, by the line's form

module _ (l : List ℕ) where
  -- a derived line
  line_found : {u : Line} → Derives u l → line_t (strip l) ≡ found u (length (strip l) - 0)
  unfolding line_t
  line_found {u} d = let back : read_line (strip l) ≡ got u [] = rw (d.writes, line_back u d.ok) in ap (place (strip l)) back

  -- a line that has no derivation: the pass stops where its form breaks
  line_stuck : ((u : Line) → ¬ Derives u l) → line_t (strip l) ≡ wrong (stuck (strip l))
  unfolding line_t stuck
  line_stuck h = let k = none_fails l h in rw k.1

  place_is : ((u : Line) → ¬ Derives u l) → {n : ℕ} → Place l n → typed_from false l (stuck (strip l)) ≡ n
  place_is h p = place_one (breaks l h) p

-- ---- the two promises

-- what a derivation gives has no place
unplaced_in : (l : List ℕ) (c : Bool) (why : Refusal) → typed_in l (Err (cond c Skipped (Refused why))) ≡ Err (cond c Skipped (Refused why))
unplaced_in l true why = refl
unplaced_in l false why = refl

placeless : (l : List ℕ) (c : Contents Entry) (old : Spaces) → as_typed l (left_for c old) ≡ left_for c old
placeless l c old = go (too_deep c)
  where
    whole : (o : Option ℕ) (w n k : ℕ) → typed_in l (counted o w n k) ≡ counted o w n k
    whole none w n k = refl
    whole (some m) w n k = unplaced_in l (eqb m 100) (refusal_of m)

    go : (d : Bool) → as_typed l (cond d (left (Err Deep) zeros) (left (outcome c.entries c.work) (stored c.entries old))) ≡ cond d (left (Err Deep) zeros) (left (outcome c.entries c.work) (stored c.entries old))
    go true = refl
    go false = ap (λ (x : Reading). left x (stored c.entries old)) (whole (stop_of c.entries) (length (words c.entries)) (length (settings c.entries)) c.work)

-- a line of at most 256 bytes, read as the model reads it
pub reads_by_form : (t : List ℤ) (l : List ℕ) (old : Spaces) {text : List ℕ} {m : Left} {r : Reading} {sp : Spaces} → length l ≤ 256 → text ≡ strip l →
    m ≡ left_by_line t (line_t text) old → left r sp ≡ as_typed l m → Reads l t old r sp
reads_by_form t l old {text} {m} {r} {sp} h f b e =
    let k : left r sp ≡ as_typed l (left_by_line t (line_t (strip l)) old) = e ∙ ap (as_typed l) (b ∙ ap (λ (x : List ℕ). left_by_line t (line_t x) old) f) in
    record {
      by_length = λ g. absurd (omega arith);
      by_form = λ _. record {
        by_tree = λ u d.
            k
            ∙ ap (λ (m : Placed Line). as_typed l (left_by_line t m old)) (line_found l d)
            ∙ placeless l (contents (guarded t) u) old
            ∙ ap (λ (e : Took Entry). left_for (record { entries = e; work = work u; depth = depth u }) old) (guarded_line t u);
        by_place = λ g n p. k ∙ ap (λ (m : Placed Line). as_typed l (left_by_line t m old)) (line_stuck l g) ∙ ap (λ (x : ℕ). left (Err (Wrong x)) zeros) (place_is l g p);
      };
    }

-- a longer one
pub long_by_form : (t : List ℤ) (l : List ℕ) (old : Spaces) → 256 < length l → Reads l t old (Err TooLong) old
long_by_form t l old h = record { by_length = λ g. refl; by_form = λ g. absurd (omega arith) }

pub form_by_form : (l : List ℕ) {text : List ℕ} {c : Result (Unit {0}) ℕ} → length l ≤ 256 → text ≡ strip l → c ≡ checked (line_t text) → ByForm l (form_answer l) (form_said l c)
form_by_form l {text} {c} h f e =
    let k : c ≡ checked (line_t (strip l)) = e ∙ ap (λ (x : List ℕ). checked (line_t x)) f in
    record {
      by_tree = λ u d. ap (form_said l) (k ∙ ap (λ (m : Placed Line). checked m) (line_found l d)) ∙ rw (le-ltb 256 (length l) h);
      by_place = λ g n p. ap (form_said l) (k ∙ ap (λ (m : Placed Line). checked m) (line_stuck l g)) ∙ rw (le-ltb 256 (length l) h, place_is l g p);
    }

pub long_form : (l : List ℕ) → 256 < length l → ByForm l (form_answer l) (Err FormTooLong)
long_form l h = record { by_tree = λ u d. rw (lt-ltb 256 (length l) h); by_place = λ g n p. rw (lt-ltb 256 (length l) h) }

-- its number and its place are the panel's
pub form_number_is : (l : List ℕ) (f : Form Line) → form_number (form_answer l f) ≡ panel l f
unfolding panel
form_number_is l f = go (ltb 256 (length l)) f
  where
    go : (c : Bool) (g : Form Line) → form_number (cond c (Err FormTooLong) (formed g)) ≡ first ((2 when c) ∷ (3 when underived g) ∷ [])
    go true g = refl
    go false (derived t) = refl
    go false (breaks_at n) = refl

pub form_place_is : (l : List ℕ) (f : Form Line) → form_place (form_answer l f) ≡ panel_place l f
unfolding panel panel_place
form_place_is l f = go (ltb 256 (length l)) f
  where
    go : (c : Bool) (g : Form Line) → form_place (cond c (Err FormTooLong) (formed g)) ≡ cond (eqb (first ((2 when c) ∷ (3 when underived g) ∷ [])) 3) (place_in g) 0
    go true g = refl
    go false (derived t) = refl
    go false (breaks_at n) = refl

-- ---- the N number

pub number_by_form : (l : List ℕ) {text : List ℕ} {r : Answered ℕ} → length l ≤ 256 → text ≡ strip l → r ≡ number_at (line_t text) → ByForm l (number_on l) r
unfolding number_on
number_by_form l {text} {r} h f e =
    let k : r ≡ number_at (line_t (strip l)) = e ∙ ap (λ (x : List ℕ). number_at (line_t x)) f in
    record { by_tree = λ u d. k ∙ ap number_at (line_found l d) ∙ rw (le-ltb 256 (length l) h); by_place = λ g n p. k ∙ ap number_at (line_stuck l g) }

pub long_number : (l : List ℕ) → 256 < length l → ByForm l (number_on l) None
unfolding number_on
long_number l h = record { by_tree = λ u d. rw (lt-ltb 256 (length l) h); by_place = λ g n p. refl }
