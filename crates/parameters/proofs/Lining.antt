-- A line as code comes to it: its digits, its blanks, the parts of its number, and then its refusal or its value.
-- Assumes nothing.
use mathlib.Core.Path.{◌≡◌, refl, sym, ap, ◌∙◌}
use mathlib.Core.Bool.{Bool, true, false, true≢false, cond, not, ◌&&◌, ◌||◌}
use mathlib.Core.List.{List, [], ◌∷◌, ◌++◌}
use mathlib.Core.Logic.{◌⊎◌, inl, inr}
use mathlib.Core.Option.{Option, none, some}
use Prim.Native.Nat.{ℕ, ◌+◌, ◌≤◌, ◌<◌, min}
use native.Mathlib.Omega.{arith}
use lib.Dec.{leb, ltb}
use lib.IntN.{ℤ}
use lib.ListN.{length, length-append}
use borrow.Author.Tests.{le-leb, lt-leb, le-ltb, lt-ltb}
use Rattle.std.specs.Prelude.{Some, Result, Ok, Err}
use Rattle.grammar.specs.Grammar.{Sign, Fraction, Number, num, fraction_digits, digit}
use Rattle.grammar.specs.Derivation.{blank}
use Rattle.grammar.proofs.Read.{fail, got, take_while, drop_while, read_fraction, finish, read_number}
use Rattle.rules.specs.Meaning.{decimal}
use Rattle.parameters.specs.File.{Entry}
use Rattle.parameters.specs.Places.{lies, stands_for, decimals, allowed, judged, fine, trimmed, value_in, unfit}
use Rattle.parameters.specs.Refusal.{refusal_number}
use Rattle.parameters.specs.Reading.{number_of, line_refusal, value_at}
use Rattle.parameters.specs.Parse.{alone, joined, parse}
use Rattle.parameters.specs.Told.{SignOf, PartsOf, ParsedAs, valued_by, Gives, SaidAs}
use Rattle.parameters.specs.declared.places.Place.{Place}
use Rattle.parameters.specs.declared.places.Place.TheVariants.{Entry as entry, Offset as offset, Origin as origin, System as system, Passed as passed}
use Rattle.parameters.specs.declared.refusal.FileRefusal.{FileRefusal}
use Rattle.parameters.specs.declared.refusal.FileRefusal.TheVariants.{ValueUnfit}
use Rattle.parameters.specs.declared.lines.Signed.{Signed}
use Rattle.parameters.specs.declared.lines.Parts.{Parts}
use Rattle.parameters.specs.declared.lines.Said.{Said}

-- ---- a number with nothing behind it
module _ (g : Sign) (ds : List ℕ) (f : Fraction) where
  finish_some : 1 ≤ length ds + length (fraction_digits f) → alone (finish g ds f []) ≡ some (num g ds f)
  finish_some h = rw (le-leb 1 (length (ds ++ fraction_digits f)) (omega (arith, length-append ds (fraction_digits f))))

  finish_more : (r : List ℕ) → 1 ≤ length r → alone (finish g ds f r) ≡ none
  finish_more [] h = absurd (omega arith)
  finish_more (b ∷ r) h = by (leb 1 (length (ds ++ fraction_digits f)))
    where
      by : (c : Bool) → alone (cond c (got (num g ds f) (b ∷ r)) (fail (b ∷ r))) ≡ none
      by true = refl
      by false = refl

-- a number by what stands behind its sign and its digits
module _ (s : List ℕ) {g : Signed} (p : SignOf s g) {front behind : List ℕ} (a : front ≡ take_while digit g.behind.now) (b : behind ≡ drop_while digit g.behind.now) where
  form : {f : Fraction} {r : List ℕ} → read_fraction behind ≡ got f r → read_number s ≡ finish p.sign front f r
  form e = rw (p.is, ← a, ← b, e)

  pub number_trailing : (f : Fraction) × (r : List ℕ) × (read_fraction behind ≡ got f r) × (1 ≤ length r) → alone (read_number s) ≡ none
  number_trailing (f, r, e, h) = ap alone (form e) ∙ finish_more p.sign front f r h

  module _ {d : List ℕ} (t : (f : Fraction) × (read_fraction behind ≡ got f []) × (d ≡ fraction_digits f)) where
    pub number_there : {q : Parts} → (length front + length d ≡ 0 → ⊥) → q.negative ≡ g.negative → q.whole.now ≡ front → q.decimals.now ≡ trimmed d → ParsedAs (Some q) (alone (read_number s))
    number_there h i j k = (num p.sign front t.0, ap alone (form t.1) ∙ finish_some p.sign front t.0 (omega (arith, h, ap length t.2)), record { minus = i ∙ p.minus; digits = j; decimals = k ∙ ap trimmed t.2 })

-- ---- the line
joined_none : (ds bs : List ℕ) (o : Option Number) → length ds ≡ 0 → joined ds bs o ≡ none
joined_none ds bs none h = refl
joined_none ds bs (some n) h = rw (lt-leb 1 (length ds) (omega arith))

joined_blank : (ds bs : List ℕ) (o : Option Number) → length bs ≡ 0 → joined ds bs o ≡ none
joined_blank ds bs none h = refl
joined_blank ds bs (some n) h = rw (lt-leb 1 (length bs) (omega arith)) (by (leb 1 (length ds)))
  where
    by : (c : Bool) → cond {A = Option Entry} (c && false) (some (record { digits = ds; blanks = bs; value = n })) none ≡ none
    by true = refl
    by false = refl

pub malformed : (least : ℕ) {o : Option Entry} → o ≡ none → line_refusal least o ≡ 20
unfolding line_refusal
malformed least e = rw e

module _ (s : List ℕ) (least : ℕ) {ds r bs w : List ℕ} (a : ds ≡ take_while digit s) (b : r ≡ drop_while digit s) (d : bs ≡ take_while blank r) (e : w ≡ drop_while blank r) where
  parse_is : parse s ≡ joined ds bs (alone (read_number w))
  unfolding parse
  parse_is = rw (e, d, b, a)

  pub line_no_number : length ds ≡ 0 → line_refusal least (parse s) ≡ 20
  line_no_number h = malformed least (parse_is ∙ joined_none ds bs (alone (read_number w)) h)

  pub line_no_blank : length bs ≡ 0 → line_refusal least (parse s) ≡ 20
  line_no_blank h = malformed least (parse_is ∙ joined_blank ds bs (alone (read_number w)) h)

  pub line_no_value : alone (read_number w) ≡ none → line_refusal least (parse s) ≡ 20
  line_no_value h = malformed least (parse_is ∙ ap (joined ds bs) h)

  -- a line of right form is an entry, of which it says what that one says
  pub line_said : {p : Parts} {n : ℕ} (said : Result Said FileRefusal) → (length ds ≡ 0 → ⊥) → (length bs ≡ 0 → ⊥) → (x : Number) × (alone (read_number w) ≡ some x) × PartsOf p x
      → n ≡ min 10000000000 (decimal 0 ds) → ((o : Entry) → n ≡ min 10000000000 (number_of o) → PartsOf p o.value → SaidAs least said (some o)) → SaidAs least said (parse s)
  line_said said h k (x, f, q) m g =
      let there : parse s ≡ some (record { digits = ds; blanks = bs; value = x }) = parse_is ∙ rw (f, le-leb 1 (length ds) (omega (arith, h)), le-leb 1 (length bs) (omega (arith, k))) in
      rw there (g (record { digits = ds; blanks = bs; value = x }) m q)

-- a place that is not passed over is judged
pub judged_but : (p : Place) → (p ≡ passed → ⊥) → judged p ≡ true
judged_but (entry n) h = refl
judged_but (offset i) h = refl
judged_but (origin i) h = refl
judged_but system h = refl
judged_but passed h = absurd (h refl)

-- ---- a line of right form
module _ (least : ℕ) (l : least ≤ 5400) (e : Entry) {number : ℕ} (q : number ≡ min 10000000000 (number_of e)) where
  pub said_21 : number < least → line_refusal least (some e) ≡ 21
  unfolding line_refusal
  said_21 h = rw (lt-ltb (number_of e) least (omega arith))

  module _ (h : least ≤ number) where
    rises : ltb (number_of e) least ≡ false
    rises = le-ltb (number_of e) least (omega arith)

    pub said_22 : (number < 1) ⊎ ((1 ≤ number) × (5399 < number)) → line_refusal least (some e) ≡ 22
    unfolding line_refusal
    said_22 (inl k) = rw (rises, lt-leb 1 (number_of e) (omega arith))
    said_22 (inr (k, m)) = rw (rises, le-leb 1 (number_of e) (omega arith), lt-leb (number_of e) 5399 (omega arith))

    module _ (k : 1 ≤ number) where
      module _ (m : number ≤ 5399) where
        same : number_of e ≡ number
        same = omega arith

        inside : lies 1 5399 (number_of e) ≡ true
        inside = rw (le-leb 1 (number_of e) (omega arith), le-leb (number_of e) 5399 (omega arith))

        pub said_passed : {p : Place} → p ≡ stands_for number → judged p ≡ false → (z : ℤ) → Gives least (record { number = number; value = z }) (some e)
        unfolding line_refusal unfit
        said_passed f j z =
            let none_of : judged (stands_for (number_of e)) ≡ false = rw (same, ← f) j in
            record { entry = e; is = refl; right = rw (rises, inside, none_of); number = same; small = m; value = λ t. absurd (true≢false (sym t ∙ (rw same at none_of))) }

        module _ {p : Place} (f : p ≡ stands_for number) (j : judged p ≡ true) where
          judges : judged (stands_for (number_of e)) ≡ true
          judges = rw (same, ← f) j

          abbrev bad : Bool
          bad = ltb (decimals (stands_for (number_of e))) (length (fine e.value)) || not (allowed (stands_for (number_of e)) (value_in (decimals (stands_for (number_of e))) e.value))

          there : {v : Result ℤ FileRefusal} → v ≡ valued_by p e.value → v ≡ valued_by (stands_for (number_of e)) e.value
          there u = u ∙ ap (λ (x : Place). valued_by x e.value) (f ∙ ap stands_for (sym same))

          pub said_unfit : {why : FileRefusal} → Err why ≡ valued_by p e.value → line_refusal least (some e) ≡ refusal_number why
          unfolding line_refusal unfit
          said_unfit {why} u = rw (rises, inside, judges) (by bad (there u))
            where
              by : (c : Bool) → Err why ≡ cond c (Err ValueUnfit) (Ok (value_in (decimals (stands_for (number_of e))) e.value)) → cond c 23 0 ≡ refusal_number why
              by true w = let k : ValueUnfit ≡ why = cc in ap refusal_number k
              by false w = cc

          pub said_value : (z : ℤ) → Ok z ≡ valued_by p e.value → Gives least (record { number = number; value = z }) (some e)
          unfolding line_refusal unfit
          said_value z u = record { entry = e; is = refl; right = rw (rises, inside, judges) (clear bad (there u)); number = same; small = m; value = λ t. worth_is bad (there u) }
            where
              clear : (c : Bool) → Ok z ≡ cond c (Err ValueUnfit) (Ok (value_in (decimals (stands_for (number_of e))) e.value)) → ◌≡◌ {A = ℕ} (cond c 23 0) 0
              clear true w = cc
              clear false w = refl

              worth_is : (c : Bool) → Ok z ≡ cond c (Err ValueUnfit) (Ok (value_in (decimals (stands_for (number_of e))) e.value)) → value_at e ≡ z
              worth_is true w = cc
              worth_is false w = cc
