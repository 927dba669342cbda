-- Demand 3, of what `read` leaves: for a derived line the tree's words and settings, in order and with their values, up to the first of numbers 5 to 7 or a condition's no;
-- and a wrong form exactly where there is no derivation. Every law here follows from the contract alone.
-- Assumes nothing.
use mathlib.Core.Path.{◌≡◌, refl, sym, ap, subst, ◌∙◌}
use mathlib.Core.Bool.{Bool, true, false, cond}
use mathlib.Core.List.{List, [], ◌∷◌, ◌++◌, map}
use mathlib.Core.Logic.{◌⊎◌, inl, inr, ⊎_elim}
use mathlib.Core.Option.{Option, none, some}
use Prim.Native.Nat.{ℕ, ◌+◌, ◌≤◌, ◌<◌}
use native.Mathlib.Omega.{arith}
use borrow.Author.Tests.{leb-true, leb-false, ne_eqb}
use lib.Dec.{eqb, leb}
use native.Mathlib.Decide.{ℕ_discrete}
use lib.IntN.{ℤ}
use lib.ListN.{length, drop, length-map}
use lib.Seq.{sets, sets-eq}
use Rattle.grammar.specs.Grammar.{Item, word, setting, comment, Mark, unmarked, plain, conditional, Line, line}
use Rattle.grammar.specs.Derivation.{Derives, Place}
use Rattle.grammar.specs.Work.{work}
use Rattle.grammar.specs.Working.{Step, skip, stop, Took, end, stopped, took, Contents, after, value, expression, entries, mark_step, line_entries, contents}
use Rattle.grammar.proofs.Stuck.{stuck_at, breaks}
use Rattle.grammar.proofs.ByForm.{by_form_sole}
use Rattle.grammar.proofs.Lengths.{word_count, setting_count, items_of, few}
use Rattle.rules.specs.Meaning.{Worked, Entry, word_of, setting_of, setting_at, parameter_of, runs, condition_of, arithmetic, stopped_by, Said, Setting, words, settings}
use Rattle.rules.specs.Named.{refusal_number, refusal_of}
use Rattle.rules.specs.Promise.{too_deep}
use Rattle.std.specs.Prelude.{Option as Maybe, Some, None, Ok, Err}
use Rattle.reader.specs.Reading.{Spaces, zeros, stored, Reading, whole, unread_of, stop_of, counted, outcome, left_for, Left, left, Reads}
use Rattle.reader.specs.declared.answer.Read.{Read}
use Rattle.reader.specs.declared.answer.Unread.{Unread}
use Rattle.reader.specs.declared.answer.Unread.TheVariants.{Refused, Skipped, Deep, Wrong, TooLong}
use Rattle.reader.proofs.Stops.{Refusal, Stopping, StopsSo, line_stops}
use Rattle.reader.proofs.Clash.{clash}
use Rattle.reader.proofs.Evaluating.{ok_one}

-- ---- what an answer for a tree tells

never_wrong : (o : Option ℕ) (w n k : ℕ) {p : ℕ} {X : Type 0} → counted o w n k ≡ Err (Wrong p) → X
never_wrong none w n k e = clash (cc)
never_wrong (some m) w n k {p} {X} e = go (eqb m 100) e
  where
    go : (c : Bool) → ◌≡◌ {A = Reading} (Err (cond c Skipped (Refused (refusal_of m)))) (Err (Wrong p)) → X
    go true h = clash (cc)
    go false h = clash (cc)

never_deep : (o : Option ℕ) (w n k : ℕ) {X : Type 0} → counted o w n k ≡ Err Deep → X
never_deep none w n k e = clash (cc)
never_deep (some m) w n k {X} e = go (eqb m 100) e
  where
    go : (c : Bool) → ◌≡◌ {A = Reading} (Err (cond c Skipped (Refused (refusal_of m)))) (Err Deep) → X
    go true h = clash (cc)
    go false h = clash (cc)

-- what stops a reading, by its number: a refusal has its own, and a condition's no that of a skip
abbrev pub Stops : Unread → ℕ → Type 0
Stops (Refused why) k = refusal_number why ≡ k
Stops Skipped k = 100 ≡ k
Stops Deep k = ⊥
Stops (Wrong p) k = ⊥
Stops TooLong k = ⊥

-- one of numbers 5 to 7 names the refusal that carries it
named : (m : ℕ) → Refusal m → refusal_number (refusal_of m) ≡ m
named m q = elim (ℕ_discrete m 5) [
  | yes e ↦ rw e
  | no five ↦ elim (ℕ_discrete m 6) [
    | yes e ↦ rw e
    | no six ↦ (let e : m ≡ 7 = omega (arith, q.low, q.high) in rw e)
  ]
]

stops_one : (m : ℕ) → Stopping m → (why : Unread) {k : ℕ} → unread_of m ≡ why → Stops why k → m ≡ k
stops_one m s why {k} e h = ⊎_elim skipped refused s
  where
    skipped : m ≡ 100 → m ≡ k
    skipped z =
        let t : unread_of m ≡ Skipped = rw z in
        let w : why ≡ Skipped = sym e ∙ t in
        let u : Stops Skipped k = subst (λ (x : Unread). Stops x k) w h in
        z ∙ u

    refused : Refusal m → m ≡ k
    refused q =
        let z : unread_of m ≡ Refused (refusal_of m) = rw (ne_eqb m 100 (λ x. omega (arith, q.high, x))) in
        let w : why ≡ Refused (refusal_of m) = sym e ∙ z in
        let u : Stops (Refused (refusal_of m)) k = subst (λ (x : Unread). Stops x k) w h in
        sym (named m q) ∙ u

-- the number that stopped the reading is the rules' one
stopped_is : (e : Took Entry) (w n k : ℕ) {why : Unread} {m : ℕ} → counted (stop_of e) w n k ≡ Err why → Stops why m → StopsSo e → (stopped_by e ≡ m) × Stopping m
stopped_is end w n k h z s = clash (cc)
stopped_is (stopped x) w n k {why} {m} h z s = let d : x ≡ m = stops_one x s why (cc) z in (d, rw d at s)
stopped_is (took x e) w n k h z s = stopped_is e w n k h z s

whole_is : (e : Took Entry) (w n k : ℕ) {v m j : ℕ} → counted (stop_of e) w n k ≡ whole v m j → (stopped_by e ≡ 0) × (w ≡ v) × (n ≡ m) × (k ≡ j)
whole_is end w n k h =
    let e = ok_one h in
    (refl, ap (λ (x : Read). x.words) e, ap (λ (x : Read). x.settings) e, ap (λ (x : Read). x.work) e)
whole_is (stopped m) w n k h = clash (cc)
whole_is (took x e) w n k h = whole_is e w n k h

-- an answer is too deep, or it is that of the words and settings
by_depth : (c : Contents Entry) (old : Spaces) {r : Reading} → r ≡ (left_for c old).answer → ((too_deep c ≡ true) × (r ≡ Err Deep)) ⊎ ((too_deep c ≡ false) × (r ≡ outcome c.entries c.work))
by_depth c old {r} e = go (too_deep c) refl e
  where
    go : (d : Bool) → too_deep c ≡ d → r ≡ (cond d (left (Err Deep) zeros) (left (outcome c.entries c.work) (stored c.entries old))).answer →
        ((too_deep c ≡ true) × (r ≡ Err Deep)) ⊎ ((too_deep c ≡ false) × (r ≡ outcome c.entries c.work))
    go true d h = inl (d, h)
    go false d h = inr (d, h)

-- ---- the lent spaces have room for a derived line

module _ (t : List ℤ) where
  -- an item adds a word only where it is one, and a setting likewise
  record Adds (w n : ℕ) (st : Step Entry) : Type 0 where
    words_more : (e : Took Entry) → length (words (after st e)) ≤ w + length (words e)
    settings_more : (e : Took Entry) → length (settings (after st e)) ≤ n + length (settings e)

  word_adds : (b : ℕ) (a : Worked) → Adds 1 0 (word_of b a)
  word_adds b (Ok v) = record { words_more = λ e. omega arith; settings_more = λ e. omega arith }
  word_adds b (Err k) = record { words_more = λ e. omega arith; settings_more = λ e. omega arith }

  setting_adds : (a b : Worked) → Adds 0 1 (setting_of a b)
  setting_adds (Err k) b = record { words_more = λ e. omega arith; settings_more = λ e. omega arith }
  setting_adds (Ok v) b = go (parameter_of v.0) b
    where
      go : (q : Maybe ℕ) (b : Worked) → Adds 0 1 (setting_at q b)
      go None b = record { words_more = λ e. omega arith; settings_more = λ e. omega arith }
      go (Some n) (Ok w) = record { words_more = λ e. omega arith; settings_more = λ e. omega arith }
      go (Some n) (Err k) = record { words_more = λ e. omega arith; settings_more = λ e. omega arith }

  -- a mark adds neither
  mark_adds : (m : Mark) → Adds 0 0 (mark_step (arithmetic t) m)
  mark_adds unmarked = record { words_more = λ e. omega arith; settings_more = λ e. omega arith }
  mark_adds (plain k) = record { words_more = λ e. omega arith; settings_more = λ e. omega arith }
  mark_adds (conditional k x) = said (expression (arithmetic t) x)
    where
      go : (c : Bool) → Adds 0 0 (cond c skip (stop 100))
      go true = record { words_more = λ e. omega arith; settings_more = λ e. omega arith }
      go false = record { words_more = λ e. omega arith; settings_more = λ e. omega arith }

      said : (a : Worked) → Adds 0 0 (condition_of k a)
      said (Err j) = record { words_more = λ e. omega arith; settings_more = λ e. omega arith }
      said (Ok v) = go (runs k v.0)

  counts : (is : List Item) → (length (words (entries (arithmetic t) is)) ≤ word_count is) × (length (settings (entries (arithmetic t) is)) ≤ setting_count is)
  counts [] = (omega arith, omega arith)
  counts (word b v ∷ is) =
      let k = word_adds b (value (arithmetic t) v) in
      (omega (arith, counts is, k.words_more (entries (arithmetic t) is)), omega (arith, counts is, k.settings_more (entries (arithmetic t) is)))
  counts (setting v w ∷ is) =
      let k = setting_adds (value (arithmetic t) v) (value (arithmetic t) w) in
      (omega (arith, counts is, k.words_more (entries (arithmetic t) is)), omega (arith, counts is, k.settings_more (entries (arithmetic t) is)))
  counts (comment bs ∷ is) = counts is

  pub line_counts : (u : Line) → (length (words (line_entries (arithmetic t) u)) ≤ word_count (items_of u)) × (length (settings (line_entries (arithmetic t) u)) ≤ setting_count (items_of u))
  line_counts (line m n is) =
      let k = mark_adds m in
      (omega (arith, counts is, k.words_more (entries (arithmetic t) is)), omega (arith, counts is, k.settings_more (entries (arithmetic t) is)))

-- stored from the front, and past that what was there
at_front : {X Y : Type 0} (f : X → Y) (xs : List X) (old : List Y) → length xs ≤ length old → sets old 0 (map f xs) ≡ map f xs ++ drop (length xs) old
at_front f xs old h =
    let k : 0 + length (map f xs) ≡ length xs = (let z = length-map xs f in omega arith) in
    sets-eq (map f xs) old 0 (omega (arith, k)) ∙ ap (λ (n : ℕ). map f xs ++ drop n old) k

-- the spaces begin with the words and settings of a reading, and past those hold what was there
pub record Fronts (e : Took Entry) (old sp : Spaces) : Type 0 where
  pub letters : sp.letters ≡ map (λ (x : Said). x.letter) (words e) ++ drop (length (words e)) old.letters
  pub values : sp.values ≡ map (λ (x : Said). x.value) (words e) ++ drop (length (words e)) old.values
  pub numbers : sp.numbers ≡ map (λ (x : Setting). x.number) (settings e) ++ drop (length (settings e)) old.numbers
  pub amounts : sp.amounts ≡ map (λ (x : Setting). x.value) (settings e) ++ drop (length (settings e)) old.amounts

-- ---- the promise, for a line of at most 256 bytes

module _ (l : List ℕ) (t : List ℤ) (old : Spaces) (r : Reading) (sp : Spaces) (h : length l ≤ 256) (p : Reads l t old r sp) where
  -- what is left is the derivation's
  module _ (u : Line) (d : Derives u l) where
    -- what the tree gives
    abbrev gives : Contents Entry
    gives = contents (arithmetic t) u

    is_answer : r ≡ (left_for gives old).answer
    is_answer = ap (λ (x : Left). x.answer) ((p.by_form h).by_tree u d)

    -- a line that nests deeper than 24 is told so, and nothing of it is left
    pub tree_deep : too_deep gives ≡ true → (r ≡ Err Deep) × (sp ≡ zeros)
    tree_deep e =
        let k : left r sp ≡ left (Err Deep) zeros = (p.by_form h).by_tree u d ∙ rw e in
        (ap (λ (x : Left). x.answer) k, ap (λ (x : Left). x.lent) k)

    -- and only such a line
    pub deep_tree : r ≡ Err Deep → too_deep gives ≡ true
    deep_tree e = ⊎_elim (λ k. k.0) (λ k. never_deep (stop_of gives.entries) _ _ _ (sym k.1 ∙ e)) (by_depth gives old is_answer)

    module _ (n : too_deep gives ≡ false) where
      shallow : left r sp ≡ left (outcome gives.entries gives.work) (stored gives.entries old)
      shallow = (p.by_form h).by_tree u d ∙ rw n

      -- the answer of any other: how many words and settings the tree has and its work, or the number that stopped the reading
      pub tree_answer : r ≡ outcome (line_entries (arithmetic t) u) (work u)
      tree_answer = ap (λ (x : Left). x.answer) shallow

      -- its words and settings are stored, in order, with their values
      pub tree_stored : sp ≡ stored (line_entries (arithmetic t) u) old
      tree_stored = ap (λ (x : Left). x.lent) shallow

      -- so the spaces begin with them, and past them hold what was there
      pub tree_fronts : length old.letters ≡ 128 → length old.values ≡ 128 → length old.numbers ≡ 64 → length old.amounts ≡ 64 → Fronts (line_entries (arithmetic t) u) old sp
      tree_fronts a b c g =
          let k = line_counts t u in
          let m = few d h in
          rw tree_stored
          (record {
            letters = at_front (λ (x : Said). x.letter) (words (line_entries (arithmetic t) u)) old.letters (omega (arith, k, m));
            values = at_front (λ (x : Said). x.value) (words (line_entries (arithmetic t) u)) old.values (omega (arith, k, m));
            numbers = at_front (λ (x : Setting). x.number) (settings (line_entries (arithmetic t) u)) old.numbers (omega (arith, k, m));
            amounts = at_front (λ (x : Setting). x.value) (settings (line_entries (arithmetic t) u)) old.amounts (omega (arith, k, m));
          })

    -- a line that is read nests no deeper than 24 and is stopped by no number; the counts are those of its words and settings, and the work is its own
    pub tree_read : (w n k : ℕ) → r ≡ whole w n k →
        (too_deep gives ≡ false) × (stopped_by (line_entries (arithmetic t) u) ≡ 0) × (length (words (line_entries (arithmetic t) u)) ≡ w) × (length (settings (line_entries (arithmetic t) u)) ≡ n) × (work u ≡ k)
    tree_read w n k e = ⊎_elim (λ z. clash (cc (z.1, e))) (λ z. let m = whole_is (line_entries (arithmetic t) u) _ _ _ (sym z.1 ∙ e) in (z.0, m.0, m.1, m.2, m.3)) (by_depth gives old is_answer)

    -- and a line that is stopped nests no deeper either, and is stopped by the number that the rules name, one of 5 to 7 or 100
    pub tree_stopped : (why : Unread) (k : ℕ) → Stops why k → r ≡ Err why → (too_deep gives ≡ false) × (stopped_by (line_entries (arithmetic t) u) ≡ k) × Stopping k
    tree_stopped why k h e =
        ⊎_elim
        (λ z. let d : Stops Deep k = subst (λ (x : Unread). Stops x k) (let y : why ≡ Deep = cc (z.1, e) in y) h in absurd d)
        (λ z. let m = stopped_is (line_entries (arithmetic t) u) _ _ _ (sym z.1 ∙ e) h (line_stops t u) in (z.0, m.0, m.1))
        (by_depth gives old is_answer)

    tree_not_wrong : (q : ℕ) → ¬ (r ≡ Err (Wrong q))
    tree_not_wrong q e = ⊎_elim (λ z. clash (cc (z.1, e))) (λ z. never_wrong (stop_of gives.entries) _ _ _ (sym z.1 ∙ e)) (by_depth gives old is_answer)

  -- a wrong form exactly where no tree derives the line
  pub wrong_none : (q : ℕ) → r ≡ Err (Wrong q) → (u : Line) → ¬ Derives u l
  wrong_none q e u d = tree_not_wrong u d q e

  pub none_wrong : ((u : Line) → ¬ Derives u l) → (q : ℕ) × (r ≡ Err (Wrong q))
  none_wrong n = (stuck_at l, ap (λ (x : Left). x.answer) ((p.by_form h).by_place n (stuck_at l) (breaks l n)))

  -- and the place told is the one at which the form of the typed line breaks
  pub wrong_place : (q : ℕ) → r ≡ Err (Wrong q) → Place l q
  wrong_place q e =
      let n = wrong_none q e in
      let w : r ≡ Err (Wrong (stuck_at l)) = ap (λ (x : Left). x.answer) ((p.by_form h).by_place n (stuck_at l) (breaks l n)) in
      let k : stuck_at l ≡ q = cc (w, e) in
      subst (Place l) k (breaks l n)

  -- and nothing of what was read is left
  pub wrong_clears : (q : ℕ) → r ≡ Err (Wrong q) → sp ≡ zeros
  wrong_clears q e = let n = wrong_none q e in ap (λ (x : Left). x.lent) ((p.by_form h).by_place n (stuck_at l) (breaks l n))

-- a longer line is answered so, and leaves the spaces as they were
pub long_line : (l : List ℕ) (t : List ℤ) (old : Spaces) (r : Reading) (sp : Spaces) → 256 < length l → Reads l t old r sp → (r ≡ Err TooLong) × (sp ≡ old)
long_line l t old r sp h p = (ap (λ (x : Left). x.answer) (p.by_length h), ap (λ (x : Left). x.lent) (p.by_length h))

-- what is left is the only thing that may be
pub reads_one : {l : List ℕ} {t : List ℤ} {old : Spaces} {r r' : Reading} {sp sp' : Spaces} → Reads l t old r sp → Reads l t old r' sp' → left r sp ≡ left r' sp'
reads_one {l} {t} {old} {r} {r'} {sp} {sp'} p q = go (leb (length l) 256) refl
  where
    go : (c : Bool) → leb (length l) 256 ≡ c → left r sp ≡ left r' sp'
    go true e = let h = leb-true (length l) 256 e in by_form_sole (p.by_form h) (q.by_form h)
    go false e = let h = leb-false (length l) 256 e in p.by_length h ∙ sym (q.by_length h)
