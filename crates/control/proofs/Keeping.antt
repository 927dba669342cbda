-- Whoever works a line from what the reader leaves keeps the promise.
-- Assumes nothing.
use mathlib.Core.Path.{◌≡◌, refl, ap, ◌∙◌, sym}
use mathlib.Core.Bool.{Bool, true, false, cond, not, or-true}
use mathlib.Core.List.{List, [], ◌∷◌, map}
use mathlib.Core.Logic.{◌⊎◌, inl, inr}
use mathlib.Core.Option.{Option, none, some}
use Prim.Native.Nat.{ℕ, zero, suc, ◌+◌, ◌≤◌, ◌<◌}
use native.Mathlib.Omega.{arith}
use lib.Dec.{eqb}
use lib.ListN.{length, take, drop}
use lib.Seq.{sets, sets-eq, take-append_seam}
use lib.IntN.{ℤ}
use borrow.Author.Tests.{le-ltb, lt-ltb, eq-eqb, ne_eqb}
use Rattle.grammar.specs.Grammar.{Line}
use Rattle.grammar.specs.Derivation.{Derives, Form, derived, breaks_at}
use Rattle.grammar.specs.Working.{Took, end, stopped, took, Contents, contents}
use Rattle.grammar.proofs.Lengths.{few}
use Rattle.rules.specs.Meaning.{Entry, word_is, setting_is, Said, Setting, arithmetic, reading, stopped_by, words, settings}
use Rattle.rules.specs.Block.{block_of}
use Rattle.rules.specs.Reach.{in_order}
use Rattle.rules.specs.Steps.{ready}
use Rattle.rules.specs.Refusals.{Case, ◌when◌, first, refusals}
use Rattle.rules.specs.Promise.{After, Right, after, answer, answer_to, leaving, misformed, accepted, by_number, disorder, unread, too_deep}
use Rattle.rules.proofs.Demands.{lacking}
use Rattle.rules.specs.declared.Block.{Block}
use Rattle.rules.specs.declared.Record.{Record}
use Rattle.rules.specs.declared.Report.{Report}
use Rattle.rules.specs.declared.Answer.{Answer}
use Rattle.rules.specs.declared.Answer.TheVariants.{Accepted, Refused, Skipped}
use Rattle.std.specs.Prelude.{Ok, Err}
use Rattle.rules.specs.Named.{refusal_of}
use Rattle.rules.specs.declared.Refusal.{Refusal}
use Rattle.rules.specs.declared.Refusal.TheVariants.{Disorder, LongLine, TooDeep}
use Rattle.reader.specs.declared.spaces.Spaces.{Spaces}
use Rattle.reader.specs.Reading.{Reading, stored, unread_of, stop_of, outcome, Left, left_for, leaves, Reads}
use Rattle.reader.specs.declared.answer.Read.{Read}
use Rattle.reader.specs.declared.answer.Unread.{Unread}
use Rattle.reader.specs.declared.answer.Unread.TheVariants.{Refused as ReadingRefused, Skipped as ReadingSkipped, Deep, Wrong, TooLong}
use Rattle.summary.specs.Words.{said, lettered}
use Rattle.block.specs.Execution.{all_in_range, Done, done, done_by, executed, execution}
use Rattle.control.specs.Worked.{judged_as, unchanged, unworked, wrong_at, settings_of, table_after, work_done, finished, worked_by, worked, not_read, lent_after, Lends}
use Rattle.rules.proofs.Sound.{SoundTook, line_sound}
use Rattle.reader.proofs.Demand3.{line_counts}
use Rattle.control.proofs.Words.{line_lettered}

-- ---- what was stored is read back
module _ {A : Type 0} where
  front : (xs l : List A) → length xs ≤ length l → take (length xs) (sets l 0 xs) ≡ xs
  front xs l h = rw (sets-eq xs l 0 (omega arith)) (take-append_seam xs (drop (0 + length xs) l))

length-map : {A B : Type 0} (g : A → B) (xs : List A) → length (map g xs) ≡ length xs
length-map g [] = refl
length-map g (x ∷ xs) = ap suc (length-map g xs)

abbrev letters_of : List Said → List ℕ
letters_of ws = map (λ (x : Said). x.letter) ws

abbrev values_of : List Said → List ℤ
values_of ws = map (λ (x : Said). x.value) ws

said_back : (ws : List Said) → said (letters_of ws) (values_of ws) ≡ ws
said_back [] = refl
said_back (w ∷ ws) = ap (λ (l : List Said). w ∷ l) (said_back ws)

settings_back : (ss : List Setting) → settings_of (map (λ (x : Setting). x.number) ss) (map (λ (x : Setting). x.value) ss) ≡ ss
settings_back [] = refl
settings_back (s ∷ ss) = ap (λ (l : List Setting). s ∷ l) (settings_back ss)

-- ---- a derivation's words are words that a line gives
in_range_holds : (e : Took Entry) → SoundTook e → all_in_range (values_of (words e)) ≡ true
in_range_holds end s = refl
in_range_holds (stopped n) s = refl
in_range_holds (took (word_is b v) t) s = rw (s.0, in_range_holds t s.1)
in_range_holds (took (setting_is n v) t) s = in_range_holds t s

-- ---- where reading stopped
stop_is : (e : Took Entry) (k : ℕ) → stop_of e ≡ some k → stopped_by e ≡ k
stop_is end k h = absurd (let z : ◌≡◌ {A = ℕ} 0 1 = cc in omega arith)
stop_is (stopped n) k h = cc
stop_is (took e t) k h = stop_is t k h

stop_none : (e : Took Entry) → stop_of e ≡ none → stopped_by e ≡ 0
stop_none end h = refl
stop_none (stopped n) h = absurd (let z : ◌≡◌ {A = ℕ} 0 1 = cc in omega arith)
stop_none (took e t) h = stop_none t h

stop_sound : (e : Took Entry) → SoundTook e → (k : ℕ) → stop_of e ≡ some k → (5 ≤ k) × (k ≤ 7)
stop_sound end s k h = absurd (let z : ◌≡◌ {A = ℕ} 0 1 = cc in omega arith)
stop_sound (stopped n) s k h = let e : n ≡ k = cc in rw e at s
stop_sound (took (word_is b v) t) s k h = stop_sound t s.1 k h
stop_sound (took (setting_is n v) t) s k h = stop_sound t s k h

-- by a condition that says no, or by one of the numbers 5 to 7
stop_by : (e : Took Entry) → (e ≡ stopped 100) ⊎ SoundTook e → (k : ℕ) → stop_of e ≡ some k → (k ≡ 100) ⊎ ((5 ≤ k) × (k ≤ 7))
stop_by e (inl n) k h = inl (let z : stop_of (stopped 100) ≡ some k = rw n at h in let y : k ≡ 100 = cc in y)
stop_by e (inr s) k h = inr (stop_sound e s k h)

-- a reading that came to the line's end was stopped by neither
not_stopped : (e : Took Entry) → (e ≡ stopped 100) ⊎ SoundTook e → stop_of e ≡ none → SoundTook e
not_stopped e (inl n) h = absurd (let z : stop_of (stopped 100) ≡ none = rw n at h in let y : ◌≡◌ {A = ℕ} 0 1 = cc in omega arith)
not_stopped e (inr s) h = s

-- ---- the numbers 8 to 15
finished_by : (n place : ℕ) (e : Contents Entry) (b : Block) (r : Record) (table out : List ℤ) → (n ≡ 100 → ⊥) → (n ≡ 3 → ⊥) → finished e.work (done_by n b r out) (settings e.entries) table ≡ by_number n place e b r table out
finished_by n place e b r table out h w = rw (ne_eqb n 100 h, ne_eqb n 3 w) (go _ (eqb n 0))
  where
    go : (why : Refusal) (c : Bool) → finished e.work (cond c (done_by 0 b r out) (done (Refused why) r out)) (settings e.entries) table ≡ cond c (accepted e b r table out) (leaving (cond c (Accepted 0) (Refused why)) r table out)
    go why true = refl
    go why false = refl

-- by the number that stopped the reading: 100 is a skip's
abbrev stopped_as : ℕ → Answer
stopped_as k = cond (eqb k 100) Skipped (Refused (refusal_of k))

-- what it answers in a record that is in order
stopped_is : (k : ℕ) (r : Record) (table out : List ℤ) → in_order r ≡ true → after (unworked (unread_of k) r) table out ≡ leaving (stopped_as k) r table out
stopped_is k r table out q = go (eqb k 100)
  where
    go : (c : Bool) → after (unworked (cond c ReadingSkipped (ReadingRefused (refusal_of k))) r) table out ≡ leaving (cond c Skipped (Refused (refusal_of k))) r table out
    go true = rw q
    go false = rw q

-- the numbers 5 to 7, and a condition's 100
refused_by : (k : ℕ) → 5 ≤ k → k ≤ 7 → (cs : List Case) (place : ℕ) (e : Contents Entry) (b : Block) (r : Record) (table out : List ℤ) →
    by_number (first ((100 when eqb k 100) ∷ (4 when eqb k 4) ∷ (5 when eqb k 5) ∷ (6 when eqb k 6) ∷ (7 when eqb k 7) ∷ cs)) place e b r table out ≡ leaving (stopped_as k) r table out
refused_by zero l h cs place e b r table out = absurd (omega arith)
refused_by (suc zero) l h cs place e b r table out = absurd (omega arith)
refused_by (suc (suc zero)) l h cs place e b r table out = absurd (omega arith)
refused_by (suc (suc (suc zero))) l h cs place e b r table out = absurd (omega arith)
refused_by (suc (suc (suc (suc zero)))) l h cs place e b r table out = absurd (omega arith)
refused_by (suc (suc (suc (suc (suc zero))))) l h cs place e b r table out = refl
refused_by (suc (suc (suc (suc (suc (suc zero)))))) l h cs place e b r table out = refl
refused_by (suc (suc (suc (suc (suc (suc (suc zero))))))) l h cs place e b r table out = refl
refused_by (suc (suc (suc (suc (suc (suc (suc (suc k)))))))) l h cs place e b r table out = absurd (omega arith)

stopped_by_holds : (k : ℕ) → (k ≡ 100) ⊎ ((5 ≤ k) × (k ≤ 7)) → (cs : List Case) (place : ℕ) (e : Contents Entry) (b : Block) (r : Record) (table out : List ℤ) →
    by_number (first ((100 when eqb k 100) ∷ (4 when eqb k 4) ∷ (5 when eqb k 5) ∷ (6 when eqb k 6) ∷ (7 when eqb k 7) ∷ cs)) place e b r table out ≡ leaving (stopped_as k) r table out
stopped_by_holds k (inl n) cs place e b r table out = rw n
stopped_by_holds k (inr n) cs place e b r table out = refused_by k n.0 n.1 cs place e b r table out

-- what a test has shown of what it is the test of
pub by_test : {x y b : Bool} → x ≡ y → x ≡ b → y ≡ b
by_test e t = sym e ∙ t

-- ---- the numbers before the form is read
module _ (line : List ℕ) (switch : Bool) (r : Record) (table out : List ℤ) where
  by_early : {x : After} → ((e : Form (Contents Entry)) → answer_to e line switch r table out ≡ x) → Right line switch r table out x
  by_early h = record { by_tree = λ t d. sym (h (reading table (derived t))); by_place = λ _ n _. sym (h (breaks_at n)) }

  kept_1 : disorder r table ≡ true → Right line switch r table out (leaving (Refused Disorder) r table out)
  unfolding answer_to
  kept_1 d = by_early (λ e. rw d)

  -- a table of another length, and a record out of order
  pub kept_table : {o : Report} → (length table ≡ 5000 → ⊥) → o ≡ unchanged (Refused Disorder) r → Right line switch r table out (after o table out)
  unfolding disorder
  kept_table z h = rw h (kept_1 (rw (ne_eqb (length table) 5000 z)))

  is_disorder : in_order r ≡ false → disorder r table ≡ true
  unfolding disorder
  is_disorder q = rw q (or-true (not (eqb (length table) 5000)))

  no_disorder : length table ≡ 5000 → in_order r ≡ true → disorder r table ≡ false
  unfolding disorder
  no_disorder z q = rw (eq-eqb (length table) 5000 z, q)

  -- an answer that is right where the record is in order
  kept_early : (a : Answer) → (in_order r ≡ true → Right line switch r table out (leaving a r table out)) → {o : Report} → o ≡ unchanged (judged_as a r) r → Right line switch r table out (after o table out)
  kept_early a h e = rw e (go (in_order r) refl)
    where
      go : (b : Bool) → in_order r ≡ b → Right line switch r table out (leaving (cond b a (Refused Disorder)) r table out)
      go true q = h q
      go false q = kept_1 (is_disorder q)

  pub kept_2 : {o : Report} → length table ≡ 5000 → 256 < length line → o ≡ unchanged (judged_as (Refused LongLine) r) r → Right line switch r table out (after o table out)
  unfolding answer_to
  kept_2 z l h = kept_early (Refused LongLine) (λ q. by_early (λ e. rw (no_disorder z q, lt-ltb 256 (length line) l))) h

  pub kept_skipped : {o : Report} → length table ≡ 5000 → length line ≤ 256 → unread switch line ≡ true → o ≡ unchanged (judged_as Skipped r) r → Right line switch r table out (after o table out)
  unfolding answer_to
  kept_skipped z l s h = kept_early Skipped (λ q. by_early (λ e. rw (no_disorder z q, le-ltb 256 (length line) l, s))) h

  -- whatever was read, a record out of order is number 1
  out_of_order : in_order r ≡ false → (a : Reading) (lent : Spaces) → worked_by a lent r table out ≡ leaving (Refused Disorder) r table out
  unfolding execution
  out_of_order q (Ok a) lent = rw q
  out_of_order q (Err (ReadingRefused why)) lent = rw q
  out_of_order q (Err ReadingSkipped) lent = rw q
  out_of_order q (Err Deep) lent = rw q
  out_of_order q (Err (Wrong p)) lent = rw q
  out_of_order q (Err TooLong) lent = rw q

module _ (line : List ℕ) (switch : Bool) (r : Record) (table out : List ℤ) (sized : length table ≡ 5000) (in_order_before : in_order r ≡ true) (short : length line ≤ 256) (unskipped : unread switch line ≡ false) where
  ordered : disorder r table ≡ false
  ordered = no_disorder line switch r table out sized in_order_before

  -- a line without a derivation
  underived_answer : (n : ℕ) → answer_to (breaks_at n) line switch r table out ≡ misformed n r table out
  unfolding answer_to
  underived_answer n = rw (ordered, le-ltb 256 (length line) short, unskipped)

  -- a reading that was stopped
  stopped_answer : (c : Contents Entry) → too_deep c ≡ false → (c.entries ≡ stopped 100) ⊎ SoundTook c.entries → (k : ℕ) → stop_of c.entries ≡ some k →
      answer_to (derived c) line switch r table out ≡ leaving (stopped_as k) r table out
  unfolding answer_to
  stopped_answer c d s k h =
      let ws = words c.entries in
      let b = block_of ws in
      let n = stop_by c.entries s k h in
      rw (ordered, le-ltb 256 (length line) short, unskipped, d, stop_is c.entries k h) (stopped_by_holds k n (refusals ws b (ready b r) (length out)) 0 c b r table out)

  -- a reading that nests too deep
  deep_answer : (c : Contents Entry) → too_deep c ≡ true → answer_to (derived c) line switch r table out ≡ leaving (Refused TooDeep) r table out
  unfolding answer_to
  deep_answer c d = rw (ordered, le-ltb 256 (length line) short, unskipped, d)

  -- a reading that came to the line's end
  whole_answer : (c : Contents Entry) → too_deep c ≡ false → lettered (words c.entries) ≡ words c.entries → SoundTook c.entries → stop_of c.entries ≡ none →
      answer_to (derived c) line switch r table out ≡ finished c.work (execution (letters_of (words c.entries)) (values_of (words c.entries)) r out) (settings c.entries) table
  unfolding answer_to execution executed
  whole_answer c d l s h =
      let ws = words c.entries in
      let b = block_of ws in
      let cs = refusals ws b (ready b r) (length out) in
      rw (ordered, le-ltb 256 (length line) short, unskipped, d, stop_none c.entries h, in_order_before, in_range_holds c.entries s, said_back ws, l)
      (sym (finished_by (first cs) 0 c b r table out (λ q. lacking 100 cs tt q) (λ q. lacking 3 cs tt q)))

  module _ (old : Spaces) (roomWords : length old.letters ≡ 128) (roomValues : length old.values ≡ 128) (roomNumbers : length old.numbers ≡ 64) (roomAmounts : length old.amounts ≡ 64) where
    -- what was stored of a whole reading is worked as the reading itself
    stored_answer : (e : Took Entry) (work : ℕ) → length (words e) ≤ 128 → length (settings e) ≤ 64 → stop_of e ≡ none →
        worked_by (outcome e work) (stored e old) r table out ≡ finished work (execution (letters_of (words e)) (values_of (words e)) r out) (settings e) table
    stored_answer e work w n h =
        let ws = words e in
        let ss = settings e in
        let a : take (length ws) (stored e old).letters ≡ map (λ (x : Said). x.letter) ws = rw (← length-map (λ (x : Said). x.letter) ws) (front (map (λ (x : Said). x.letter) ws) old.letters (omega (arith, length-map (λ (x : Said). x.letter) ws))) in
        let b : take (length ws) (stored e old).values ≡ map (λ (x : Said). x.value) ws = rw (← length-map (λ (x : Said). x.value) ws) (front (map (λ (x : Said). x.value) ws) old.values (omega (arith, length-map (λ (x : Said). x.value) ws))) in
        let c : take (length ss) (stored e old).numbers ≡ map (λ (x : Setting). x.number) ss = rw (← length-map (λ (x : Setting). x.number) ss) (front (map (λ (x : Setting). x.number) ss) old.numbers (omega (arith, length-map (λ (x : Setting). x.number) ss))) in
        let d : take (length ss) (stored e old).amounts ≡ map (λ (x : Setting). x.value) ss = rw (← length-map (λ (x : Setting). x.value) ss) (front (map (λ (x : Setting). x.value) ss) old.amounts (omega (arith, length-map (λ (x : Setting). x.value) ss))) in
        rw (h, a, b, c, d, settings_back ss)

    tree_answer : (t : Line) → Derives t line → worked (leaves table old (derived t)) r table out ≡ answer (derived t) line switch r table out
    unfolding worked
    tree_answer t d =
        let m = line_counts table t in
        let k = few d short in
        go (contents (arithmetic table) t) (line_lettered table t d.ok) (line_sound table t) (omega (arith, m.0, k.0)) (omega (arith, m.1, k.1)) (too_deep (contents (arithmetic table) t)) refl (stop_of (contents (arithmetic table) t).entries) refl
      where
        go : (c : Contents Entry) → lettered (words c.entries) ≡ words c.entries → (c.entries ≡ stopped 100) ⊎ SoundTook c.entries → length (words c.entries) ≤ 128 → length (settings c.entries) ≤ 64
            → (b : Bool) → too_deep c ≡ b → (o : Option ℕ) → stop_of c.entries ≡ o → worked (left_for c old) r table out ≡ answer_to (derived c) line switch r table out
        go c l s w n true q o h = rw (q, in_order_before) (sym (deep_answer c q))
        go c l s w n false q none h = rw q (stored_answer c.entries c.work w n h ∙ sym (whole_answer c q l (not_stopped c.entries s h) h))
        go c l s w n false q (some k) h = rw (q, h) (stopped_is k r table out in_order_before ∙ sym (stopped_answer c q s k h))

    -- the promise, from what the reader left, for a record in order
    kept_in_order : {a : Reading} {lent : Spaces} → Reads line table old a lent → Right line switch r table out (worked_by a lent r table out)
    unfolding worked
    kept_in_order {a} {lent} p = record {
      by_tree = λ t d. ap (λ (l : Left). worked l r table out) ((p.by_form short).by_tree t d) ∙ tree_answer t d;
      by_place = λ h n w. ap (λ (l : Left). worked l r table out) ((p.by_form short).by_place h n w) ∙ rw in_order_before (sym (underived_answer n));
    }

module _ (line : List ℕ) (switch : Bool) (r : Record) (table out : List ℤ) (sized : length table ≡ 5000) (short : length line ≤ 256) (unskipped : unread switch line ≡ false) (old : Spaces) (roomWords : length old.letters ≡ 128) (roomValues : length old.values ≡ 128) (roomNumbers : length old.numbers ≡ 64) (roomAmounts : length old.amounts ≡ 64) where
  -- and for any record
  kept : {a : Reading} {lent : Spaces} → Reads line table old a lent → {x : After} → x ≡ worked_by a lent r table out → Right line switch r table out x
  kept {a} {lent} p e = rw e (go (in_order r) refl)
    where
      go : (b : Bool) → in_order r ≡ b → Right line switch r table out (worked_by a lent r table out)
      go true q = kept_in_order line switch r table out sized q short unskipped old roomWords roomValues roomNumbers roomAmounts p
      go false q = rw (out_of_order line switch r table out q a lent) (kept_1 line switch r table out (is_disorder line switch r table out q))

  -- read to its end, and worked
  pub kept_read : {a : Read} {lent : Spaces} → Reads line table old (Ok a) lent → {o : Report} {table' out' : List ℤ} →
      record { outcome = o.outcome; out = out' } ≡ execution (take a.words lent.letters) (take a.words lent.values) r out → o.work ≡ work_done o.outcome.answer a.work → o.place ≡ 0 →
      table' ≡ table_after o.outcome.answer (settings_of (take a.settings lent.numbers) (take a.settings lent.amounts)) table → Right line switch r table out (after o table' out')
  kept_read {a} {lent} p {o} {table'} {out'} e m l h =
      kept p (rw (m, l, h) refl ∙ ap (λ (d : Done). finished a.work d (settings_of (take a.settings lent.numbers) (take a.settings lent.amounts)) table) e)

  -- not read to its end
  pub kept_unread : {why : Unread} {lent : Spaces} → Reads line table old (Err why) lent → {o : Report} → o ≡ unworked why r → Right line switch r table out (after o table out)
  kept_unread p h = kept p (ap (λ (o : Report). after o table out) h)

-- ---- the lent spaces
module _ (line : List ℕ) (switch : Bool) (table : List ℤ) (old : Spaces) where
  lends_old : not_read line switch table ≡ true → Lends line switch table old old
  unfolding lent_after
  lends_old u = record { by_tree = λ t d. rw u; by_place = λ h n w. rw u }

  pub lends_table : (length table ≡ 5000 → ⊥) → Lends line switch table old old
  lends_table z = lends_old (rw (ne_eqb (length table) 5000 z))

  module _ (sized : length table ≡ 5000) where
    pub lends_long : 256 < length line → Lends line switch table old old
    lends_long l = lends_old (rw (eq-eqb (length table) 5000 sized, lt-ltb 256 (length line) l))

    pub lends_skipped : length line ≤ 256 → unread switch line ≡ true → Lends line switch table old old
    lends_skipped l s = lends_old (rw (eq-eqb (length table) 5000 sized, le-ltb 256 (length line) l, s))

    pub lends_read : length line ≤ 256 → unread switch line ≡ false → {a : Reading} {lent : Spaces} → Reads line table old a lent → Lends line switch table old lent
    unfolding lent_after
    lends_read l s p =
        let u : not_read line switch table ≡ false = rw (eq-eqb (length table) 5000 sized, le-ltb 256 (length line) l, s) in
        record { by_tree = λ t d. rw u (ap (λ (x : Left). x.lent) ((p.by_form l).by_tree t d)); by_place = λ h n w. rw u (ap (λ (x : Left). x.lent) ((p.by_form l).by_place h n w)) }
