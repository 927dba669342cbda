-- What the promise comes to, from any record, table and output: a refused or skipped line changes nothing; two results that it allows are equal; number 3 is given
-- exactly where there is no derivation; and whoever reads in one pass keeps it.
-- Assumes nothing.
use mathlib.Core.Path.{◌≡◌, refl, ap, ◌∙◌, sym, subst}
use mathlib.Core.Bool.{Bool, true, false, cond, not, ◌&&◌}
use mathlib.Core.List.{List, [], ◌∷◌}
use mathlib.Core.Logic.{⊎_elim}
use Prim.Native.Nat.{ℕ, ◌≤◌}
use native.Mathlib.Omega.{arith}
use lib.Dec.{T, eqb, eqb→eq, eqb_refl, T_not}
use lib.ListN.{length}
use lib.IntN.{ℤ}
use borrow.Author.Tests.{le-ltb}
use Rattle.laws.proofs.Bools.{and_left, and_right}
use Rattle.grammar.specs.Grammar.{Line}
use Rattle.grammar.specs.Derivation.{strip, Derives, Place, Form, derived, breaks_at}
use Rattle.grammar.specs.Work.{bare_bytes}
use Rattle.grammar.specs.Working.{Took, Step, Contents, contents}
use Rattle.grammar.proofs.Terms.{Pass}
use Rattle.grammar.proofs.Place.{Placed, wrong, found}
use Rattle.grammar.proofs.Items.{line_p}
use Rattle.grammar.proofs.Tally.{Tallied, tallied, gather, line_gathered}
use Rattle.grammar.proofs.Bare.{work_bytes}
use Rattle.grammar.proofs.Derivations.{decided}
use Rattle.grammar.specs.Typed.{typed_from}
use Rattle.grammar.proofs.Stuck.{stuck_at, breaks}
use Rattle.grammar.proofs.ByForm.{form_of, by_model as model, by_form_sole, by_pass}
use Rattle.rules.specs.Meaning.{Entry, arithmetic, reading, words, meets}
use Rattle.rules.specs.Block.{block_of}
use Rattle.rules.specs.Steps.{ready}
use Rattle.rules.specs.Commands.{commands}
use Rattle.rules.specs.Refusals.{Case, ◌when◌, first, refusals}
use Rattle.rules.specs.Promise.{After, Right, answer, answer_to, leaving, misformed, accepted, by_number, numbers, underived, place_in, taken, answer_of, number_of, count_of, disorder, unread, too_deep}
use Rattle.rules.specs.declared.Block.{Block}
use Rattle.rules.specs.declared.Record.{Record}
use Rattle.rules.proofs.Answers.{carriable, number_of_holds, count_of_holds, first_carriable}

-- nothing is changed: "returns count 0 and leaves record, table and output unchanged"; "others report 0"
pub record Unchanged (r : Record) (table out : List ℤ) (a : After) : Type 0 where
  pub no_command : count_of a.outcome.answer ≡ 0
  pub no_work : a.work ≡ 0
  pub same_record : a.outcome.rec ≡ r
  pub same_table : a.table ≡ table
  pub same_out : a.out ≡ out

-- ---- what is left for a number
module _ (n place : ℕ) (e : Contents Entry) (b : Block) (r : Record) (table out : List ℤ) where
  abbrev by : Bool → Bool → After
  by zero? three? = cond zero? (accepted e b r table out) (cond three? (misformed place r table out) (leaving (answer_of n 0) r table out))

  -- is answered as that number is, with the count of the commands
  pub answer_by : (by_number n place e b r table out).outcome.answer ≡ answer_of n (length (commands b (ready b r)))
  answer_by = go (eqb n 0) (eqb n 3) refl refl
    where
      go : (x z : Bool) → eqb n 0 ≡ x → eqb n 3 ≡ z → (by x z).outcome.answer ≡ answer_of n (length (commands b (ready b r)))
      go true z p q = rw p
      go false true p q = rw (eqb→eq n 3 (subst T (sym q) tt))
      go false false p q = rw p

  -- carries that number
  pub number_is : T (carriable n) → number_of (by_number n place e b r table out).outcome.answer ≡ n
  number_is t = ap number_of answer_by ∙ number_of_holds n (length (commands b (ready b r))) t

  -- 3 carries the place
  pub three : T (carriable n) → number_of (by_number n place e b r table out).outcome.answer ≡ 3 → by_number n place e b r table out ≡ misformed place r table out
  three t h = rw (sym (number_is t) ∙ h)

  -- and is all as it was, unless the number is 0
  kept : T (carriable n) → (number_of (by_number n place e b r table out).outcome.answer ≡ 0 → ⊥) → Unchanged r table out (by_number n place e b r table out)
  kept t h = go (eqb n 0) (eqb n 3) refl
    where
      go : (x z : Bool) → eqb n 0 ≡ x → Unchanged r table out (by x z)
      go true z p = absurd (h (number_is t ∙ eqb→eq n 0 (subst T (sym p) tt)))
      go false true p = record { no_command = refl; no_work = refl; same_record = refl; same_table = refl; same_out = refl }
      go false false p = record { no_command = count_of_holds n 0 ∙ rw p; no_work = refl; same_record = refl; same_table = refl; same_out = refl }

  -- reports no more work than there is
  slight : (by_number n place e b r table out).work ≤ e.work
  slight = go (eqb n 0) (eqb n 3)
    where
      go : (x z : Bool) → (by x z).work ≤ e.work
      go true z = omega arith
      go false true = omega arith
      go false false = omega arith

  -- only 3 has a place
  placeless : T (carriable n) → (number_of (by_number n place e b r table out).outcome.answer ≡ 3 → ⊥) → (by_number n place e b r table out).place ≡ 0
  placeless t h = go (eqb n 0) (eqb n 3) refl
    where
      go : (x z : Bool) → eqb n 3 ≡ z → (by x z).place ≡ 0
      go true z q = refl
      go false true q = absurd (h (number_is t ∙ eqb→eq n 3 (subst T (sym q) tt)))
      go false false q = refl

-- ---- a number that no case of a list carries is not its first
abbrev pub lacks : ℕ → List Case → Bool
lacks k [] = not (eqb 0 k)
lacks k ((n when b) ∷ cs) = not (eqb n k) && lacks k cs

pub lacking : (k : ℕ) (cs : List Case) → T (lacks k cs) → first cs ≡ k → ⊥
lacking k [] t h = T_not (eqb 0 k) t (subst (λ (x : ℕ). T (eqb 0 x)) h tt)
lacking k ((n when true) ∷ cs) t h = T_not (eqb n k) (and_left (not (eqb n k)) (lacks k cs) t) (subst (λ (x : ℕ). T (eqb n x)) h (eqb_refl n))
lacking k ((n when false) ∷ cs) t h = lacking k cs (and_right (not (eqb n k)) (lacks k cs) t) h

-- the numbers after 3
abbrev later : Contents Entry → Block → Record → ℕ → List Case
later c b m room =
    (16 when too_deep c) ∷ (100 when meets c.entries 100) ∷ (4 when meets c.entries 4) ∷ (5 when meets c.entries 5) ∷ (6 when meets c.entries 6) ∷ (7 when meets c.entries 7) ∷ refusals (words c.entries) b m room

-- ---- the model reader and the one pass

-- what one pass over the line has read, where it came to the line's end; else the place, in the typed line, where it stopped
abbrev pub finished : {E : Type 0} → List ℕ → (Took (Tallied (Step E)) → Contents E) → Placed (Took (Tallied (Step E))) → Form (Contents E)
finished line g (wrong place) = breaks_at (typed_from false line place)
finished line g (found e place) = derived (g e)

module _ (line : List ℕ) (switch : Bool) (r : Record) (table out : List ℤ) where
  -- what the promise allows is the answer for what that reader finds, so that it can be computed
  pub by_model : {a : After} → Right line switch r table out a → a ≡ answer (form_of line) line switch r table out
  by_model p = model p

  abbrev left_to : Form (Contents Entry) → After
  left_to c = answer_to c line switch r table out

  kept_to : (c : Form (Contents Entry)) → (number_of (left_to c).outcome.answer ≡ 0 → ⊥) → Unchanged r table out (left_to c)
  unfolding answer_to
  kept_to c h =
      let b = block_of (words (taken c).entries) in
      let cs = numbers (underived c) (taken c) b line switch r table (length out) in
      kept (first cs) (place_in c) (taken c) b r table out (first_carriable cs tt) h

  placeless_to : (c : Form (Contents Entry)) → (number_of (left_to c).outcome.answer ≡ 3 → ⊥) → (left_to c).place ≡ 0
  unfolding answer_to
  placeless_to c h =
      let b = block_of (words (taken c).entries) in
      let cs = numbers (underived c) (taken c) b line switch r table (length out) in
      placeless (first cs) (place_in c) (taken c) b r table out (first_carriable cs tt) h

  -- a refused or skipped line changes nothing
  pub unchanged : {a : After} → Right line switch r table out a → (number_of a.outcome.answer ≡ 0 → ⊥) → Unchanged r table out a
  unchanged {a} p h =
      let e = by_model p in
      subst (Unchanged r table out) (sym e) (kept_to (reading table (form_of line)) (λ q. h (ap (λ (x : After). number_of x.outcome.answer) e ∙ q)))

  -- a line that is not refused with 3 reports no place
  pub no_place : {a : After} → Right line switch r table out a → (number_of a.outcome.answer ≡ 3 → ⊥) → a.place ≡ 0
  no_place {a} p h =
      let e = by_model p in
      ap (λ (x : After). x.place) e ∙ placeless_to (reading table (form_of line)) (λ q. h (ap (λ (x : After). number_of x.outcome.answer) e ∙ q))

  slight_to : (c : Form (Contents Entry)) → (left_to c).work ≤ (taken c).work
  unfolding answer_to
  slight_to c =
      let b = block_of (words (taken c).entries) in
      slight (first (numbers (underived c) (taken c) b line switch r table (length out))) (place_in c) (taken c) b r table out

  -- "That number never exceeds the line's bytes that are neither blank nor in a comment"
  pub work_bound : {a : After} → Right line switch r table out a → a.work ≤ bare_bytes line
  work_bound {a} p = ⊎_elim
      (λ w. let h = slight_to (reading table (derived w.0)) in omega (arith, h, work_bytes w.1, ap (λ (x : After). x.work) (p.by_tree w.0 w.1)))
      (λ h. let k = slight_to (breaks_at (stuck_at line)) in omega (arith, k, ap (λ (x : After). x.work) (p.by_place h (stuck_at line) (breaks line h))))
      (decided line)

  -- two results that the promise allows are equal
  pub only : {a b : After} → Right line switch r table out a → Right line switch r table out b → a ≡ b
  only p q = by_form_sole p q

  -- whoever's result is the answer for what one pass over the prepared line reads and counts, however the pass keeps its state, keeps the promise
  pub by_one_pass : {S : Type 0} (P : Pass (tallied (arithmetic table)) S) {a : After} → a ≡ left_to (finished line (gather (arithmetic table)) (line_p P (strip line))) → Right line switch r table out a
  by_one_pass P e =
      let g = gather (arithmetic table) in
      let p = by_pass P line (λ n. left_to (breaks_at n)) (λ t. left_to (derived (g t))) (λ q. left_to (finished line g q)) (λ t q. refl) (λ q. refl) e in
      record { by_tree = λ t d. p.by_tree t d ∙ ap (λ (c : Contents Entry). left_to (derived c)) (line_gathered (arithmetic table) t); by_place = p.by_place }

  -- where 1, 2 and the skip do not apply
  module _ (ordered : disorder r table ≡ false) (short : length line ≤ 256) (read : unread switch line ≡ false) where
    answer_3 : (n : ℕ) → left_to (breaks_at n) ≡ misformed n r table out
    unfolding answer_to
    answer_3 n = rw (ordered, le-ltb 256 (length line) short, read)

    -- a line without a derivation is refused with 3, and the place at which its form breaks
    pub refused_3 : ((t : Line) → ¬ Derives t line) → (n : ℕ) → Place line n → {a : After} → Right line switch r table out a → a ≡ misformed n r table out
    refused_3 h n w p = p.by_place h n w ∙ answer_3 n

    answer_not_3 : (e : Contents Entry) → number_of (left_to (derived e)).outcome.answer ≡ 3 → ⊥
    unfolding answer_to
    answer_not_3 e h =
        let b = block_of (words e.entries) in
        let cs = numbers false e b line switch r table (length out) in
        let n : first cs ≡ 3 = sym (number_is (first cs) 0 e b r table out (first_carriable cs tt)) ∙ h in
        let k : first (later e b (ready b r) (length out)) ≡ 3 = rw (ordered, le-ltb 256 (length line) short, read) at n in
        lacking 3 (later e b (ready b r) (length out)) tt k

    -- and a line with one is not
    pub not_3 : (t : Line) → Derives t line → {a : After} → Right line switch r table out a → number_of a.outcome.answer ≡ 3 → ⊥
    not_3 t d p h = answer_not_3 (contents (arithmetic table) t) (ap (λ (x : After). number_of x.outcome.answer) (sym (p.by_tree t d)) ∙ h)
