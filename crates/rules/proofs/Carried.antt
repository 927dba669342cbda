-- The promise in document 01's own numbers. `carried`: the answer carries the first number of the ordered list, by `number_of`, and the count of the commands where that is
-- 0, by `count_of`; record, table and output are new and the work is reported where it is 0, and otherwise they are as they were and the work is 0; the place is told where the number is 3, and
-- otherwise it is 0. `uncarried`: those sentences say no less than the promise.
-- Assumes nothing.
use mathlib.Core.Path.{◌≡◌, refl, ◌∙◌, sym, subst}
use mathlib.Core.Bool.{Bool, true, false, cond}
use mathlib.Core.List.{List}
use Prim.Native.Nat.{ℕ}
use native.Mathlib.Omega.{arith}
use lib.Dec.{T, eqb, eqb→eq}
use lib.ListN.{length}
use lib.IntN.{ℤ}
use Rattle.grammar.specs.Grammar.{Line}
use Rattle.grammar.specs.Derivation.{Derives, Place, Form, derived, breaks_at}
use Rattle.grammar.specs.Working.{Contents}
use Rattle.rules.specs.Named.{refusal_of}
use Rattle.rules.specs.Meaning.{Entry, reading, words, settings}
use Rattle.rules.specs.Block.{block_of}
use Rattle.rules.specs.Steps.{ready, left}
use Rattle.rules.specs.Commands.{commands, written}
use Rattle.rules.specs.Refusals.{first}
use Rattle.rules.specs.Promise.{After, Right, answer_to, answer_of, leaving, misformed, accepted, by_number, apply, over, taken, place_in, number_of, count_of}
use Rattle.rules.specs.declared.Block.{Block}
use Rattle.rules.specs.declared.Record.{Record}
use Rattle.rules.specs.declared.Answer.{Answer}
use Rattle.rules.specs.declared.Answer.TheVariants.{Accepted, Refused, Skipped}
use Rattle.rules.proofs.Answers.{carriable, number_of_holds, count_of_holds, answer_of_holds, first_carriable}
use Rattle.rules.proofs.Told.{cases}

-- ---- what is left for a number
module _ (n place : ℕ) (e : Contents Entry) (b : Block) (r : Record) (table out : List ℤ) where
  pub record Carries (a : After) : Type 0 where
    pub number : number_of a.outcome.answer ≡ n
    pub count : count_of a.outcome.answer ≡ cond (eqb n 0) (length (commands b (ready b r))) 0
    pub new_record : a.outcome.rec ≡ cond (eqb n 0) (left b r) r
    pub work_done : a.work ≡ cond (eqb n 0) e.work 0
    pub place_told : a.place ≡ cond (eqb n 3) place 0
    pub new_table : a.table ≡ cond (eqb n 0) (apply (settings e.entries) table) table
    pub new_out : a.out ≡ cond (eqb n 0) (over (written (commands b (ready b r))) out) out

  abbrev k : ℕ
  k = length (commands b (ready b r))

  abbrev other : Answer
  other = cond (eqb n 100) Skipped (Refused (refusal_of n))

  -- by its parts, where zero? is whether the number is 0, and three? whether it is 3
  abbrev parts : Bool → Bool → After
  parts zero? three? = record {
    outcome = record { answer = cond zero? (Accepted k) other; rec = cond zero? (left b r) r };
    work = cond zero? e.work 0;
    place = cond three? place 0;
    table = cond zero? (apply (settings e.entries) table) table;
    out = cond zero? (over (written (commands b (ready b r))) out) out;
  }

  by_parts : by_number n place e b r table out ≡ parts (eqb n 0) (eqb n 3)
  by_parts = go (eqb n 0) (eqb n 3) refl refl
    where
      is : (m : ℕ) → eqb n m ≡ true → n ≡ m
      is m h = eqb→eq n m (rw h tt)

      go : (x z : Bool) → eqb n 0 ≡ x → eqb n 3 ≡ z → cond x (accepted e b r table out) (cond z (misformed place r table out) (leaving (cond x (Accepted 0) other) r table out)) ≡ parts x z
      go true true p q = absurd (omega (arith, is 0 p, is 3 q))
      go true false p q = refl
      go false true p q = rw (is 3 q)
      go false false p q = refl

  carries : T (carriable n) → {a : After} → a ≡ by_number n place e b r table out → Carries a
  carries t h = subst Carries (sym (h ∙ by_parts)) (record { number = number_of_holds n k t; count = count_of_holds n k; new_record = refl; work_done = refl; place_told = refl; new_table = refl; new_out = refl })

  carried_answer : {a : After} → Carries a → a.outcome.answer ≡ answer_of n k
  carried_answer {a} c = answer_of_holds a.outcome.answer ∙ rw (c.number, c.count) (go (eqb n 0))
    where
      go : (x : Bool) → cond x (Accepted (cond x k 0)) other ≡ cond x (Accepted k) other
      go true = refl
      go false = refl

  same : {a : After} → Carries a → a ≡ by_number n place e b r table out
  same {a} c = alike (carried_answer c) c.new_record c.work_done c.place_told c.new_table c.new_out ∙ sym by_parts
    where
      alike : {x : Answer} {y : Record} {m p : ℕ} {z w : List ℤ} → a.outcome.answer ≡ x → a.outcome.rec ≡ y → a.work ≡ m → a.place ≡ p → a.table ≡ z → a.out ≡ w →
          a ≡ record { outcome = record { answer = x; rec = y }; work = m; place = p; table = z; out = w }
      alike p q v l s u = rw (sym p, sym q, sym v, sym l, sym s, sym u) refl

module _ (line : List ℕ) (switch : Bool) (r : Record) (table out : List ℤ) where
  -- for a line's form
  abbrev pub CarriesFor : Form Line → After → Type 0
  CarriesFor f a =
      let c = reading table f in
      Carries (first (cases line switch r table out f)) (place_in c) (taken c) (block_of (words (taken c).entries)) r table out a

  abbrev pub CarriesBy : After → Type 0
  CarriesBy a = ((t : Line) → Derives t line → CarriesFor (derived t) a) × (((t : Line) → ¬ Derives t line) → (n : ℕ) → Place line n → CarriesFor (breaks_at n) a)

  pub carried : {a : After} → Right line switch r table out a → CarriesBy a
  unfolding answer_to
  carried p = (
    λ t d. carries _ _ _ _ _ _ _ (first_carriable (cases line switch r table out (derived t)) tt) (p.by_tree t d),
    λ h n w. carries _ _ _ _ _ _ _ (first_carriable (cases line switch r table out (breaks_at n)) tt) (p.by_place h n w),
  )

  pub uncarried : {a : After} → CarriesBy a → Right line switch r table out a
  unfolding answer_to
  uncarried p = record { by_tree = λ t d. same _ _ _ _ _ _ _ (p.0 t d); by_place = λ h n w. same _ _ _ _ _ _ _ (p.1 h n w) }
