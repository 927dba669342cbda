-- The order of the numbers, and what a call leaves by the first of them.
-- Assumes nothing.
use mathlib.Core.Path.{◌≡◌, refl, sym, ◌∙◌}
use mathlib.Core.Bool.{Bool, true, false, cond, ◌||◌}
use mathlib.Core.List.{List, [], ◌∷◌, ◌++◌}
use Prim.Native.Nat.{ℕ, ◌*◌, ◌≤◌, ◌<◌}
use native.Mathlib.Omega.{arith}
use lib.Dec.{eqb, ltb, lit<}
use lib.ListN.{length}
use lib.IntN.{ℤ}
use borrow.Author.Tests.{eqb-true, eqb-false, ne_eqb, lt-ltb, le-ltb}
use Rattle.std.specs.Prelude.{Result, Ok, Err}
use Rattle.rules.specs.Meaning.{Said}
use Rattle.rules.specs.Block.{block_of, or_else}
use Rattle.rules.specs.Reach.{in_reach, in_order}
use Rattle.rules.specs.Steps.{ready, left}
use Rattle.rules.specs.Commands.{commands, written}
use Rattle.rules.specs.Refusals.{Case, ◌when◌, first, unserved, doubled, missing, idle, wrong_word}
use Rattle.rules.specs.Promise.{over}
use Rattle.rules.specs.declared.Block.{Block}
use Rattle.rules.specs.declared.Record.{Record}
use Rattle.rules.specs.declared.Answer.TheVariants.{Accepted, Refused}
use Rattle.rules.specs.declared.Refusal.{Refusal}
use Rattle.rules.specs.declared.Refusal.TheVariants.{Disorder, OutOfRange, NotServed, Doubled}
use Rattle.rules.specs.Named.{refusal_of}
use Rattle.record.proofs.InOrder.{told}
use Rattle.block.specs.Bounds.{Numbered}
use Rattle.summary.specs.Words.{said, lettered}
use Rattle.checks.specs.Modes.{in_modes, early, judged}
use Rattle.checks.proofs.Modes.{early_by}
use Rattle.block.specs.Judged.{late, remaining}
use Rattle.block.specs.Execution.{Done, done, done_by, executed, all_in_range, execution}
use Rattle.block.proofs.Modes.{numbered}
use Rattle.block.proofs.Ready.{ready_plane, ready_motion, ready_position}

-- ---- the first of two lists of conditions
abbrev Positive : List Case → Type 0
Positive [] = Unit
Positive ((n when b) ∷ cs) = (0 < n) × Positive cs

first_some : (cs ds : List Case) (n : ℕ) → first cs ≡ n → (n ≡ 0 → ⊥) → first (cs ++ ds) ≡ n
first_some [] ds n e f = absurd (f (sym e))
first_some ((k when true) ∷ cs) ds n e f = e
first_some ((k when false) ∷ cs) ds n e f = first_some cs ds n e f

first_none : (cs ds : List Case) → Positive cs → first cs ≡ 0 → first (cs ++ ds) ≡ first ds
first_none [] ds p e = refl
first_none ((k when true) ∷ cs) ds p e = let h = p.0 in absurd (omega arith)
first_none ((k when false) ∷ cs) ds p e = first_none cs ds p.1 e

-- ---- what `judged` tells of the first number
pub none_judged : (cs : List Case) → Ok (tt {0}) ≡ judged cs → first cs ≡ 0
none_judged cs e = go (eqb (first cs) 0) refl e
  where
    go : (x : Bool) → eqb (first cs) 0 ≡ x → ◌≡◌ {A = Result (Unit {0}) Refusal} (Ok (tt {0})) (cond x (Ok (tt {0})) (Err (refusal_of (first cs)))) → first cs ≡ 0
    go true p e = eqb-true (first cs) 0 p
    go false p e = absurd (cc)

pub refusal_judged : (cs : List Case) (why : Refusal) → Err why ≡ judged cs → (first cs ≡ 0 → ⊥) × (refusal_of (first cs) ≡ why)
refusal_judged cs why e = go (eqb (first cs) 0) refl e
  where
    go : (x : Bool) → eqb (first cs) 0 ≡ x → ◌≡◌ {A = Result (Unit {0}) Refusal} (Err why) (cond x (Ok (tt {0})) (Err (refusal_of (first cs)))) → (first cs ≡ 0 → ⊥) × (refusal_of (first cs) ≡ why)
    go true p e = absurd (cc)
    go false p e = (eqb-false (first cs) 0 p, cc)

-- ---- numbers 10 to 15, one part after the other
module _ (b : Block) (m : Record) (room : ℕ) where
  abbrev tests : List Case
  tests = early b m

  abbrev short : List Case
  short = (15 when ltb room (8 * length (commands b m))) ∷ []

  pub by_early : (n : ℕ) → first tests ≡ n → (n ≡ 0 → ⊥) → first (remaining b m room) ≡ n
  by_early n e f = first_some tests (late b m ++ short) n e f

  module _ (none : first tests ≡ 0) where
    past_early : first (remaining b m room) ≡ first (late b m ++ short)
    past_early = first_none tests (late b m ++ short) (lit< tt, (lit< tt, tt)) none

    pub by_late : (n : ℕ) → first (late b m) ≡ n → (n ≡ 0 → ⊥) → first (remaining b m room) ≡ n
    by_late n e f = past_early ∙ first_some (late b m) short n e f

    module _ (nothing : first (late b m) ≡ 0) where
      past_late : first (remaining b m room) ≡ first short
      past_late = past_early ∙ first_none (late b m) short (lit< tt, (lit< tt, (lit< tt, tt))) nothing

      pub by_room : room < 8 * length (commands b m) → first (remaining b m room) ≡ 15
      by_room h = past_late ∙ rw (lt-ltb room (8 * length (commands b m)) h) refl

      pub by_none : 8 * length (commands b m) ≤ room → first (remaining b m room) ≡ 0
      by_none h = past_late ∙ rw (le-ltb room (8 * length (commands b m)) h) refl

-- ---- numbers 10 and 11 before the record is worked
pub early_ready : (b : Block) (r : Record) → early b (ready b r) ≡ early b (in_modes (or_else b.plane r.plane) r.motion)
early_ready b r = early_by b (ready b r) ∙ rw (ready_plane b r, ready_motion b r) refl

untold : (a b c : Bool) → first ((10 when (a || b)) ∷ (11 when c) ∷ []) ≡ 0 → (a ≡ false) × (c ≡ false)
untold true b c e = absurd (omega arith)
untold false true c e = absurd (omega arith)
untold false false true e = absurd (omega arith)
untold false false false e = (refl, refl)

pub early_numbered : (b : Block) (m : Record) → first (early b m) ≡ 0 → Numbered b
early_numbered b m e =
    let neither-of = untold (missing b m) (idle b m) (wrong_word b) e in
    numbered b m neither-of.0 neither-of.1

-- ---- the position is in reach until the motion step
pub ready_reached : (b : Block) (r : Record) → in_order r ≡ true → in_reach (ready b r).position ≡ true
ready_reached b r e = rw (ready_position b r) (told r e).position

-- ---- what is left by the first number
pub refused_by : (b : Block) (r : Record) (out : List ℤ) {m : ℕ} (n : ℕ) → m ≡ n → (n ≡ 0 → ⊥) → ◌≡◌ {A = Done} (done (Refused (refusal_of n)) r out) (done_by m b r out)
refused_by b r out n e f = rw (e, ne_eqb n 0 f) refl

pub accepted_by : (b : Block) (r : Record) (out : List ℤ) {m : ℕ} → m ≡ 0
    → ◌≡◌ {A = Done} (done (Accepted (length (commands b (ready b r)))) (left b r) (over (written (commands b (ready b r))) out)) (done_by m b r out)
accepted_by b r out e = rw e refl

-- ---- the whole, number by number
module _ (ls : List ℕ) (vs : List ℤ) (r : Record) (out : List ℤ) where
  abbrev words : List Said
  words = lettered (said ls vs)

  pub number_1 : in_order r ≡ false → done (Refused Disorder) r out ≡ execution ls vs r out
  unfolding execution
  number_1 e = rw e refl

  module _ (ordered : in_order r ≡ true) where
    pub number_5 : all_in_range vs ≡ false → done (Refused OutOfRange) r out ≡ execution ls vs r out
    unfolding execution
    number_5 e = rw (ordered, e) refl

    module _ (ranged : all_in_range vs ≡ true) where
      by_words : executed words r out ≡ execution ls vs r out
      unfolding execution
      by_words = rw (ordered, ranged) refl

      pub number_8 : unserved words ≡ true → done (Refused NotServed) r out ≡ execution ls vs r out
      unfolding executed
      number_8 e = rw e at by_words

      module _ (served : unserved words ≡ false) where
        pub number_9 : doubled words (block_of words) ≡ true → done (Refused Doubled) r out ≡ execution ls vs r out
        unfolding executed
        number_9 e = rw (served, e) at by_words

        pub numbers_after : doubled words (block_of words) ≡ false
            → done_by (first (remaining (block_of words) (ready (block_of words) r) (length out))) (block_of words) r out ≡ execution ls vs r out
        unfolding executed
        numbers_after e = rw (served, e) at by_words
