-- What is left of a line's words, a record and an output space once the line is read: numbers 8 to 15, or the line's work.
-- Assumes nothing.
use Rattle.std.specs.Prelude.{Bool, true, cond, ◌&&◌, List, [], ◌∷◌, ℕ, eqb, length, ℤ, Result, Ok, Err}
use Rattle.rules.specs.Numbers.{in_range}
use Rattle.rules.specs.Meaning.{Said}
use Rattle.rules.specs.Block.{block_of}
use Rattle.rules.specs.Reach.{in_order}
use Rattle.rules.specs.Steps.{ready, left}
use Rattle.rules.specs.Commands.{commands, written}
use Rattle.rules.specs.Refusals.{first, refusals}
use Rattle.rules.specs.Promise.{over}
use Rattle.rules.specs.Named.{refusal_of}
use Rattle.summary.specs.Words.{said, lettered}
use Rattle.rules.specs.declared.Block.{Block}
use Rattle.rules.specs.declared.Record.{Record}
use Rattle.rules.specs.declared.Outcome.{Outcome}
use Rattle.rules.specs.declared.Answer.{Answer}
use Rattle.rules.specs.declared.Answer.TheVariants.{Accepted, Refused}
use Rattle.rules.specs.declared.Refusal.{Refusal}
use Rattle.rules.specs.declared.Refusal.TheVariants.{Disorder, OutOfRange}

-- what a call leaves: its outcome, and the output space
pub record Done : Type 0 where
  pub outcome : Outcome
  pub out : List ℤ

abbrev pub done : Answer → Record → List ℤ → Done
done a r out = record { outcome = record { answer = a; rec = r }; out = out }

-- the outcome of a line that is worked or refused
abbrev pub outcome_of : Result Outcome Refusal → Record → Outcome
outcome_of (Ok o) r = o
outcome_of (Err why) r = record { answer = Refused why; rec = r }

-- by the first of the numbers 8 to 15; 0 where the line is accepted
abbrev pub done_by : ℕ → Block → Record → List ℤ → Done
done_by n b r out =
    cond (eqb n 0)
    (done (Accepted (length (commands b (ready b r)))) (left b r) (over (written (commands b (ready b r))) out))
    (done (Refused (refusal_of n)) r out)

unfoldable pub executed : List Said → Record → List ℤ → Done
executed ws r out = done_by (first (refusals ws (block_of ws) (ready (block_of ws) r) (length out))) (block_of ws) r out

-- every value is in range
abbrev pub all_in_range : List ℤ → Bool
all_in_range [] = true
all_in_range (v ∷ vs) = in_range v && all_in_range vs

-- the same for every record and for all words, letters and values side by side: a record out of order is number 1, a value out of range 5, and a word of a
-- letter that no line gives is passed over
unfoldable pub execution : List ℕ → List ℤ → Record → List ℤ → Done
execution ls vs r out =
    cond (in_order r)
    (cond (all_in_range vs) (executed (lettered (said ls vs)) r out) (done (Refused OutOfRange) r out))
    (done (Refused Disorder) r out)
