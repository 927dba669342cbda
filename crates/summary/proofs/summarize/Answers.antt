-- `summary::summarize` meets its contract. The front parts of the two slices hold the words.
-- Assumes nothing.
use mathlib.Core.Path.{◌≡◌, ap, ◌∙◌}
use mathlib.Core.List.{List}
use Prim.Native.Nat.{ℕ, min}
use native.Mathlib.Omega.{arith}
use lib.IntN.{ℤ}
use lib.ListN.{length, take}
use Rattle.rules.specs.Meaning.{Said}
use Rattle.summary.specs.Words.{said, lettered, summary_of}
use Rattle.summary.proofs.Held.{said_count, front_even, said_front}
use Rattle.summary.proofs.summarize.Goals as goal

-- the shorter of the slices bounds the words
words : (count : ℕ) (ls : List ℕ) (vs : List ℤ) {a n : ℕ} → a ≡ min count (length ls) → n ≡ min a (length vs) → n ≡ length (said (take count ls) (take count vs))
words count ls vs e d = omega (arith, said_count count ls vs)

pub one_pass-requires : goal.one_pass-requires
one_pass-requires c = front_even c.args.count c.args.letters.now c.args.values.now (words c.args.count c.args.letters.now c.args.values.now c.min.ensures c.min-number.ensures)

pub returns : goal.returns
returns c =
    c.one_pass.ensures
    ∙ ap (λ (ws : List Said). summary_of (lettered ws)) (said_front c.args.count c.args.letters.now c.args.values.now (words c.args.count c.args.letters.now c.args.values.now c.min.ensures c.min-number.ensures))
