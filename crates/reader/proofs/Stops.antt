-- What stops the reading of a line is one of numbers 5 to 7, or its condition with a skip's number, 100.
-- Assumes nothing.
use mathlib.Core.Path.{◌≡◌, refl}
use mathlib.Core.List.{List}
use mathlib.Core.Logic.{◌⊎◌, inl, inr, ⊎_elim}
use Prim.Native.Nat.{ℕ, ◌≤◌}
use lib.IntN.{ℤ}
use Rattle.grammar.specs.Grammar.{Line}
use Rattle.grammar.specs.Working.{Took, end, stopped, took, line_entries}
use Rattle.rules.specs.Meaning.{Entry, word_is, setting_is, arithmetic}
use Rattle.rules.proofs.Sound.{SoundTook, line_sound}

-- one of numbers 5 to 7
pub record Refusal (n : ℕ) : Type 0 where
  pub low : 5 ≤ n
  pub high : n ≤ 7

-- or a condition's no
abbrev pub Stopping : ℕ → Type 0
Stopping n = (n ≡ 100) ⊎ Refusal n

-- a reading that is stopped by one of them, if it is stopped
abbrev pub StopsSo : Took Entry → Type 0
StopsSo end = Unit {0}
StopsSo (stopped n) = Stopping n
StopsSo (took e t) = StopsSo t

stops : (e : Took Entry) → SoundTook e → StopsSo e
stops end s = tt
stops (stopped n) s = inr (record { low = s.0; high = s.1 })
stops (took (word_is b v) t) s = stops t s.1
stops (took (setting_is n v) t) s = stops t s

pub line_stops : (table : List ℤ) (u : Line) → StopsSo (line_entries (arithmetic table) u)
line_stops table u = ⊎_elim (λ e. rw e (inl refl)) (λ s. stops (line_entries (arithmetic table) u) s) (line_sound table u)
