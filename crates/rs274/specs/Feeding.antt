-- What is fed to a run of what is read.
-- Assumes nothing.
use Rattle.std.specs.Prelude.{◌≡◌, true, List, ◌++◌, ℕ, ◌≤◌, length, take, Option, Result, MatchResult}
use Rattle.std.specs.Io.KnownBytes.{Consumes, IsAtEnd}
use Rattle.run.specs.declared.State.{State}
use Rattle.run.specs.Stands.{start}
use Rattle.run.specs.Calls.{Calls, Run}
use Rattle.rs274.specs.declared.Spaces.{Spaces}
use Rattle.rs274.specs.declared.Stop.{Stop}
use Rattle.rs274.specs.declared.Stop.TheVariants.{Ended, Failed}

-- from a state and these spaces, calls that take these bytes come to that state and those spaces
abbrev pub Called : State → Spaces → List ℕ → State → Spaces → Type 0
Called first old input state new = (output : List ℕ) × Calls first old.line old.table input output state new.line new.table

-- a fact where the run has ended, and none where the program cannot go on
abbrev pub WhenEnded : Stop → Type 0 → Type 0
WhenEnded Ended fact = fact
WhenEnded (Failed why) fact = Unit {0}

-- A piece is fed to a run that goes on, all of it; where no more is fed, a front of it was.
abbrev pub FedPiece : State → Spaces → List ℕ → Result State Stop → Spaces → Type 0
FedPiece first old piece r new = MatchResult r
    (λ state. Called first old piece state new)
    (λ why. (many : ℕ) × (state : State) × (many ≤ length piece) × Called first old (take many piece) state new × WhenEnded why (state.ended ≡ true))

-- At the end of the input all that the reader had left is fed to a run from the start, and it goes on; where no more is fed, a front of what was read was.
abbrev pub FedInput : Option (List ℕ) → Option (List ℕ) → Spaces → Result State Stop → Spaces → Type 0
FedInput before after old r new = MatchResult r
    (λ state. (input : List ℕ) × Consumes before after input × IsAtEnd after × Called start old input state new)
    (λ why. (input : List ℕ) × (rest : List ℕ) × (state : State) × Consumes before after (input ++ rest) × Called start old input state new × WhenEnded why (state.ended ≡ true))

-- What was read is run as a whole (crate run), and where the run has not ended before, that is all that the reader had left.
abbrev pub RunOn : Option (List ℕ) → Option (List ℕ) → Result (Unit {0}) Stop → Type 0
RunOn before after r = MatchResult r
    (λ _. (input : List ℕ) × (output : List ℕ) × Consumes before after input × IsAtEnd after × Run input output)
    (λ why. WhenEnded why ((input : List ℕ) × (output : List ℕ) × Consumes before after input × Run input output))
