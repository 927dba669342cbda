-- What a read gives of the bytes that a reader has left, where those are known (std's `remaining`).
-- Assumes nothing.
use Rattle.std.specs.Prelude.{◌≡◌, Bool, true, false, List, ℕ, ◌<◌, length, take, Option, Result, Ok, Err, IfErr}
use Rattle.std.specs.Io.{ReadsAtMost}
use Rattle.std.specs.Io.KnownBytes.{Consumes, IsAtEnd, ReadConsumes}
use Rattle.std.specs.IoError.{error_kind}
use Rattle.std.specs.declared.io.Error.{Error}
use Rattle.std.specs.declared.io.ErrorKind.{ErrorKind}
use Rattle.std.specs.declared.io.ErrorKind.TheVariants.{WouldBlock, Interrupted}
use Rattle.streams.specs.declared.failure.Failure.{Failure}
use Rattle.streams.specs.declared.failure.Failure.TheVariants.{CannotRead, CannotWrite, TooLong}

-- what failed so may go well after others have had their turn
abbrev pub comes_later : ErrorKind → Bool
comes_later WouldBlock = true
comes_later Interrupted = true
comes_later _ = false

-- At `Ok n` the first n bytes of the space are the next ones that the reader had left, in order, and none in a space that has room is its end. At `Err` the
-- reader has left what it had, and waiting is of no use.
abbrev pub GivesPiece : Option (List ℕ) → Option (List ℕ) → Result ℕ Error → List ℕ → Type 0
GivesPiece before after r bytes = ReadsAtMost r bytes × ReadConsumes before after r bytes × IfErr r (λ why. comes_later (error_kind why) ≡ false)

-- At `Ok n` the first n bytes of the space are all that the reader had left. An input that is too long fills the space with its first bytes; where it cannot
-- be read on, the space begins with those that were read.
abbrev pub GivesWhole : Option (List ℕ) → Option (List ℕ) → Result ℕ Failure → List ℕ → Type 0
GivesWhole before after (Ok n) bytes = (n < length bytes) × Consumes before after (take n bytes) × IsAtEnd after
GivesWhole before after (Err (TooLong space)) bytes = (space ≡ length bytes) × Consumes before after bytes
GivesWhole before after (Err (CannotRead why)) bytes = (n : ℕ) × (n < length bytes) × Consumes before after (take n bytes) × (comes_later (error_kind why) ≡ false)
GivesWhole before after (Err (CannotWrite why)) bytes = ⊥
