-- The front of the space is what was read so far, and each read that goes on holds more.
use Rattle.std.proofs.Common.{◌-◌, ◌≤◌, length, take}
use Rattle.std.specs.Io.KnownBytes.{Consumes}
use Rattle.cases.proofs.read_full.Given as goal

abbrev pub invariant-loop-held : goal.invariant-loop-held
invariant-loop-held g l = (l.held ≤ length l.bytes) × Consumes (g.R.Read.remaining l.initial.reader) (g.R.Read.remaining l.reader) (take l.held l.bytes)

abbrev pub decreases-loop-held : goal.decreases-loop-held
decreases-loop-held g l = length l.bytes - l.held
