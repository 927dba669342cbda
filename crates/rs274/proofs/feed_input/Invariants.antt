use Rattle.std.proofs.Common.{List, ℕ}
use Rattle.std.specs.Io.KnownBytes.{Consumes}
use Rattle.run.specs.Stands.{start}
use Rattle.rs274.specs.Feeding.{Called}
use Rattle.rs274.proofs.feed_input.Given as goal

abbrev pub invariant-loop : goal.invariant-loop
invariant-loop g l = (input : List ℕ) × Consumes (g.R.Read.remaining l.initial.reader) (g.R.Read.remaining l.reader) input × Called start l.fn.spaces input l.state l.spaces
