-- What the loop of `parameters::accepted::Lines::fill_lengths` keeps: the lengths up to its place are the file's, and the rest has those behind them.
-- Assumes nothing.
use Prim.Native.Nat.{ℕ, ◌<◌}
use Rattle.rules.specs.Reach.{nowhere}
use Rattle.parameters.specs.Places.{number_from}
use Rattle.parameters.specs.Reading.{renewed, length_from}
use Rattle.parameters.specs.Parse.{entries_of}
use Rattle.parameters.specs.Told.{Remains}
use Rattle.parameters.proofs.Going.{Filling}
use Rattle.parameters.proofs.accepted.Lines.fill_lengths.Given as goal

abbrev pub invariant-loop-i : goal.invariant-loop-i
invariant-loop-i l =
    ((m : ℕ) → ((k : ℕ) → k < l.i → number_from l.first k < m) → Remains l.initial.self.rest.now l.self.rest.now m)
    × Filling nowhere (renewed (length_from (entries_of l.initial.self.rest.now) (number_from l.first)) 0 l.initial.lengths) l.i l.lengths
