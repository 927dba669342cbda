-- What the loop of `parameters::accepted::Lines::fill_table` keeps: the entries up to its number are the file's, and the rest has those behind them.
-- Assumes nothing.
use mathlib.Core.Path.{◌≡◌}
use lib.IntN.{pos}
use lib.ListN.{length}
use Rattle.parameters.specs.Reading.{table_from}
use Rattle.parameters.specs.Parse.{entries_of}
use Rattle.parameters.specs.Told.{Remains}
use Rattle.parameters.proofs.Going.{Filling}
use Rattle.parameters.proofs.accepted.Lines.fill_table.Given as goal

abbrev pub invariant-loop-n : goal.invariant-loop-n
invariant-loop-n l = (length l.initial.table ≡ 5000) × Remains l.initial.self.rest.now l.self.rest.now l.n × Filling (pos 0) (table_from (entries_of l.initial.self.rest.now) l.initial.table) l.n l.table
