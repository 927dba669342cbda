-- `parameters::save::Session::file_size` meets its contract: the lines passed and those from the number on are the file.
-- Assumes nothing.
use mathlib.Core.Path.{◌≡◌}
use Prim.Native.Nat.{◌+◌, ◌-◌, ◌*◌, ◌≤◌}
use lib.ListN.{length}
use Rattle.parameters.specs.Writing.{file}
use Rattle.parameters.proofs.Examples.{}
use Rattle.parameters.proofs.Saving.{rest_from}
use Rattle.parameters.proofs.save.Session.file_size.Given as goal

abbrev pub invariant-loop-number : goal.invariant-loop-number
invariant-loop-number l = (1 ≤ l.number) × (l.number ≤ 5400) × (l.size ≤ l.number * 32) × (l.size + length (rest_from l.self.rec.now l.self.table.now l.number) ≡ length (file l.self.rec.now l.self.table.now))

abbrev pub decreases-loop-number : goal.decreases-loop-number
decreases-loop-number l = 5400 - l.number
