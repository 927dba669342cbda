-- `parameters::save::Session::put_file` meets its contract: what is put and the lines from the number on are the file.
-- Assumes nothing.
use mathlib.Core.Path.{◌≡◌}
use Prim.Native.Nat.{◌+◌, ◌-◌, ◌≤◌}
use lib.ListN.{length}
use lib.Seq.{sets}
use Rattle.parameters.specs.Writing.{file}
use Rattle.parameters.proofs.Examples.{}
use Rattle.parameters.proofs.Saving.{rest_from}
use Rattle.parameters.proofs.save.Session.put_file.Given as goal

abbrev pub invariant-loop-number : goal.invariant-loop-number
invariant-loop-number l = (1 ≤ l.number) × (l.number ≤ 5400) × (length l.out ≡ length l.initial.out) × (l.at + length (rest_from l.self.rec.now l.self.table.now l.number) ≤ length l.initial.out) × (sets l.out l.at (rest_from l.self.rec.now l.self.table.now l.number) ≡ sets l.initial.out 0 (file l.self.rec.now l.self.table.now))

abbrev pub decreases-loop-number : goal.decreases-loop-number
decreases-loop-number l = 5400 - l.number
