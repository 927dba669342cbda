-- `frames::put_fields` meets its contract: after j turns the first j fields stand.
-- Assumes nothing.
use mathlib.Core.Path.{◌≡◌}
use Prim.Native.Nat.{◌≤◌}
use lib.Seq.{sets}
use lib.ListN.{length, take, drop}
use Rattle.rules.specs.Frames.{fields}
use Rattle.frames.proofs.put_fields.Given as goal

abbrev pub invariant-loop-j : goal.invariant-loop-j
invariant-loop-j l = (l.j ≤ l.many) × (length l.text ≡ length l.initial.text) × (l.text ≡ sets l.initial.text l.at (fields (take l.j (drop l.first l.out))))
