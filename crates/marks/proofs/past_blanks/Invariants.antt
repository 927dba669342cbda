-- `marks::past_blanks` meets its contract: the bytes that are passed are blanks.
-- Assumes nothing.
use mathlib.Core.Path.{◌≡◌}
use Prim.Native.Nat.{◌≤◌, max}
use lib.ListN.{length}
use Rattle.marks.specs.Blanks.{past_blanks}
use Rattle.marks.proofs.past_blanks.Given as goal

abbrev pub invariant-loop-i : goal.invariant-loop-i
invariant-loop-i l = (l.i ≤ max (length l.line) l.at) × (past_blanks l.line l.at ≡ past_blanks l.line l.i)
