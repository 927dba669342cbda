-- `index::replacing::write_line` meets its contract: the first i bytes are written.
-- Assumes nothing.
use mathlib.Core.Path.{◌≡◌}
use lib.Seq.{paste}
use Rattle.index.proofs.replacing.write_line.Given as goal

abbrev pub invariant-loop-i : goal.invariant-loop-i
invariant-loop-i l = l.text ≡ paste l.initial.text l.at l.line l.i
