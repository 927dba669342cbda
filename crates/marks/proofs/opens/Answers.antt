-- `marks::opens` meets its contract.
-- Assumes nothing.
use mathlib.Core.Path.{sym}
use native.Mathlib.Omega.{arith}
use Rattle.std.proofs.lemmas.Bool.Decides.{nat_tests}
use Rattle.marks.proofs.Blanks.{opens_here, opens_nowhere}
use Rattle.marks.proofs.opens.Goals as goal

pub returns-then-i-line : goal.returns-then-i-line
returns-then-i-line c = sym (opens_here c.args.line.now c.args.at c.past_blanks-i.ensures (omega arith))

pub returns-else-i-line : goal.returns-else-i-line
returns-else-i-line c = rw (opens_nowhere c.args.line.now c.args.at c.past_blanks-i.ensures (omega arith)) (grind (arith, nat_tests))
