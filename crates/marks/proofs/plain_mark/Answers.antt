-- `marks::plain_mark` meets its contract.
-- Assumes nothing.
use native.Mathlib.Omega.{arith}
use Rattle.std.proofs.lemmas.Bool.Decides.{nat_tests}
use Rattle.marks.proofs.Blanks.{mark_here, mark_nowhere}
use Rattle.marks.proofs.plain_mark.Goals as goal

pub returns-then-line-i : goal.returns-then-line-i
returns-then-line-i c =
    grind (arith, nat_tests, mark_here c.args.line.now 0 c.past_blanks-i.ensures c.args.mark, mark_nowhere c.args.line.now 0 c.past_blanks-i.ensures c.args.mark)

pub returns-else-line-i : goal.returns-else-line-i
returns-else-line-i c =
    grind (arith, nat_tests, mark_here c.args.line.now 0 c.past_blanks-i.ensures c.args.mark, mark_nowhere c.args.line.now 0 c.past_blanks-i.ensures c.args.mark)
