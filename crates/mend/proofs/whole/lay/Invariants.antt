-- `mend::whole::lay` meets its contract: what came before i stands in the space, and all else of it is as it was.
-- Assumes nothing.
use mathlib.Core.Path.{◌≡◌}
use lib.ListN.{take}
use Rattle.mend.specs.Text.{laid_at}
use Rattle.mend.proofs.whole.lay.Given as goal

abbrev pub invariant-loop-i : goal.invariant-loop-i
invariant-loop-i g l = l.out ≡ laid_at l.initial.out l.from (take l.i l.items)
