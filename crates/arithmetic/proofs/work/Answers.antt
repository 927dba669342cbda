-- `arithmetic::work` meets its contract: both sides passed the guard, so they are in range, as `operation` asks; the left side is looked at first.
-- Assumes nothing.
use mathlib.Core.Path.{sym, ◌∙◌}
use Rattle.arithmetic.proofs.Kept.{good_kept}
use Rattle.arithmetic.proofs.work.Goals as goal

pub invariant_of-operation : goal.invariant_of-operation
invariant_of-operation c = record { in_range = good_kept c.args.a c.in_ok-x.x (sym c.checked.ensures ∙ c.in_ok-x.was) }

pub invariant_of-operation-2 : goal.invariant_of-operation-2
invariant_of-operation-2 c = record { in_range = good_kept c.args.b c.in_ok-y.y (sym c.checked-2.ensures ∙ c.in_ok-y.was) }
