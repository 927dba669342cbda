-- `mend::repairs::ends_behind` meets its contract: where no outermost comment opens, what was known still holds.
-- Assumes nothing.
use mathlib.Core.Path.{◌∙◌}
use native.Mathlib.Omega.{arith}
use lib.ListN.{drop}
use Rattle.mend.proofs.Passing.{closed_nowhere, closed_inside}
use Rattle.mend.proofs.repairs.ends_behind.Goals.{else-d-eq0-via-then-d-eq0+else-e-gt0, else-d-eq0-via-else-d-eq0}
use Rattle.mend.proofs.repairs.ends_behind.Goals as goal

pub returns-else-d-eq0 : goal.returns-else-d-eq0
returns-else-d-eq0 c =
    let l = drop c.args.next c.args.line.now in
    λ b q h. h ∙ elim c.else-d-eq0.branch [
      | else-d-eq0-via-then-d-eq0+else-e-gt0 w ↦ closed_nowhere l c.args.d c.args.e b w.if-d-eq0.true (omega (arith, w.if-e-gt0.false))
      | else-d-eq0-via-else-d-eq0 w ↦ closed_inside l c.args.d c.args.e b w.if-d-eq0.false q
    ]
