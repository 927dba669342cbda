-- `mend::line::first_difference` meets its contract: as far as the shorter line goes there is no difference.
-- Assumes nothing.
use native.Mathlib.Omega.{arith}
use mathlib.Core.Path.{◌≡◌, ap, ◌∙◌}
use Prim.Native.Nat.{ℕ, ◌+◌}
use lib.ListN.{drop}
use Rattle.mend.specs.Mend.{differs}
use Rattle.mend.proofs.Differing.{differs_end}
use Rattle.mend.proofs.line.first_difference.Goals as goal

pub returns : goal.returns
returns c n =
    let z : c.min-shorter.result ≡ c.loop-i.i = omega arith in
    differs_end c.args.a.now c.args.b.now c.min-shorter.result (omega arith) (ap (λ (i : ℕ). differs (i + 1) (drop i c.args.a.now) (drop i c.args.b.now)) z ∙ c.loop-i.invariant) n
