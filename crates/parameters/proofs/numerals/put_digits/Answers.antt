-- `parameters::numerals::put_digits` meets its contract.
-- Assumes nothing.
use mathlib.Core.Path.{ap, ◌∙◌}
use Prim.Native.Nat.{ℕ, ◌+◌, ◌-◌, ◌/◌}
use native.Mathlib.Omega.{arith}
use lib.Seq.{sets}
use lib.ListN.{length-set, set}
use Rattle.parameters.specs.Writing.{last}
use Rattle.parameters.proofs.Puts.{digit_put}
use Rattle.parameters.proofs.numerals.put_digits.Goals as goal

pub loop-left-preserved : goal.loop-left-preserved
loop-left-preserved c =
    (omega arith, simp length-set (omega arith), ap (λ (d : ℕ). sets (set c.loop-left.text (c.args.at + (c.loop-left.left - 1)) d) c.args.at (last (c.loop-left.left - 1) (c.loop-left.rest / 10))) c.digit.ensures ∙ digit_put c.loop-left.text c.args.at c.loop-left.left c.loop-left.rest (omega arith) ∙ c.loop-left.invariant.2)
