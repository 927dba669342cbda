-- `value::signs::ranged_signed` meets its contract: a size in range makes a value in range.
-- Assumes nothing.
use mathlib.Core.Path.{sym, ap, ◌∙◌}
use Rattle.value.proofs.Ranges.{signed_in, signed_out}
use Rattle.std.specs.Prelude.{Ok}
use lib.IntN.{ℤ}
use Rattle.value.proofs.signs.ranged_signed.Goals as goal

pub returns-then-size-le999999999 : goal.returns-then-size-le999999999
returns-then-size-le999999999 c =
    ap (λ (z : ℤ). Ok (record { 0 = z })) c.signed.ensures ∙ sym (signed_in c.args.negative c.if-size-le999999999.true)

pub returns-else-size-le999999999 : goal.returns-else-size-le999999999
returns-else-size-le999999999 c = sym (signed_out c.args.negative c.if-size-le999999999.false)
