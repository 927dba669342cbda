-- `value::is_below_zero` meets its contract: the test of the bits is that of the number.
-- Assumes nothing.
use Rattle.value.proofs.Bits.{sign_test}
use Rattle.value.proofs.is_below_zero.Goals as goal

pub returns : goal.returns
returns c = sign_test c.args.v.0 (record { sfits = c.struct_told-1.given.0.1 })
