-- `parameters::numerals::number_size` meets its contract.
-- Assumes nothing.
use mathlib.Core.Path.{ap}
use native.Mathlib.Omega.{arith}
use Prim.Native.Nat.{ℕ}
use lib.ListN.{length}
use Rattle.parameters.specs.Writing.{digits_of}
use Rattle.parameters.proofs.Puts.{number_size}
use Rattle.parameters.proofs.numerals.number_size.Goals as goal

pub returns : goal.returns
returns c =
    omega (arith, number_size c.args.decimals c.args.negative c.args.size, c.fraction_size.ensures.0, c.sign_size.ensures.0, c.digit_count-whole.ensures.0, ap (λ (k : ℕ). length (digits_of k)) c.whole_part.ensures.0)
