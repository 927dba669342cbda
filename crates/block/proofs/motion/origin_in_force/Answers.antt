-- `block::motion::origin_in_force` meets its contract.
-- Assumes nothing.
use mathlib.Core.Path.{◌≡◌}
use Prim.Native.Nat.{ℕ, zero, suc}
use native.Mathlib.Omega.{arith}
use Rattle.std.specs.Prelude.{Some}
use Rattle.rules.specs.Codes.{numbered, system_number}
use Rattle.rules.proofs.Index.{system_within}
use Rattle.block.proofs.motion.origin_in_force.Goals as goal

is_number : (n k : ℕ) → Some k ≡ numbered n → k ≡ n
is_number zero k e = absurd (cc)
is_number (suc n) k e = cc

pub origin_of-requires-clause-last : goal.origin_of-requires-clause-last
origin_of-requires-clause-last c = omega (arith, is_number (system_number c.args.system) c.in-Some.number c.in-Some.ensures, system_within c.args.system)
