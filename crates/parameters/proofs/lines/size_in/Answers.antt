-- `parameters::lines::size_in` meets its contract: the digits before the point, those behind it, and zeros.
-- Assumes nothing.
use mathlib.Core.Path.{refl}
use Rattle.parameters.proofs.Amounts.{size_all}
use Rattle.parameters.proofs.lines.size_in.Goals as goal

pub returns : goal.returns
returns c = size_all c.args.parts.whole.now c.args.parts.decimals.now c.args.decimals _ c.worth.ensures c.worth-all.ensures refl c.with_zeros.ensures
