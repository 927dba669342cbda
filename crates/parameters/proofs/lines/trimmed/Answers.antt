-- `parameters::lines::trimmed` meets its contract: zeros are taken off the end.
-- Assumes nothing.
use mathlib.Core.Path.{◌≡◌, ◌∙◌}
use Prim.Native.Nat.{◌-◌}
use lib.ListN.{length, get_or}
use Rattle.std.proofs.Common.{rules}
use Rattle.parameters.proofs.Cutting.{trim_on, trim_stop}
use Rattle.parameters.proofs.lines.trimmed.Goals as goal

pub loop-rest-preserved : goal.loop-rest-preserved
loop-rest-preserved c =
    let zero : get_or c.loop-rest.rest.now (length c.loop-rest.rest.now - 1) 0 ≡ 48 = search rules in
    trim_on c.loop-rest.rest.now c.in-48.len_at_least zero ∙ c.loop-rest.invariant

pub returns-in_default-2 : goal.returns-in_default-2
returns-in_default-2 c =
    let other : get_or c.loop-rest.rest.now (length c.loop-rest.rest.now - 1) 0 ≡ 48 → ⊥ = search rules in
    trim_stop c.loop-rest.rest.now c.in_default.len_at_least other ∙ c.loop-rest.invariant
