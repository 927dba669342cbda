-- `index::space::Entries::held` meets its contract.
-- Assumes nothing.
use mathlib.Core.Path.{ap, ◌∙◌}
use native.Mathlib.Omega.{arith}
use Rattle.index.specs.Held.{flat}
use Rattle.index.proofs.Numbers.{flat_kept}
use Rattle.index.proofs.space.Entries.held.Goals as goal

pub returns-clause-numbers : goal.returns-clause-numbers
returns-clause-numbers c = flat_kept c.self.inside.space c.self.inside.count (omega (arith, c.self.invariant)) ∙ ap flat c.self.view_is
