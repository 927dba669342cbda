-- `parameters::lines::value_for` meets its contract: by the count of decimals, and by whether the value is allowed.
-- Assumes nothing.
use mathlib.Core.Path.{sym, ◌∙◌}
use Rattle.std.proofs.Common.{rules}
use Rattle.laws.proofs.Ints.{back}
use Rattle.parameters.proofs.Amounts.{value_far, value_good, is_judged}
use Rattle.parameters.proofs.lines.value_for.Goals as goal

pub returns-then-not-is_allowed : goal.returns-then-not-is_allowed
returns-then-not-is_allowed c = λ x q. value_far c.args.parts x q c.args.place c.decimals-places.ensures c.if-places-parts.false c.size_in-size.ensures (sym c.is_allowed.ensures ∙ c.if-not-is_allowed.true)

pub returns : goal.returns
returns c = λ x q. value_good c.args.parts x q c.args.place c.decimals-places.ensures c.if-places-parts.false c.size_in-size.ensures (is_judged c.args.place c.requires) (sym c.is_allowed.ensures ∙ c.if-not-is_allowed.false) (back c.with_sign.result (search rules) ∙ c.with_sign.ensures)
