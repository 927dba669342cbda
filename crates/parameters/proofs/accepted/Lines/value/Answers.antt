-- `parameters::accepted::Lines::value` meets its contract: lines are passed up to the number's own, or to one behind it.
-- Assumes nothing.
use mathlib.Core.Path.{◌∙◌}
use Rattle.std.proofs.Common.{rules}
use Rattle.laws.proofs.Ints.{back}
use Rattle.parameters.proofs.Going.{value_end, value_refused, accepted_on, value_behind, value_here, value_before}
use Rattle.parameters.proofs.accepted.Lines.value.Goals as goal

pub returns-in_default-read_line : goal.returns-in_default-read_line
returns-in_default-read_line c = absurd (value_refused c.loop-line.invariant c.loop-line.self.accepted c.in-Some.ensures c.in_default-read_line.field-0 c.in_default-read_line.ensures)

pub returns-then-number-said : goal.returns-then-number-said
returns-then-number-said c = value_behind c.loop-line.invariant c.loop-line.self.accepted c.in-Some.ensures c.in-Ok.ensures c.if-number-said.true (back c.unsaid-then-number-said.result (search rules) ∙ c.unsaid-then-number-said.ensures)

pub invariant_of-self : goal.invariant_of-self
invariant_of-self c = record { accepted = accepted_on c.loop-line.invariant c.loop-line.self.accepted c.in-Some.ensures c.in-Ok.ensures }

pub returns-then-said-number : goal.returns-then-said-number
returns-then-said-number c = value_here c.loop-line.invariant c.loop-line.self.accepted c.in-Some.ensures c.in-Ok.ensures c.if-said-number.true c.requires (back c.in-Ok.said.value (search rules))

pub loop-line-preserved : goal.loop-line-preserved
loop-line-preserved c = value_before c.loop-line.invariant c.loop-line.self.accepted c.in-Some.ensures c.in-Ok.ensures c.if-number-said.false c.if-said-number.false

pub returns : goal.returns
returns c = value_end c.loop-line.invariant c.in_default.ensures (back c.unsaid-2.result (search rules) ∙ c.unsaid-2.ensures)
