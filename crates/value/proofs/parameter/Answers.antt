-- `value::parameter` meets its contract: the whole number that a value counts as is compared with the first and the last number.
-- Assumes nothing.
use borrow.Author.Rules.{rules}
use mathlib.Core.Path.{sym, ◌∙◌}
use Rattle.value.proofs.Ranges.{below_first, above_last, a_parameter, no_parameter, index_fits}
use Rattle.value.proofs.parameter.Goals as goal

pub returns-in_err-n : goal.returns-in_err-n
returns-in_err-n c = c.from_residual.ensures ∙ no_parameter _ (sym c.in_err-n.was ∙ c.whole.ensures)

pub returns-then-n-lt1 : goal.returns-then-n-lt1
returns-then-n-lt1 c = below_first {n = c.in_ok-n.n} (record { fits = search rules; is = sym c.in_ok-n.was ∙ c.whole.ensures }) c.if-n-lt1.true

pub returns-then-n-gt4999 : goal.returns-then-n-gt4999
returns-then-n-gt4999 c = above_last {n = c.in_ok-n.n} (record { fits = search rules; is = sym c.in_ok-n.was ∙ c.whole.ensures }) c.if-n-gt4999.true

pub overflow_cast-result : goal.overflow_cast-result
overflow_cast-result c = index_fits {n = c.in_ok-n.n} (record { fits = search rules; is = sym c.in_ok-n.was ∙ c.whole.ensures }) c.if-n-lt1.false c.if-n-gt4999.false

pub returns : goal.returns
returns c = a_parameter {n = c.in_ok-n.n} (record { fits = search rules; is = sym c.in_ok-n.was ∙ c.whole.ensures }) c.if-n-lt1.false c.if-n-gt4999.false
