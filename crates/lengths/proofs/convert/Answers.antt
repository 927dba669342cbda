-- `lengths::convert` meets its contract: a value in range is converted, any other goes to the farthest length of its sign.
-- Assumes nothing.
use Rattle.lengths.specs.Saturated.{conversion}
use Rattle.value.proofs.Ranges.{inside}
use mathlib.Core.Path.{sym, ◌∙◌}
use Rattle.lengths.proofs.convert.Goals as goal

pub converted-requires : goal.converted-requires
converted-requires c =
    inside c.args.v.0 (sym c.in_range.ensures ∙ c.if-in_range.true)

pub returns-then-in_range : goal.returns-then-in_range
unfolding conversion
returns-then-in_range c = c.converted.ensures ∙ rw (sym c.in_range.ensures ∙ c.if-in_range.true)

pub returns-else-in_range : goal.returns-else-in_range
unfolding conversion
returns-else-in_range c =
    c.farthest.ensures ∙ rw (c.is_below_zero.ensures, sym c.in_range.ensures ∙ c.if-in_range.false)
