-- `marks::past_blanks` meets its contract.
-- Assumes nothing.
use mathlib.Core.Path.{◌≡◌, sym, ◌∙◌}
use native.Mathlib.Omega.{arith}
use Rattle.marks.proofs.Blanks.{one_more, no_blank, no_more}
use Rattle.marks.proofs.past_blanks.Goals as goal

pub returns-then-not-is_blank : goal.returns-then-not-is_blank
returns-then-not-is_blank c =
    sym (c.loop-i.invariant.1 ∙ no_blank c.args.line.now c.loop-i.i (omega arith) (sym c.is_blank.ensures ∙ c.if-not-is_blank.true))

pub loop-i-preserved : goal.loop-i-preserved
loop-i-preserved c = (
  omega arith,
  c.loop-i.invariant.1 ∙ one_more c.args.line.now c.loop-i.i (omega arith) (sym c.is_blank.ensures ∙ c.if-not-is_blank.false),
)

pub returns : goal.returns
returns c =
    let last : c.max.result ≡ c.loop-i.i = omega (arith, c.max.ensures) in
    last ∙ sym (c.loop-i.invariant.1 ∙ no_more c.args.line.now c.loop-i.i (omega arith))
