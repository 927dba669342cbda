-- `texts::line_at` meets its contract: the first line feed tells.
-- Assumes nothing.
use mathlib.Core.Path.{sym, ◌∙◌}
use native.Mathlib.Omega.{arith}
use lib.ListN.{length-drop}
use Rattle.texts.proofs.Spanning.{feed_some, feed_none, line_short, line_behind, line_last, line_fed}
use Rattle.texts.proofs.line_at.Goals as goal

pub returns-then-text-at : goal.returns-then-text-at
returns-then-text-at c = line_behind c.args.text.now c.args.at (omega arith)

pub overflow_add-result : goal.overflow_add-result
overflow_add-result c =
    let f = feed_some c.args.text.now c.args.at c.in-Some.many (sym c.feed_in.ensures ∙ c.in-Some.is) in
    omega (arith, line_short c.args.text.now c.args.at c.in-Some.many (omega arith), length-drop c.args.at c.args.text.now)

pub returns-in-Some : goal.returns-in-Some
returns-in-Some c =
    let f = feed_some c.args.text.now c.args.at c.in-Some.many (sym c.feed_in.ensures ∙ c.in-Some.is) in
    rw c.without_return.ensures (line_fed c.args.text.now c.args.at c.in-Some.many f.0 f.1)

pub returns-in-None : goal.returns-in-None
returns-in-None c = line_last c.args.text.now c.args.at c.if-text-at.false (feed_none c.args.text.now c.args.at (sym c.feed_in.ensures ∙ c.in-None.is))
