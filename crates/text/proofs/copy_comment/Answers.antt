use borrow.Author.Tests.{eq-eqb, ne_eqb}
use mathlib.Core.Bool.{not}
use mathlib.Core.Path.{ap, sym}
use Rattle.text.proofs.Preparing.{copied, closed, unclosed}
use Rattle.text.proofs.copy_comment.Goals as goal

pub returns-then-b-eq41 : goal.returns-then-b-eq41
returns-then-b-eq41 c = closed c.args.line.now c.args.text.now (copied c.args.line.now c.args.text.now c.loop-i.invariant c.loop-i-test.true (sym (ap not (eq-eqb _ _ c.if-b-eq41.true))))

pub loop-i-preserved : goal.loop-i-preserved
loop-i-preserved c = copied c.args.line.now c.args.text.now c.loop-i.invariant c.loop-i-test.true (sym (ap not (ne_eqb _ _ c.if-b-eq41.false)))

pub returns : goal.returns
returns c = unclosed c.args.line.now c.args.text.now c.loop-i.invariant c.loop-i-test.false
