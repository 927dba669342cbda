use Rattle.text.proofs.Preparing.{dropped, kept, opened, ends, too_long, plain_as_is}
use mathlib.Core.Path.{ap, sym, ◌∙◌}
use mathlib.Core.Bool.{not}
use native.Mathlib.Omega.{arith}
use borrow.Author.Tests.{ne_eqb}
use Rattle.text.proofs.prepare.Goals as goal

pub returns-then-text-line : goal.returns-then-text-line
returns-then-text-line c = too_long c.args.line.now c.args.text.now c.if-text-line.true

pub loop-i-preserved-then-is_plain : goal.loop-i-preserved-then-is_plain
loop-i-preserved-then-is_plain c = let p = (plain_as_is _ (sym c.is_plain.ensures ∙ c.if-is_plain.true)) in kept c.args.line.now c.args.text.now c.loop-i.invariant c.loop-i-test.true c.if-text-line.false p.0 p.1 p.2

pub loop-i-preserved-then-b-eq40 : goal.loop-i-preserved-then-b-eq40
loop-i-preserved-then-b-eq40 c = c.copy_comment-next.ensures.goes c.args.text.now c.if-text-line.false (opened c.args.line.now c.args.text.now c.loop-i.invariant c.loop-i-test.true c.if-text-line.false c.if-b-eq40.true) _ (omega (arith, c.copy_comment-next.ensures.on))

pub returns : goal.returns
returns c = ends c.args.line.now c.args.text.now c.loop-i.invariant c.if-text-line.false c.loop-i-test.false

pub loop-i-preserved-then-not-is_blank : goal.loop-i-preserved-then-not-is_blank
loop-i-preserved-then-not-is_blank c = kept c.args.line.now c.args.text.now c.loop-i.invariant c.loop-i-test.true c.if-text-line.false (ap not (sym c.is_blank.ensures ∙ c.if-not-is_blank.true)) c.raised.ensures (sym (ne_eqb _ _ c.if-b-eq40.false))

pub loop-i-preserved : goal.loop-i-preserved
loop-i-preserved c = dropped c.args.line.now c.args.text.now c.loop-i.invariant c.loop-i-test.true (ap not (sym c.is_blank.ensures ∙ c.if-not-is_blank.false))
