use Rattle.reader.proofs.Beginning.{label_past, label_none, label_empty, label_many, label_some}
use Rattle.reader.proofs.line.label_end.Goals as goal
use Rattle.reader.proofs.line.label_end.Goals.{then-text-at-via-then-text-at, then-text-at-via-else-text-at+then-text-at-ne78}

pub returns-then-text-at : goal.returns-then-text-at
returns-then-text-at c =
    elim c.then-text-at.branch [
      | then-text-at-via-then-text-at w ↦ label_past c.args.text.now c.args.at c.requires w.if-text-at.true
      | then-text-at-via-else-text-at+then-text-at-ne78 w ↦ label_none c.args.text.now c.args.at c.requires w.if-text-at.false w.if-text-at-ne78.true
    ]

pub returns-then-digits-at : goal.returns-then-digits-at
returns-then-digits-at c = label_empty c.args.text.now c.args.at c.requires c.if-text-at.false c.if-text-at-ne78.false c.digits_from-digits.ensures c.if-digits-at.true

pub returns-then-at-digits : goal.returns-then-at-digits
returns-then-at-digits c = label_many c.args.text.now c.args.at c.requires c.if-text-at.false c.if-text-at-ne78.false c.digits_from-digits.ensures c.if-at-digits.true

pub returns : goal.returns
returns c = label_some c.args.text.now c.args.at c.requires c.if-text-at.false c.if-text-at-ne78.false c.digits_from-digits.ensures c.if-digits-at.false c.if-at-digits.false
