-- `index::replacing::fitting` meets its contract.
-- Assumes nothing.
use Rattle.index.proofs.Ending.{unfit_length, unfit_ends, fit_both}
use Rattle.index.proofs.replacing.fitting.Goals as goal
use Rattle.index.proofs.replacing.fitting.Goals.{then-line-old-via-then-line-old, then-line-old-via-else-line-old+then-holds_end}

pub returns-then-line-old : goal.returns-then-line-old
returns-then-line-old c =
    let w = rw c.in_ok-old.ensures.ok_part at c.line_of.ensures in
    elim c.then-line-old.branch [
      | then-line-old-via-then-line-old b ↦ unfit_length c.args.text.now c.args.k c.args.line.now w b.if-line-old.true
      | then-line-old-via-else-line-old+then-holds_end b ↦ unfit_ends c.args.text.now c.args.k c.args.line.now w b.holds_end.ensures b.if-holds_end.true
    ]

pub returns : goal.returns
returns c =
    let w = rw c.in_ok-old.ensures.ok_part at c.line_of.ensures in
    (w, fit_both c.args.text.now c.args.k c.args.line.now w c.if-line-old.false c.holds_end.ensures c.if-holds_end.false)
