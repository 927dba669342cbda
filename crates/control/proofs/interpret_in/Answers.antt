-- `control::interpret_in` meets its contract: what is asked before the line is read, in its order.
-- Assumes nothing.
use native.Mathlib.Omega.{arith}
use Rattle.control.proofs.Keeping.{by_test, kept_table, kept_2, kept_skipped, lends_table, lends_long, lends_skipped}
use Rattle.control.proofs.interpret_in.Goals as goal

pub returns-then-table-ne5000 : goal.returns-then-table-ne5000
returns-then-table-ne5000 c =
    let old = c.args.spaces.now in
    (kept_table c.args.line.now c.args.switch c.args.rec c.args.table.now c.args.out.now c.if-table-ne5000.true c.unchanged.ensures, lends_table c.args.line.now c.args.switch c.args.table.now old c.if-table-ne5000.true)

pub returns-then-line-gt256 : goal.returns-then-line-gt256
returns-then-line-gt256 c =
    let old = c.args.spaces.now in
    (kept_2 c.args.line.now c.args.switch c.args.rec c.args.table.now c.args.out.now c.if-table-ne5000.false c.if-line-gt256.true c.answered.ensures, lends_long c.args.line.now c.args.switch c.args.table.now old c.if-table-ne5000.false c.if-line-gt256.true)

pub returns-then-unread : goal.returns-then-unread
returns-then-unread c =
    let old = c.args.spaces.now in
    let skipped = by_test c.unread.ensures c.if-unread.true in
    (kept_skipped c.args.line.now c.args.switch c.args.rec c.args.table.now c.args.out.now c.if-table-ne5000.false (omega arith) skipped c.answered-then-unread.ensures, lends_skipped c.args.line.now c.args.switch c.args.table.now old c.if-table-ne5000.false (omega arith) skipped)

pub read_and_work-requires : goal.read_and_work-requires
read_and_work-requires c =
    (c.if-table-ne5000.false, omega (arith, c.if-line-gt256.false), by_test c.unread.ensures c.if-unread.false, c.sized.ensures.0, c.sized.ensures.1, c.sized.ensures.2, c.sized.ensures.3)

pub returns : goal.returns
returns c = c.read_and_work.ensures
