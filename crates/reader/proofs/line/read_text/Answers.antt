use Rattle.reader.specs.Gather.{left_by_line}
use Rattle.grammar.proofs.Place.{Placed}
use Rattle.grammar.specs.Grammar.{Line}
use native.Mathlib.Omega.{arith}
use mathlib.Core.Path.{ap, ◌∙◌}
use Rattle.reader.proofs.Beginning.{label_within, form_within, past_ends, work_within, line_left, label_wrong, no_mark}
use Rattle.reader.proofs.line.read_text.Goals as goal

pub label_end-requires : goal.label_end-requires
label_end-requires c = form_within c.args.text.now (past_ends c.args.text.now c.args.table.now (rw c.in-Ok.is at c.mark_at.ensures))

pub gather-requires : goal.gather-requires
gather-requires c = let m = rw c.in-Ok.is at c.mark_at.ensures in let l = label_within c.args.text.now _ (form_within c.args.text.now (past_ends c.args.text.now c.args.table.now m)) (rw c.in-Ok-label_end.is at c.label_end.ensures) in (l.1, c.requires, (let w = work_within c.args.text.now c.args.table.now m in omega (arith, l)))

pub returns-in-Ok-label_end : goal.returns-in-Ok-label_end
returns-in-Ok-label_end c = c.gather.ensures ∙ line_left c.args.text.now c.args.table.now c.args.spaces.now (rw c.in-Ok.is at c.mark_at.ensures) (rw c.in-Ok-label_end.is at c.label_end.ensures)

pub returns-in-Err-label_end : goal.returns-in-Err-label_end
returns-in-Err-label_end c = ap (λ (m : Placed Line). left_by_line c.args.table.now m c.args.spaces.now) (label_wrong c.args.text.now (past_ends c.args.text.now c.args.table.now (rw c.in-Ok.is at c.mark_at.ensures)) (rw c.in-Err-label_end.is at c.label_end.ensures))

pub returns-in-Err : goal.returns-in-Err
returns-in-Err c = ap (λ (m : Placed Line). left_by_line c.args.table.now m c.args.spaces.now) (no_mark c.args.text.now c.args.table.now (rw c.in-Err.is at c.mark_at.ensures))
