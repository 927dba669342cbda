-- `mend::line::mend_line` meets its contract: way by way.
-- Assumes nothing.
use mathlib.Core.Path.{sym, ◌∙◌}
use native.Mathlib.Omega.{arith}
use Rattle.mend.proofs.LineMended.{already_left, emptied_left, long_left, still_wrong, no_room, with_room}
use Rattle.mend.proofs.line.mend_line.Goals as goal

pub returns-then-is_right : goal.returns-then-is_right
returns-then-is_right c tree told = already_left tree c.args.line.now c.args.out.now (sym (c.is_right.ensures tree told) ∙ c.if-is_right.true)

pub returns-then-lone_percent : goal.returns-then-lone_percent
returns-then-lone_percent c tree told = emptied_left told c.args.line.now c.args.out.now (sym (c.is_right.ensures tree told) ∙ c.if-is_right.false) (sym c.if-lone_percent.true ∙ c.lone_percent.ensures)

pub returns-then-line-gt256 : goal.returns-then-line-gt256
returns-then-line-gt256 c tree told = long_left tree c.args.line.now c.args.out.now (sym (c.is_right.ensures tree told) ∙ c.if-is_right.false) (sym c.if-lone_percent.false ∙ c.lone_percent.ensures) c.if-line-gt256.true

pub returns-then-not-is_right : goal.returns-then-not-is_right
returns-then-not-is_right c tree told = still_wrong c.args.line.now c.repair_line-repaired.new.space c.repair_line-repaired.result c.repair_line-repaired.ensures tree c.args.out.now (sym (c.is_right.ensures tree told) ∙ c.if-is_right.false) c.is_right-2.result (c.is_right-2.ensures tree told) c.if-not-is_right.true

pub returns-then-out-n : goal.returns-then-out-n
returns-then-out-n c tree told = no_room c.args.line.now c.repair_line-repaired.new.space c.repair_line-repaired.result c.repair_line-repaired.ensures tree c.args.out.now (sym (c.is_right.ensures tree told) ∙ c.if-is_right.false) c.is_right-2.result (c.is_right-2.ensures tree told) c.if-not-is_right.false c.if-out-n.true

pub returns : goal.returns
returns c tree told = with_room c.args.line.now c.repair_line-repaired.new.space c.repair_line-repaired.result c.repair_line-repaired.ensures tree c.args.out.now (sym (c.is_right.ensures tree told) ∙ c.if-is_right.false) c.is_right-2.result (c.is_right-2.ensures tree told) c.if-not-is_right.false (omega arith) c.first_difference.result c.first_difference.ensures c.copy_from_slice.new.self c.copy_from_slice.ensures.after
