use mathlib.Core.Path.{◌≡◌, sym, ◌∙◌}
use Rattle.std.specs.Prelude.{Err}
use Rattle.std.proofs.Common.{rules}
use Rattle.reader.proofs.Itemising.{at_end, item_word, word_valueless, item_setting, item_comment, comment_wrong, item_none}
use Rattle.reader.proofs.items.item_at.Goals as goal

pub returns-then-text-at : goal.returns-then-text-at
returns-then-text-at c = at_end c.args.table.now c.args.text.now c.args.at c.if-text-at.true

pub returns-in-Ok : goal.returns-in-Ok
returns-in-Ok c = item_word c.args.table.now c.args.text.now c.args.at c.if-text-at.false (sym c.is_letter.ensures ∙ c.if-is_letter.true) (sym c.in-Ok.is ∙ c.value_at.ensures) c.word_item.ensures

pub returns-in-Err : goal.returns-in-Err
returns-in-Err c = word_valueless c.args.table.now c.args.text.now c.args.at c.if-text-at.false (sym c.is_letter.ensures ∙ c.if-is_letter.true) (sym c.in-Err.is ∙ c.value_at.ensures) c.valueless.ensures

pub returns-in_err-comment_end-in-40 : goal.returns-in_err-comment_end-in-40
returns-in_err-comment_end-in-40 c =
    let z : c.from_residual.result ≡ Err c.in_err-comment_end-in-40.field-0.0 = search rules in
    rw z (comment_wrong c.args.table.now c.args.text.now c.args.at c.if-text-at.false (sym c.is_letter.ensures ∙ c.if-is_letter.false) c.in-40.is (sym c.in_err-comment_end-in-40.was ∙ c.comment_end.ensures))

pub returns-in_ok-comment_end-in-40 : goal.returns-in_ok-comment_end-in-40
returns-in_ok-comment_end-in-40 c = item_comment c.args.table.now c.args.text.now c.args.at c.if-text-at.false (sym c.is_letter.ensures ∙ c.if-is_letter.false) c.in-40.is (sym c.in_ok-comment_end-in-40.was ∙ c.comment_end.ensures)

pub returns-in-35 : goal.returns-in-35
returns-in-35 c = item_setting c.args.table.now c.args.text.now c.args.at c.if-text-at.false (sym c.is_letter.ensures ∙ c.if-is_letter.false) c.in-35.is c.setting_at.ensures

pub returns-in_default : goal.returns-in_default
returns-in_default c = item_none c.args.table.now c.args.text.now c.args.at c.if-text-at.false (sym c.is_letter.ensures ∙ c.if-is_letter.false) c.in_default.in_default-own.rest.0.1 c.in_default.in_default-own.rest.1
