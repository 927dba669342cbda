use mathlib.Core.Path.{refl, sym, ap, ◌∙◌}
use Rattle.std.specs.Prelude.{Some, Ok}
use Rattle.std.specs.Option.{option_or}
use Rattle.reader.specs.declared.answer.Unread.{Unread}
use native.Mathlib.Omega.{arith}
use Rattle.reader.proofs.Passing.{at_word, at_setting, at_comment, at_stop, at_deep, past_on}
use Rattle.reader.proofs.Gathering.{room_for_word, room_for_setting, room_for_work, gather_word, gather_setting, gather_past, gather_comment, gather_stop, gather_deep, recounted, gather_wrong, gather_end}
use Rattle.reader.proofs.line.gather.Goals as goal

pub store_word-words-requires : goal.store_word-words-requires
store_word-words-requires c = room_for_word c.loop-letter.invariant (at_word _ _ _ (sym (c.in-Ok-Word.is ∙ ap Ok c.in-Ok-Word.field-0-is) ∙ c.item_from.ensures)) c.requires.1

pub overflow_add-work : goal.overflow_add-work
overflow_add-work c = let k = room_for_work c.loop-letter.invariant (at_word _ _ _ (sym (c.in-Ok-Word.is ∙ ap Ok c.in-Ok-Word.field-0-is) ∙ c.item_from.ensures)) in omega (arith, k)

pub loop-letter-smaller-then-is_none : goal.loop-letter-smaller-then-is_none
loop-letter-smaller-then-is_none c = let k = past_on (at_word _ _ _ (sym (c.in-Ok-Word.is ∙ ap Ok c.in-Ok-Word.field-0-is) ∙ c.item_from.ensures)).past in omega (arith, k)

pub loop-letter-preserved-then-is_none : goal.loop-letter-preserved-then-is_none
loop-letter-preserved-then-is_none c = recounted (gather_word c.loop-letter.invariant (at_word _ _ _ (sym (c.in-Ok-Word.is ∙ ap Ok c.in-Ok-Word.field-0-is) ∙ c.item_from.ensures)) c.store_word-words.ensures.1 c.if-is_none.ensures) c.store_word-words.ensures.0 refl

pub loop-letter-smaller-else-is_none : goal.loop-letter-smaller-else-is_none
loop-letter-smaller-else-is_none c = let k = past_on (at_word _ _ _ (sym (c.in-Ok-Word.is ∙ ap Ok c.in-Ok-Word.field-0-is) ∙ c.item_from.ensures)).past in omega (arith, k)

pub loop-letter-preserved-else-is_none : goal.loop-letter-preserved-else-is_none
loop-letter-preserved-else-is_none c = gather_past c.loop-letter.invariant (at_word _ _ _ (sym (c.in-Ok-Word.is ∙ ap Ok c.in-Ok-Word.field-0-is) ∙ c.item_from.ensures)) c.if-is_none.ensures

pub store_setting-settings-requires : goal.store_setting-settings-requires
store_setting-settings-requires c = room_for_setting c.loop-letter.invariant (at_setting _ _ _ (sym (c.in-Ok-Setting.is ∙ ap Ok c.in-Ok-Setting.field-0-is) ∙ c.item_from.ensures)) c.requires.1

pub overflow_add-work-then-is_none-2 : goal.overflow_add-work-then-is_none-2
overflow_add-work-then-is_none-2 c = let k = room_for_work c.loop-letter.invariant (at_setting _ _ _ (sym (c.in-Ok-Setting.is ∙ ap Ok c.in-Ok-Setting.field-0-is) ∙ c.item_from.ensures)) in omega (arith, k)

pub loop-letter-smaller-then-is_none-2 : goal.loop-letter-smaller-then-is_none-2
loop-letter-smaller-then-is_none-2 c = let k = past_on (at_setting _ _ _ (sym (c.in-Ok-Setting.is ∙ ap Ok c.in-Ok-Setting.field-0-is) ∙ c.item_from.ensures)).past in omega (arith, k)

pub loop-letter-preserved-then-is_none-2 : goal.loop-letter-preserved-then-is_none-2
loop-letter-preserved-then-is_none-2 c = recounted (gather_setting c.loop-letter.invariant (at_setting _ _ _ (sym (c.in-Ok-Setting.is ∙ ap Ok c.in-Ok-Setting.field-0-is) ∙ c.item_from.ensures)) c.store_setting-settings.ensures.1 c.if-is_none-2.ensures) refl c.store_setting-settings.ensures.0

pub loop-letter-smaller-else-is_none-2 : goal.loop-letter-smaller-else-is_none-2
loop-letter-smaller-else-is_none-2 c = let k = past_on (at_setting _ _ _ (sym (c.in-Ok-Setting.is ∙ ap Ok c.in-Ok-Setting.field-0-is) ∙ c.item_from.ensures)).past in omega (arith, k)

pub loop-letter-preserved-else-is_none-2 : goal.loop-letter-preserved-else-is_none-2
loop-letter-preserved-else-is_none-2 c = gather_past c.loop-letter.invariant (at_setting _ _ _ (sym (c.in-Ok-Setting.is ∙ ap Ok c.in-Ok-Setting.field-0-is) ∙ c.item_from.ensures)) c.if-is_none-2.ensures

pub loop-letter-smaller-in-Ok-Comment : goal.loop-letter-smaller-in-Ok-Comment
loop-letter-smaller-in-Ok-Comment c = let k = past_on (at_comment _ _ _ (sym (c.in-Ok-Comment.is ∙ ap Ok c.in-Ok-Comment.field-0-is) ∙ c.item_from.ensures)).past in omega (arith, k)

pub loop-letter-preserved-in-Ok-Comment : goal.loop-letter-preserved-in-Ok-Comment
loop-letter-preserved-in-Ok-Comment c = gather_comment c.loop-letter.invariant (at_comment _ _ _ (sym (c.in-Ok-Comment.is ∙ ap Ok c.in-Ok-Comment.field-0-is) ∙ c.item_from.ensures))

pub loop-letter-smaller-in-Ok-Stop : goal.loop-letter-smaller-in-Ok-Stop
loop-letter-smaller-in-Ok-Stop c = let k = past_on (at_stop _ _ _ (sym (c.in-Ok-Stop.is ∙ ap Ok c.in-Ok-Stop.field-0-is) ∙ c.item_from.ensures)).taken.past in omega (arith, k)

pub loop-letter-preserved-in-Ok-Stop : goal.loop-letter-preserved-in-Ok-Stop
loop-letter-preserved-in-Ok-Stop c =
    let z = (at_stop _ _ _ (sym (c.in-Ok-Stop.is ∙ ap Ok c.in-Ok-Stop.field-0-is) ∙ c.item_from.ensures)) in
    gather_stop c.loop-letter.invariant z.taken (c.or-stopped.ensures ∙ ap (λ (x : Unread). option_or c.loop-letter.stopped (Some x)) z.named)

pub loop-letter-smaller : goal.loop-letter-smaller
loop-letter-smaller c = let k = past_on (at_deep _ _ _ (sym (c.in-Ok-Deep.is ∙ ap Ok c.in-Ok-Deep.field-0-is) ∙ c.item_from.ensures)).past in omega (arith, k)

pub loop-letter-preserved : goal.loop-letter-preserved
loop-letter-preserved c = gather_deep c.loop-letter.invariant (at_deep _ _ _ (sym (c.in-Ok-Deep.is ∙ ap Ok c.in-Ok-Deep.field-0-is) ∙ c.item_from.ensures))

pub returns-in-Ok-End : goal.returns-in-Ok-End
returns-in-Ok-End c = gather_end c.loop-letter.invariant (sym (c.in-Ok-End.is ∙ ap Ok c.in-Ok-End.field-0-is) ∙ c.item_from.ensures) c.ended.ensures

pub returns-in-Err : goal.returns-in-Err
returns-in-Err c = gather_wrong c.loop-letter.invariant (rw c.in-Err.is at c.item_from.ensures)
