use mathlib.Core.Path.{sym, ◌∙◌}
use Rattle.reader.proofs.Itemising.{end_word, end_setting, end_comment, end_none}
use Rattle.reader.proofs.items.item_end.Goals as goal

pub returns-then-is_letter : goal.returns-then-is_letter
returns-then-is_letter c = end_word _ _ c.requires (sym c.is_letter.ensures ∙ c.if-is_letter.true) c.pass_value.ensures

pub returns-in-35 : goal.returns-in-35
returns-in-35 c = end_setting _ _ c.requires (sym c.is_letter.ensures ∙ c.if-is_letter.false) c.in-35.is c.setting_end.ensures

pub returns-in-40 : goal.returns-in-40
returns-in-40 c = end_comment _ _ c.requires (sym c.is_letter.ensures ∙ c.if-is_letter.false) c.in-40.is c.comment_end.ensures

pub returns-in_default : goal.returns-in_default
returns-in_default c = end_none _ _ c.requires (sym c.is_letter.ensures ∙ c.if-is_letter.false) c.in_default.in_default-own.rest.0.1 c.in_default.in_default-own.rest.1
