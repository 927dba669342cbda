use mathlib.Core.Path.{sym, ◌∙◌}
use Rattle.reader.proofs.Itemising.{value_within}
use Rattle.reader.proofs.items.setting_end.Goals as goal

pub amount_end-requires : goal.amount_end-requires
amount_end-requires c = value_within _ _ c.requires (sym c.in_ok-pass_value.was ∙ c.pass_value.ensures)
