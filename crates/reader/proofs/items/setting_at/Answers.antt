use mathlib.Core.Path.{sym, ◌∙◌}
use native.Mathlib.Omega.{arith}
use Rattle.reader.proofs.Evaluating.{because}
use Rattle.reader.proofs.Itemising.{equals_within}
use Rattle.reader.proofs.Levels.{fits_end, over_end}
use Rattle.reader.proofs.items.setting_at.Goals as goal

pub keyword-requires : goal.keyword-requires
keyword-requires c = (fits_end c.args.table.now c.args.text.now c.args.at 24 c.requires (sym c.in-Ok.is ∙ c.value_at.ensures)).1

pub overflow_add-number : goal.overflow_add-number
overflow_add-number c =
    let k = fits_end c.args.table.now c.args.text.now c.args.at 24 c.requires (sym c.in-Ok.is ∙ c.value_at.ensures) in
    let e = equals_within c.args.text.now c.in-Ok.number.next (sym c.in_ok-q-in-Ok.was ∙ c.keyword.ensures) in
    let m = fits_end c.args.table.now c.args.text.now c.in_ok-q-in-Ok.q 24 e (sym c.in-Ok-value_at.is ∙ c.value_at-in-Ok.ensures) in
    omega (arith, k, m, c.well_formed.0.1)

pub amount_end-requires : goal.amount_end-requires
amount_end-requires c = (over_end c.args.table.now c.args.text.now c.args.at 24 c.requires (because c.in-Err-Deep.is c.in-Err-Deep.field-0-is c.value_at.ensures)).1
