use mathlib.Core.Path.{ap}
use Rattle.reader.proofs.Evaluating.{ok_was, not_was}
use Rattle.reader.specs.Number.{number_at}
use Rattle.reader.proofs.Beginning.{form_within, form_wrong}
use Rattle.reader.proofs.Labelling.{number_line}
use Rattle.reader.proofs.label.text_number.Goals as goal

pub returns-in_err-at : goal.returns-in_err-at
returns-in_err-at c =
    let e = not_was c.in_err-at.was c.ok.ensures.value c.mark_end.ensures in
    rw c.from_residual.ensures (ap number_at (form_wrong c.args.text.now e.1))

pub labelled-requires : goal.labelled-requires
labelled-requires c = form_within c.args.text.now (ok_was c.in_ok-at.was c.ok.ensures.value c.mark_end.ensures)

pub returns : goal.returns
returns c = number_line c.args.text.now (ok_was c.in_ok-at.was c.ok.ensures.value c.mark_end.ensures) c.labelled.ensures
