-- `mend::line::is_right` meets its contract: the form check lets the right lines pass alone.
-- Assumes nothing.
use mathlib.Core.Path.{◌∙◌}
use Rattle.mend.proofs.Judging.{right_told}
use Rattle.mend.proofs.line.is_right.Goals as goal

pub returns : goal.returns
returns c tree told = c.is_ok.ensures.value ∙ right_told told c.args.line.now c.form.result c.form.ensures
