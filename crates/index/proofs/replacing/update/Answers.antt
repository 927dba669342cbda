-- `index::replacing::update` meets its contract.
-- Assumes nothing.
use mathlib.Core.Path.{ap, ◌∙◌}
use native.Mathlib.Omega.{arith}
use lib.ListN.{length, drop}
use Rattle.texts.specs.Ends.{pieces}
use Rattle.texts.proofs.Rightness.{model, model_tells}
use Rattle.index.specs.Update.{entered}
use Rattle.index.proofs.Bearing.{borne_read}
use Rattle.index.proofs.Moving.{moved_few, brought_is}
use Rattle.index.proofs.replacing.update.Goals as goal

pub enter_new-requires : goal.enter_new-requires
enter_new-requires c =
    omega (arith, ap length c.move_old.ensures, moved_few model c.line_number-was.result c.line_number-is.result c.args.k c.args.old.next (pieces (drop c.args.old.next c.args.text.bytes.now)) c.args.entries.now)

pub returns : goal.returns
returns c =
    c.enter_new.ensures ∙ ap (entered c.line_number-is.result c.args.k c.args.old.start) c.move_old.ensures
    ∙ brought_is c.requires.0 c.args.entries.now c.args.line.now (borne_read model_tells c.line_number-was.ensures) (borne_read model_tells c.line_number-is.ensures)
