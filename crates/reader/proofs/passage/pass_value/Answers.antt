use mathlib.Core.Path.{◌∙◌}
use Rattle.reader.proofs.Skimming.{from_value}
use Rattle.reader.proofs.passage.pass_value.Goals as goal

pub returns : goal.returns
returns c = c.pass_from.ensures ∙ from_value c.args.text.now c.args.at
