use mathlib.Core.Path.{◌∙◌}
use Rattle.reader.proofs.Skimming.{from_rest}
use Rattle.reader.proofs.passage.pass_rest.Goals as goal

pub returns : goal.returns
returns c = c.pass_from.ensures ∙ from_rest c.args.text.now c.args.at
