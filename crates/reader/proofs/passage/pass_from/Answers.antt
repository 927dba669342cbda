use mathlib.Core.Path.{ap, ◌∙◌}
use Rattle.reader.specs.Places.{spelt_to}
use Rattle.reader.proofs.Skimming.{all_passed}
use Rattle.reader.proofs.passage.pass_from.Goals as goal

pub returns-then-now-eq0 : goal.returns-then-now-eq0
returns-then-now-eq0 c = all_passed c.args.text.now c.loop-now.now c.if-now.false c.if-now-eq0.true ∙ ap spelt_to c.loop-now.invariant.0
