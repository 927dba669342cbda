-- `parameters::load::refused_line` meets its contract: the place of the first line that is refused.
-- Assumes nothing.
use mathlib.Core.Path.{◌≡◌, ◌∙◌}
use Rattle.std.proofs.Common.{rules}
use Rattle.std.specs.Option.{option_map}
use Rattle.parameters.specs.declared.load.RefusedLine.{RefusedLine}
use Rattle.parameters.proofs.Going.{judged_line, first_refused}
use Rattle.parameters.proofs.load.refused_line.Goals as goal

pub returns : goal.returns
returns c =
    let e : c.map.result ≡ option_map (λ (r : RefusedLine). r.line) c.first_refused.result = search rules in
    first_refused c.args.text.now (e ∙ judged_line c.args.text.now c.first_refused.result c.first_refused.ensures)
