-- `parameters::lines::worth` meets its contract: its fold is what the digits write, held.
-- Assumes nothing.
use mathlib.Core.Path.{◌≡◌, ◌∙◌}
use Rattle.std.proofs.Common.{rules}
use Rattle.std.specs.List.{fold}
use Rattle.parameters.proofs.Amounts.{on, worth_fold}
use Rattle.parameters.proofs.lines.worth.Goals as goal

pub returns : goal.returns
returns c =
    let e : c.fold.result ≡ fold on c.args.number c.args.digits.now = search rules in
    e ∙ worth_fold c.args.number c.args.digits.now c.requires
