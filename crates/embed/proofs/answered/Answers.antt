-- `embed::answered` meets its contract.
-- Assumes nothing.
use mathlib.Core.Path.{ap, sym}
use Rattle.rules.specs.declared.Answer.{Answer}
use Rattle.embed.specs.Packing.{answered}
use Rattle.embed.proofs.answered.Goals as goal

pub returns-in-Accepted : goal.returns-in-Accepted
returns-in-Accepted c = ap (λ (a : Answer). answered a c.args.place c.args.work) (sym c.in-Accepted.is)

pub returns-in-Refused : goal.returns-in-Refused
returns-in-Refused c = rw (c.from.ensures, c.number.ensures) (ap (λ (a : Answer). answered a c.args.place c.args.work) (sym c.in-Refused.is))

pub returns-in-Skipped : goal.returns-in-Skipped
returns-in-Skipped c = ap (λ (a : Answer). answered a c.args.place c.args.work) (sym c.in-Skipped.is)
