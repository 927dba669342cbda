use mathlib.Core.Bool.{false}
use Rattle.run.proofs.fresh.Goals as goal

pub returns : goal.returns
returns c = λ i. record { rec = c.fresh.ensures i; held = 0; ended = false }
