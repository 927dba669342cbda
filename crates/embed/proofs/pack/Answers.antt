-- `embed::pack` meets its contract.
-- Assumes nothing.
use mathlib.Core.Path.{◌∙◌}
use Rattle.embed.proofs.Runs.{all_runs}
use Rattle.embed.proofs.pack.Goals as goal

pub returns : goal.returns
returns c =
    c.put_quantities.ensures
    ∙ rw (c.put_modes.ensures, c.put_lengths-3.ensures.1, c.put_lengths-2.ensures.1, c.put_lengths.ensures.1)
    (all_runs c.args.r.now c.args.rec.now c.requires c.put_lengths.ensures.0 c.put_lengths-2.ensures.0 c.put_lengths-3.ensures.0)
