-- `index::find` meets its contract: what stands where the search ends tells the answer.
-- Assumes nothing.
use mathlib.Core.Path.{ap, ◌∙◌}
use Rattle.std.specs.Prelude.{Some}
use Rattle.index.specs.Index.{Entry}
use Rattle.index.specs.Held.{kept, searched, sought}
use Rattle.index.proofs.Holding.{spot_inside, spot_place, spot_none}
use Rattle.index.proofs.find.Goals as goal

pub entry_at-requires : goal.entry_at-requires
entry_at-requires c = spot_inside (kept c.args.index.now c.min.result) (searched (kept c.args.index.now c.min.result) c.args.n) c.args.n c.in-Ok.ensures

pub returns-in-Ok : goal.returns-in-Ok
unfolding sought
returns-in-Ok c =
    rw (← c.min.ensures)
    (ap (λ (x : Entry). Some x.place) c.entry_at.ensures ∙ spot_place (kept c.args.index.now c.min.result) (searched (kept c.args.index.now c.min.result) c.args.n) c.args.n c.in-Ok.ensures)

pub returns-in-Err : goal.returns-in-Err
unfolding sought
returns-in-Err c = rw (← c.min.ensures) (spot_none (kept c.args.index.now c.min.result) (searched (kept c.args.index.now c.min.result) c.args.n) c.args.n c.in-Err.ensures)
