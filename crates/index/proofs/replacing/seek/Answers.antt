-- `index::replacing::seek` meets its contract.
-- Assumes nothing.
use mathlib.Core.Path.{refl, ap, ◌∙◌}
use Rattle.std.specs.Prelude.{Some}
use Rattle.index.specs.Index.{Entry}
use Rattle.index.specs.Held.{held, before}
use Rattle.index.proofs.Holding.{seek_at, spot_inside, spot_place, spot_none}
use Rattle.index.proofs.replacing.seek.Goals as goal

pub entry_at-requires : goal.entry_at-requires
entry_at-requires c = spot_inside (held c.args.numbers.now) (before c.args.n (held c.args.numbers.now)) c.args.n c.in-Ok.ensures

pub returns-in-Ok : goal.returns-in-Ok
returns-in-Ok c =
    ap (λ (x : Entry). Some x.place) c.entry_at.ensures
    ∙ spot_place (held c.args.numbers.now) (before c.args.n (held c.args.numbers.now)) c.args.n c.in-Ok.ensures
    ∙ seek_at (held c.args.numbers.now) c.args.n refl

pub returns-in-Err : goal.returns-in-Err
returns-in-Err c = spot_none (held c.args.numbers.now) (before c.args.n (held c.args.numbers.now)) c.args.n c.in-Err.ensures ∙ seek_at (held c.args.numbers.now) c.args.n refl
