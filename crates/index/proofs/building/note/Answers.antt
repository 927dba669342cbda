-- `index::building::note` meets its contract: the search tells whether the number is there, and where it goes.
-- Assumes nothing.
use mathlib.Core.Path.{◌∙◌}
use Rattle.index.proofs.Halving.{search_is}
use Rattle.index.proofs.Holding.{spot_low, added_there, added_new}
use Rattle.index.proofs.building.note.Goals as goal

pub insert-requires : goal.insert-requires
insert-requires c =
    let e = rw (c.held.ensures.entries, search_is c.args.entries.now c.in-Some.n c.requires.1) at c.in-Err.ensures in
    (spot_low c.args.entries.now c.in-Some.n e, c.requires.0)

pub returns-in-Err : goal.returns-in-Err
returns-in-Err c =
    let e = rw (c.held.ensures.entries, search_is c.args.entries.now c.in-Some.n c.requires.1) at c.in-Err.ensures in
    rw c.in-Some.is (c.insert.ensures ∙ added_new c.args.entries.now c.in-Some.n e c.args.place)

pub returns-in_default-search : goal.returns-in_default-search
returns-in_default-search c =
    let e = rw (c.held.ensures.entries, search_is c.args.entries.now c.in-Some.n c.requires.1) at c.in_default-search.ensures in
    rw c.in-Some.is (added_there c.args.entries.now c.in-Some.n e c.args.place.line c.args.place.start)
