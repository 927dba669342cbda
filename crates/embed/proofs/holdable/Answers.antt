-- `embed::holdable` meets its contract.
-- Assumes nothing.
use mathlib.Core.Path.{refl, sym, ◌∙◌}
use lib.ListN.{length}
use borrow.Author.Tests.{eq-eqb, ne_eqb}
use Rattle.embed.specs.Packing.{holdable}
use Rattle.embed.proofs.holdable.Goals as goal

pub returns-then-rec-ne43 : goal.returns-then-rec-ne43
unfolding holdable
returns-then-rec-ne43 c = rw (ne_eqb (length c.args.rec.now) 43 c.if-rec-ne43.true) refl

pub returns-then-not-all_up_to : goal.returns-then-not-all_up_to
unfolding holdable
returns-then-not-all_up_to c =
    rw (eq-eqb (length c.args.rec.now) 43 c.if-rec-ne43.false, sym c.all_up_to.ensures ∙ c.if-not-all_up_to.true) refl

pub returns : goal.returns
unfolding holdable
returns c =
    rw (eq-eqb (length c.args.rec.now) 43 c.if-rec-ne43.false, sym c.all_up_to.ensures ∙ c.if-not-all_up_to.false) c.all_up_to-2.ensures
