-- `embed::rs274_line` meets its contract: numbers that a record holds go through it, the line is worked on that, and it becomes numbers again.
-- Assumes nothing.
use mathlib.Core.Path.{refl, sym, ◌∙◌}
use mathlib.Core.Bool.{true≢false}
use Rattle.rules.specs.Promise.{after}
use Rattle.embed.proofs.Held.{long}
use Rattle.embed.proofs.rs274_line.Goals as goal

pub returns-then-not-holdable : goal.returns-then-not-holdable
returns-then-not-holdable c =
    record {
      held = λ held. absurd (true≢false (sym held ∙ sym c.holdable.ensures ∙ c.if-not-holdable.true));
      not_held = λ _. refl;
    }

pub unpack-requires : goal.unpack-requires
unpack-requires c = sym c.holdable.ensures ∙ c.if-not-holdable.false

pub pack-requires : goal.pack-requires
pack-requires c =
    long c.args.rec.now (sym c.holdable.ensures ∙ c.if-not-holdable.false)

pub returns : goal.returns
returns c =
    let held = sym c.holdable.ensures ∙ c.if-not-holdable.false in
    record {
      held = λ _. (
        after c.work-report.result c.work-report.new.table c.work-report.new.out,
        rw c.unpack.ensures at c.work-report.ensures,
        rw (c.answered.ensures, c.pack.ensures) refl,
      );
      not_held = λ none. absurd (true≢false (sym held ∙ none));
    }
