-- `embed::files::rs274_parameters_read` meets its contract: numbers that a record holds go through it, the file is read into that, and it becomes numbers again.
-- Assumes nothing.
use mathlib.Core.Bool.{true≢false}
use mathlib.Core.Path.{refl, sym, ◌∙◌}
use Rattle.parameters.specs.Refusal.{refusal_number}
use Rattle.embed.specs.Packing.{unpacked}
use Rattle.embed.proofs.Held.{long}
use Rattle.embed.proofs.Repacked.{repacked}
use Rattle.embed.proofs.files.rs274_parameters_read.Goals as goal

pub returns-then-not-holdable : goal.returns-then-not-holdable
returns-then-not-holdable c =
    rw (c.from.ensures, c.number.ensures)
    record {
      held = λ held. absurd (true≢false (sym held ∙ sym c.holdable.ensures ∙ c.if-not-holdable.true));
      not_held = λ _. refl;
    }

pub unpack-requires : goal.unpack-requires
unpack-requires c = sym c.holdable.ensures ∙ c.if-not-holdable.false

pub pack-requires : goal.pack-requires
pack-requires c = long c.args.rec.now (sym c.holdable.ensures ∙ c.if-not-holdable.false)

pub returns-in-Ok : goal.returns-in-Ok
returns-in-Ok c =
    record {
      held = λ _. (record { number = 0; rec = c.in-Ok.left; table = c.read.new.table }, rw c.unpack.ensures at c.in-Ok.ensures, rw c.pack.ensures refl);
      not_held = λ none. absurd (true≢false (sym (sym c.holdable.ensures ∙ c.if-not-holdable.false) ∙ none));
    }

pub returns-in-Err : goal.returns-in-Err
returns-in-Err c =
    rw (c.from-in-Err.ensures, c.number-in-Err.ensures)
    record {
      held = λ held. (record { number = refusal_number c.in-Err.why; rec = unpacked c.args.rec.now; table = c.read.new.table }, rw c.unpack.ensures at c.in-Err.ensures, rw (repacked c.args.rec.now held) refl);
      not_held = λ none. absurd (true≢false (sym (sym c.holdable.ensures ∙ c.if-not-holdable.false) ∙ none));
    }
