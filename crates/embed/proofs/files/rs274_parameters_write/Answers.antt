-- `embed::files::rs274_parameters_write` meets its contract: numbers that a record holds go through it, and its file is written.
-- Assumes nothing.
use mathlib.Core.Path.{refl, sym, ◌∙◌}
use Rattle.embed.specs.Files.{saved_plain}
use Rattle.embed.proofs.files.rs274_parameters_write.Goals as goal

pub returns-then-not-holdable : goal.returns-then-not-holdable
unfolding saved_plain
returns-then-not-holdable c = rw (sym c.holdable.ensures ∙ c.if-not-holdable.true, c.unwritten.ensures) refl

pub unpack-requires : goal.unpack-requires
unpack-requires c = sym c.holdable.ensures ∙ c.if-not-holdable.false

pub returns-in-Ok : goal.returns-in-Ok
unfolding saved_plain
returns-in-Ok c = rw (sym c.holdable.ensures ∙ c.if-not-holdable.false) (rw c.unpack.ensures at c.in-Ok.ensures)

pub returns-in-Err : goal.returns-in-Err
unfolding saved_plain
returns-in-Err c = rw (sym c.holdable.ensures ∙ c.if-not-holdable.false, c.unwritten-in-Err.ensures) (rw c.unpack.ensures at c.in-Err.ensures)
