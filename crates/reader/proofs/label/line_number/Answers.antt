use mathlib.Core.Path.{◌≡◌, refl, sym, ◌∙◌}
use Rattle.std.specs.Prelude.{None}
use Rattle.std.proofs.Common.{rules}
use Rattle.reader.proofs.LineRead.{front_is, front_within, front_long, short, too_long, number_by_form, long_number}
use Rattle.reader.proofs.label.line_number.Goals as goal

pub returns-in_err-n : goal.returns-in_err-n
returns-in_err-n c =
    let z : c.from_residual.result ≡ None = search rules in
    rw z (long_number c.args.line.now (too_long c.args.line.now _ refl (sym c.in_err-n.was ∙ c.prepare.ensures.0)))

pub slice_bounds-text-end : goal.slice_bounds-text-end
slice_bounds-text-end c = front_within c.args.line.now _ refl (sym c.in_ok-n.was ∙ c.prepare.ensures.0) c.prepare.ensures.1

pub slice_bounds-text_number-end : goal.slice_bounds-text_number-end
slice_bounds-text_number-end c = front_long c.args.line.now _ refl (sym c.in_ok-n.was ∙ c.prepare.ensures.0) c.prepare.ensures.1

pub returns : goal.returns
returns c = number_by_form c.args.line.now (short c.args.line.now _ refl (sym c.in_ok-n.was ∙ c.prepare.ensures.0) c.prepare.ensures.1) (front_is c.args.line.now _ refl (sym c.in_ok-n.was ∙ c.prepare.ensures.0) c.prepare.ensures.1) c.text_number.ensures
