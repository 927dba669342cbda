use mathlib.Core.Path.{◌≡◌, refl}
use Rattle.std.specs.Prelude.{Err}
use Rattle.std.proofs.Common.{rules}
use Rattle.reader.proofs.LineRead.{ok_or_was, none_was, front_is, front_within, front_long, short, too_long, form_by_form, long_form}
use Rattle.reader.proofs.line.form.Goals as goal

pub returns-in_err-n : goal.returns-in_err-n
returns-in_err-n c =
    let n = (none_was _ c.in_err-n.was c.ok_or.ensures.value c.prepare.ensures.0) in
    let z : c.from_residual.result ≡ Err c.in_err-n.field-0.0 = search rules in
    rw (z, n.1) (long_form c.args.line.now (too_long c.args.line.now _ refl n.0))

pub slice_bounds-text-end : goal.slice_bounds-text-end
slice_bounds-text-end c = front_within c.args.line.now _ refl (ok_or_was _ c.in_ok-n.was c.ok_or.ensures.value c.prepare.ensures.0) c.prepare.ensures.1

pub slice_bounds-check_text-end : goal.slice_bounds-check_text-end
slice_bounds-check_text-end c = front_long c.args.line.now _ refl (ok_or_was _ c.in_ok-n.was c.ok_or.ensures.value c.prepare.ensures.0) c.prepare.ensures.1

pub returns-in-Ok : goal.returns-in-Ok
returns-in-Ok c = rw c.in-Ok.is at (form_by_form c.args.line.now (short c.args.line.now _ refl (ok_or_was _ c.in_ok-n.was c.ok_or.ensures.value c.prepare.ensures.0) c.prepare.ensures.1) (front_is c.args.line.now _ refl (ok_or_was _ c.in_ok-n.was c.ok_or.ensures.value c.prepare.ensures.0) c.prepare.ensures.1) c.check_text.ensures)

pub returns-in-Err : goal.returns-in-Err
returns-in-Err c = rw c.typed_place.ensures (rw c.in-Err.is at (form_by_form c.args.line.now (short c.args.line.now _ refl (ok_or_was _ c.in_ok-n.was c.ok_or.ensures.value c.prepare.ensures.0) c.prepare.ensures.1) (front_is c.args.line.now _ refl (ok_or_was _ c.in_ok-n.was c.ok_or.ensures.value c.prepare.ensures.0) c.prepare.ensures.1) c.check_text.ensures))
