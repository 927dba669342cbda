use mathlib.Core.Path.{◌≡◌, refl}
use Rattle.std.specs.Prelude.{Err}
use Rattle.std.proofs.Common.{rules}
use Rattle.reader.proofs.LineRead.{ok_or_was, none_was, front_is, front_within, front_long, front_short, short, too_long, reads_by_form, long_by_form}
use Rattle.reader.proofs.line.read.Goals as goal

pub returns-in_err-n : goal.returns-in_err-n
returns-in_err-n c =
    let n = (none_was _ c.in_err-n.was c.ok_or.ensures.value c.prepare.ensures.0) in
    let z : c.from_residual.result ≡ Err c.in_err-n.field-0.0 = search rules in
    rw (z, n.1) (long_by_form c.args.table.now c.args.line.now c.args.spaces.now (too_long c.args.line.now _ refl n.0))

pub slice_bounds-text-end : goal.slice_bounds-text-end
slice_bounds-text-end c = front_within c.args.line.now _ refl (ok_or_was _ c.in_ok-n.was c.ok_or.ensures.value c.prepare.ensures.0) c.prepare.ensures.1

pub slice_bounds-read_text-end : goal.slice_bounds-read_text-end
slice_bounds-read_text-end c = front_long c.args.line.now _ refl (ok_or_was _ c.in_ok-n.was c.ok_or.ensures.value c.prepare.ensures.0) c.prepare.ensures.1

pub read_text-requires : goal.read_text-requires
read_text-requires c = front_short c.args.line.now _ refl (ok_or_was _ c.in_ok-n.was c.ok_or.ensures.value c.prepare.ensures.0) c.prepare.ensures.1

pub returns-in-Ok : goal.returns-in-Ok
returns-in-Ok c = reads_by_form c.args.table.now c.args.line.now c.args.spaces.now (short c.args.line.now _ refl (ok_or_was _ c.in_ok-n.was c.ok_or.ensures.value c.prepare.ensures.0) c.prepare.ensures.1) (front_is c.args.line.now _ refl (ok_or_was _ c.in_ok-n.was c.ok_or.ensures.value c.prepare.ensures.0) c.prepare.ensures.1) (rw c.in-Ok.is at c.read_text.ensures) refl

pub returns-in-Err : goal.returns-in-Err
returns-in-Err c = reads_by_form c.args.table.now c.args.line.now c.args.spaces.now (short c.args.line.now _ refl (ok_or_was _ c.in_ok-n.was c.ok_or.ensures.value c.prepare.ensures.0) c.prepare.ensures.1) (front_is c.args.line.now _ refl (ok_or_was _ c.in_ok-n.was c.ok_or.ensures.value c.prepare.ensures.0) c.prepare.ensures.1) (rw c.in-Err.is at c.read_text.ensures) c.unread.ensures
