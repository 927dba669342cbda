-- `index::replacing::replace` meets its contract: 30, 32, 33 and 31 in that order, and then the index brought up to date.
-- Assumes nothing.
use mathlib.Core.Path.{◌≡◌, sym, ap, ◌∙◌}
use Prim.Native.Nat.{◌≤◌}
use native.Mathlib.Omega.{arith}
use lib.ListN.{length}
use Rattle.std.proofs.lemmas.Result.{err_from_is_err_and}
use Rattle.index.specs.Held.{kept}
use Rattle.index.proofs.Numbers.{kept_long}
use Rattle.index.proofs.Handing.{entries_of, replaced_30, replaced_not, same_length, replaced_31, replaced_0}
use Rattle.index.proofs.replacing.replace.Goals as goal

pub returns-in_err-short : goal.returns-in_err-short
returns-in_err-short c =
    let p = err_from_is_err_and c.from_residual.result c.from_residual.ensures.1 in
    rw (p.1, p.2, c.in_err-short.ensures.0) (replaced_30 c.args.text.now c.args.index.now c.args.count c.args.k c.args.line.now c.in_err-short.ensures.1)

pub returns-in_err-old : goal.returns-in_err-old
returns-in_err-old c =
    let h : length c.in_ok-short.short.bytes.now ≤ 60000 = c.in_ok-short.short.short in
    let p = err_from_is_err_and c.from_residual-in_err-old.result c.from_residual-in_err-old.ensures.1 in
    rw (p.1, p.2) (replaced_not c.args.text.now c.args.index.now c.args.count c.args.k c.args.line.now (rw c.in_ok-short.ensures at h) (rw c.in_ok-short.ensures at c.in_err-old.ensures))

pub update-requires : goal.update-requires
update-requires c =
    (c.in_ok-old.ensures.0, omega (arith, ap length c.take_in.ensures, c.min.ensures, kept_long c.args.index.now c.min.result (omega (arith, c.told-index, c.min.ensures))))

pub returns-in_err-left : goal.returns-in_err-left
returns-in_err-left c =
    let h : length c.in_ok-short.short.bytes.now ≤ 60000 = c.in_ok-short.short.short in
    let p = err_from_is_err_and c.from_residual-in_err-left.result c.from_residual-in_err-left.ensures.1 in
    let b : c.take_in.new.self ≡ kept c.args.index.now c.args.count = c.take_in.ensures ∙ ap (kept c.args.index.now) c.min.ensures ∙ entries_of c.args.index.now c.args.count c.told-index in
    let w = rw c.in_ok-short.ensures at c.in_ok-old.ensures in
    rw (p.1, p.2) (replaced_31 c.args.text.now c.args.index.now c.args.count c.args.k c.args.line.now (rw c.in_ok-short.ensures at h) w.0 w.1 (rw (b, c.in_ok-short.ensures) at c.update.ensures) c.in_err-left.ensures.index (sym c.in_err-left.ensures.answer))

pub write_line-requires : goal.write_line-requires
write_line-requires c =
    let h : length c.in_ok-short.short.bytes.now ≤ 60000 = c.in_ok-short.short.short in
    let w = rw c.in_ok-short.ensures at c.in_ok-old.ensures in
    omega (arith, w.0.from, w.0.behind, w.0.within, same_length c.args.text.now c.args.index.now c.args.count c.args.k c.args.line.now (rw c.in_ok-short.ensures at h) w.0 w.1)

pub returns : goal.returns
returns c =
    let h : length c.in_ok-short.short.bytes.now ≤ 60000 = c.in_ok-short.short.short in
    let b : c.take_in.new.self ≡ kept c.args.index.now c.args.count = c.take_in.ensures ∙ ap (kept c.args.index.now) c.min.ensures ∙ entries_of c.args.index.now c.args.count c.told-index in
    let w = rw c.in_ok-short.ensures at c.in_ok-old.ensures in
    replaced_0 c.args.text.now c.args.index.now c.args.count c.args.k c.args.line.now (rw c.in_ok-short.ensures at h) w.0 w.1 (rw (b, c.in_ok-short.ensures) at c.update.ensures) c.in_ok-left.ensures.index (sym c.in_ok-left.ensures.answer) c.write_line.ensures
