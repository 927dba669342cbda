use Rattle.std.proofs.Common.{◌≡◌, length, arith, rules, Some}
use Rattle.rs274_mend.specs.declared.Kept.{Kept}
use Rattle.rs274_mend.proofs.Moving.{held_on}
use Rattle.rs274_mend.proofs.pass.Goals as goal

pub returns-in_ok-lines-in-Ok : goal.returns-in_ok-lines-in-Ok
returns-in_ok-lines-in-Ok g c =
    let bytes = c.args.spaces.now.bytes in
    let long : length bytes ≡ 65536 = search rules in
    let read = c.in-Ok.ensures in
    let m = c.mend_ended-held in
    let kept : Kept = record { held = m.result.0; lines = c.in_ok-lines-in-Ok.field-0 } in
    held_on _ _ (Some kept) bytes c.next_piece.new.bytes _ m.new.spaces.bytes c.args.kept.held c.in-Ok.many (omega (arith, long)) read.0.0 read.1.0 m.ensures
