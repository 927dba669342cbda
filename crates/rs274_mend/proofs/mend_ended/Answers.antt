use Rattle.std.proofs.Common.{List, ℕ, ◌-◌, ap, ◌∙◌, arith}
use Rattle.std.specs.List.{copy_within}
use Rattle.rs274_mend.proofs.Moving.{moved, within, held_is}
use Rattle.rs274_mend.proofs.mend_ended.Goals as goal

pub mend_lines-lines-requires : goal.mend_lines-lines-requires
mend_lines-lines-requires g c =
    let e = c.ended_lines-ended in
    omega (arith, within c.args.spaces.now.bytes c.args.end e.result c.requires e.ensures)

pub copy_within-requires-clause-start_le_end : goal.copy_within-requires-clause-start_le_end
copy_within-requires-clause-start_le_end g c =
    let e = c.ended_lines-ended in
    within c.args.spaces.now.bytes c.args.end e.result c.requires e.ensures

pub overflow_sub-result : goal.overflow_sub-result
overflow_sub-result g c =
    let e = c.ended_lines-ended in
    within c.args.spaces.now.bytes c.args.end e.result c.requires e.ensures

pub returns : goal.returns
returns g c =
    let e = c.ended_lines-ended in
    let bytes = c.args.spaces.now.bytes in
    let up_to = within bytes c.args.end e.result c.requires e.ensures in
    let after = c.copy_within.ensures.after ∙ ap (λ (s : List ℕ). copy_within s e.result c.args.end 0) c.mend_lines-lines.ensures in
    held_is bytes c.copy_within.new.self c.args.end e.result (c.args.end - e.result) c.requires e.ensures (moved bytes c.copy_within.new.self e.result c.args.end up_to c.requires after)
