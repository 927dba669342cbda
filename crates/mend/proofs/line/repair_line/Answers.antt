-- `mend::line::repair_line` meets its contract.
-- Assumes nothing.
use native.Mathlib.Omega.{arith}
use Rattle.mend.proofs.Repairing.{repaired_put}
use Rattle.mend.proofs.line.repair_line.Goals as goal

pub returns : goal.returns
returns c =
    let e = c.unremark-n.ensures in
    repaired_put c.args.line.now c.unremark-n.new.space c.args.space.now c.copy_from_slice.new.self c.unremark-n.result e.0 e.2 (omega arith) c.copy_from_slice.ensures.after c.flatten.new.line c.flatten.ensures c.changed.result c.changed-2.result c.requires.1 c.requires.2 c.changed.ensures c.changed-2.ensures
