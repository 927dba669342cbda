-- `frames::frame_size` meets its contract.
-- Assumes nothing.
use mathlib.Core.Path.{sym}
use native.Mathlib.Omega.{arith}
use lib.IntN.{pos}
use lib.ListN.{get_or}
use Rattle.frames.proofs.Complement.{read_complement}
use Rattle.frames.proofs.Command.{frame_long}
use Rattle.frames.proofs.frame_size.Goals as goal

pub returns : goal.returns
returns c =
    let read = read_complement (get_or c.args.out.now c.args.base (pos 0)) c.forty_bits-arg-1.given c.forty_bits.ensures in
    (sym (frame_long c.args.out.now c.args.base c.forty_bits.result c.fields_used.result read c.fields_used.ensures.0 (omega arith)), omega arith, omega arith)
