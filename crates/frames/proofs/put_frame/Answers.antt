-- `frames::put_frame` meets its contract: kind and fields are those of the command.
-- Assumes nothing.
use mathlib.Core.Path.{ap, ◌∙◌}
use native.Mathlib.Omega.{arith}
use lib.IntN.{pos}
use lib.ListN.{get_or}
use lib.Seq.{sets}
use Rattle.frames.proofs.Complement.{read_complement}
use Rattle.frames.proofs.Command.{frame_parts, frame_long}
use Rattle.frames.proofs.put_frame.Goals as goal

pub put_parts-requires : goal.put_parts-requires
put_parts-requires c =
    let read = read_complement (get_or c.args.out.now c.args.base (pos 0)) c.forty_bits-arg-1.given c.forty_bits-kind.ensures in
    let long = frame_long c.args.out.now c.args.base c.forty_bits-kind.result c.fields_used-many.result read c.fields_used-many.ensures.0 (omega arith) in
    omega (arith, long)

pub returns : goal.returns
returns c =
    let read = read_complement (get_or c.args.out.now c.args.base (pos 0)) c.forty_bits-arg-1.given c.forty_bits-kind.ensures in
    let long = frame_long c.args.out.now c.args.base c.forty_bits-kind.result c.fields_used-many.result read c.fields_used-many.ensures.0 (omega arith) in
    let parts = frame_parts c.args.out.now c.args.base c.forty_bits-kind.result c.fields_used-many.result read c.fields_used-many.ensures.0 in
    (omega (arith, long), c.put_parts.ensures ∙ ap (sets c.args.text.now c.args.at) parts)
