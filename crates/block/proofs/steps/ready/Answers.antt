-- `block::steps::ready` meets its contract.
-- Assumes nothing.
use mathlib.Core.Path.{sym}
use native.Mathlib.Omega.{arith}
use Rattle.block.specs.Bounds.{Under}
use Rattle.block.proofs.Bounds.{g10_under}
use Rattle.block.proofs.Ready.{ready_is}
use Rattle.block.proofs.steps.ready.Goals as goal

pub new_offset-m-requires-clause-small : goal.new_offset-m-requires-clause-small
new_offset-m-requires-clause-small c =
    let origins : Under 1000000000000 c.new_origins-m.result =
    rw c.new_origins-m.ensures (g10_under c.args.b _ 1000000000000 c.requires.ranged (omega arith) c.requires.small.origins)
    in
    record { position = c.requires.small.position; origins = origins; offset = c.requires.small.offset }

pub returns : goal.returns
returns c =
    rw (
      c.new_offset-m.ensures,
      c.new_origins-m.ensures,
      c.unwrap_or-4.ensures,
      c.unwrap_or-3.ensures,
      c.unwrap_or-2.ensures,
      c.unwrap_or.ensures,
      c.new_coolant.ensures,
      c.new_spindle.ensures,
      c.new_tool.ensures,
      c.unwrap_or-m.ensures,
      c.new_length-m.ensures,
    )
    (sym (ready_is c.args.b c.args.r))
