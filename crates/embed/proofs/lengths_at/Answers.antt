-- `embed::lengths_at` meets its contract: length after length is read.
-- Assumes nothing.
use native.Mathlib.Omega.{arith}
use lib.ListN.{length-replicate}
use Rattle.std.proofs.Common.{ap, refl, rules, ◌+◌}
use Rattle.laws.proofs.Ints.{back}
use Rattle.rules.specs.Reach.{counts}
use Rattle.embed.specs.Packing.{number_at}
use Rattle.embed.proofs.Runs.{read_next, read_all}
use Rattle.embed.proofs.lengths_at.Goals as goal

pub loop-i-init : goal.loop-i-init
loop-i-init g c = (omega arith, length-replicate g.row.N _, refl)

pub loop-i-preserved : goal.loop-i-preserved
loop-i-preserved g c =
    read_next g.row.N c.args.rec.now c.args.at c.loop-i.amount-items c.loop-i.i c.requires (omega arith) (ap counts (back (number_at c.args.rec.now (c.args.at + c.loop-i.i)) (search rules))) c.loop-i.invariant

pub returns : goal.returns
returns g c = read_all g.row.N c.args.rec.now c.args.at c.loop-i.amount-items c.loop-i.i (omega arith) c.loop-i.invariant
