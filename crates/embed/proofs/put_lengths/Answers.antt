-- `embed::put_lengths` meets its contract: length after length is put.
-- Assumes nothing.
use native.Mathlib.Omega.{arith}
use lib.IntN.{ℤ}
use lib.ListN.{get_or, set}
use Rattle.std.proofs.Common.{ap, refl, rules, ◌+◌}
use Rattle.laws.proofs.Ints.{back}
use Rattle.rules.specs.Reach.{nowhere}
use Rattle.embed.proofs.Runs.{put_next, put_all}
use Rattle.embed.proofs.put_lengths.Goals as goal

pub loop-i-init : goal.loop-i-init
loop-i-init g c = (omega arith, c.told-lengths, refl, refl)

pub loop-i-preserved : goal.loop-i-preserved
loop-i-preserved g c = put_next g.row.N c.args.rec.now c.args.at c.args.lengths.now c.loop-i.rec c.loop-i.i (omega arith) (ap (λ (z : ℤ). set c.loop-i.rec (c.args.at + c.loop-i.i) z) (back (get_or c.args.lengths.now c.loop-i.i nowhere).0 (record { sfits = search rules }))) c.loop-i.invariant

pub returns : goal.returns
returns g c = put_all g.row.N c.args.rec.now c.args.at c.args.lengths.now c.loop-i.rec c.loop-i.i (omega arith) c.loop-i.invariant
