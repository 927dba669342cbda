-- `parameters::accepted::Lines::fill_table` meets its contract: entry after entry is the file's.
-- Assumes nothing.
use mathlib.Core.Path.{◌∙◌}
use Prim.Native.Nat.{◌+◌}
use native.Mathlib.Omega.{arith}
use lib.IntN.{pos}
use Rattle.std.proofs.Common.{rules}
use Rattle.laws.proofs.Ints.{back}
use Rattle.parameters.specs.Reading.{table_from}
use Rattle.parameters.specs.Parse.{entries_of}
use Rattle.parameters.proofs.Going.{remains_start, remains_on, remains_join, from_start, fill_next, fill_all, table_long, table_first, table_next, entry_judged}
use Rattle.parameters.proofs.accepted.Lines.fill_table.Goals as goal

pub loop-n-init : goal.loop-n-init
loop-n-init c = (c.requires, remains_start c.args.self.now.rest.now 1, table_first (entries_of c.args.self.now.rest.now) c.args.table.now c.requires)

pub value-requires : goal.value-requires
value-requires c = entry_judged c.loop-n.n (omega arith) (omega arith)

pub loop-n-preserved : goal.loop-n-preserved
loop-n-preserved c =
    let es = entries_of c.args.self.now.rest.now in
    let v = back c.value.result (search rules) ∙ from_start c.loop-n.invariant.1 c.value.ensures in
    (c.requires, remains_join (c.loop-n.n + 1) c.loop-n.invariant.1 c.value.ensures.remains (omega arith), fill_next (pos 0) (table_from es c.args.table.now) _ c.loop-n.invariant.2 (omega (arith, table_long es c.args.table.now, c.requires)) (table_next es c.args.table.now c.loop-n.n (omega arith) (omega (arith, c.requires)) v))

pub returns : goal.returns
returns c = (fill_all (pos 0) (table_from (entries_of c.args.self.now.rest.now) c.args.table.now) c.loop-n.invariant.2 (omega (arith, table_long (entries_of c.args.self.now.rest.now) c.args.table.now)), remains_on 5000 c.loop-n.invariant.1 (omega arith))
