-- `parameters::accepted::Lines::fill_lengths` meets its contract: length after length is the file's.
-- Assumes nothing.
use mathlib.Core.Path.{refl, ◌∙◌}
use Prim.Native.Nat.{◌+◌}
use native.Mathlib.Omega.{arith}
use Rattle.std.proofs.Common.{rules}
use Rattle.laws.proofs.Ints.{back}
use Rattle.rules.specs.Reach.{nowhere}
use Rattle.parameters.specs.Places.{number_from}
use Rattle.parameters.specs.Reading.{renewed, length_from}
use Rattle.parameters.specs.Parse.{entries_of}
use Rattle.parameters.proofs.Going.{remains_start, remains_on, remains_join, from_start, fill_next, fill_all, number_rises, lengths_long, lengths_first, lengths_next}
use Rattle.parameters.proofs.accepted.Lines.fill_lengths.Goals as goal

pub loop-i-init : goal.loop-i-init
loop-i-init c = (λ m h. remains_start c.args.self.now.rest.now m, lengths_first (entries_of c.args.self.now.rest.now) (number_from c.args.first) c.args.lengths.now)

pub loop-i-preserved : goal.loop-i-preserved
loop-i-preserved c =
    let es = entries_of c.args.self.now.rest.now in
    let n = number_from c.args.first c.loop-i.i in
    let here = c.loop-i.invariant.0 n (λ k b. number_rises c.args.first k c.loop-i.i b) in
    let v = back c.value.result (search rules) ∙ from_start here c.value.ensures in
    let long = lengths_long es (number_from c.args.first) c.args.lengths.now in (
      λ m h. remains_on m (remains_join (n + 1) here c.value.ensures.remains (omega arith)) (let b = h c.loop-i.i (omega arith) in omega arith),
      fill_next nowhere (renewed (length_from es (number_from c.args.first)) 0 c.args.lengths.now) _ c.loop-i.invariant.1 (omega arith) (lengths_next es (number_from c.args.first) c.args.lengths.now c.loop-i.i (omega arith) refl v),
    )

pub returns-clause-set : goal.returns-clause-set
returns-clause-set c =
    let es = entries_of c.args.self.now.rest.now in
    let long = lengths_long es (number_from c.args.first) c.args.lengths.now in
    fill_all nowhere (renewed (length_from es (number_from c.args.first)) 0 c.args.lengths.now) c.loop-i.invariant.1 (omega arith)
