-- `value::signs::signed` meets its contract: a size below 2^63 can be negated.
-- Assumes nothing.
use lib.IntN.{pos, neg_ℤ}
use mir.Facts.{to_z_pos}
use mir.Syntax.{w64}
use Rattle.laws.proofs.Ints.{back, neg_fits, zero_minus}
use Rattle.value.proofs.signs.signed.Goals as goal

pub overflow_sub-result : goal.overflow_sub-result
overflow_sub-result c =
    let n = c.args.size in
    simp (to_z_pos w64 {n = n} c.requires, zero_minus (pos n)) (neg_fits (pos n) c.requires)

pub returns-then-negative : goal.returns-then-negative
returns-then-negative c =
    let n = c.args.size in
    let f = neg_fits (pos n) c.requires in
    simp (to_z_pos w64 {n = n} c.requires, zero_minus (pos n), back (neg_ℤ (pos n)) f, c.if-negative.true)

pub returns-else-negative : goal.returns-else-negative
returns-else-negative c = simp (to_z_pos w64 {n = c.args.size} c.requires, c.if-negative.false)
