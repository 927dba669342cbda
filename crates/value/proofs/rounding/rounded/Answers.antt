-- `value::rounding::rounded` meets its contract: less than half is left and it goes down, else up.
-- Assumes nothing.
use Rattle.value.proofs.Sizes.{none_by_zero, nearest_down, nearest_up, one_more}
use native.Mathlib.Omega.{arith}
use native.Mathlib.Nat.{mod-lt, pos_of_ne-zero}
use Rattle.value.proofs.rounding.rounded.Goals as goal

pub returns-then-d-eq0 : goal.returns-then-d-eq0
returns-then-d-eq0 c = none_by_zero c.args.n c.if-d-eq0.true

pub overflow_sub-d : goal.overflow_sub-d
overflow_sub-d c = omega (arith, mod-lt c.args.n (pos_of_ne-zero c.if-d-eq0.false))

pub overflow_add-result : goal.overflow_add-result
overflow_add-result c = omega (arith, one_more c.args.n c.args.d (pos_of_ne-zero c.if-d-eq0.false) c.if-rest-d.false)

pub returns-then-rest-d : goal.returns-then-rest-d
returns-then-rest-d c = nearest_down c.args.n c.args.d (pos_of_ne-zero c.if-d-eq0.false) c.if-rest-d.true

pub returns-else-rest-d : goal.returns-else-rest-d
returns-else-rest-d c = nearest_up c.args.n c.args.d (pos_of_ne-zero c.if-d-eq0.false) c.if-rest-d.false
