-- `value::rounding::near_steps` meets its contract: sizes are rounded, and the sign is put back (`near_is`).
-- Assumes nothing.
use Rattle.std.specs.Prelude.{Some}
use Rattle.laws.proofs.Ints.{back}
use Rattle.value.proofs.Sizes.{near_is, near_none, nearest_fits}
use native.Mathlib.Omega.{arith}
use borrow.Author.Rules.{rules}
use mathlib.Core.Path.{ap, ◌∙◌}
use Rattle.value.proofs.rounding.near_steps.Goals as goal

pub signed-steps-requires : goal.signed-steps-requires
signed-steps-requires c =
    let s = c in
    rw c.rounded.ensures (nearest_fits s.size_of-n.result s.args.step s.requires (omega arith))

pub returns-then-is_near : goal.returns-then-is_near
returns-then-is_near c =
    let steps = c.signed-steps in
    let t = c in
    ap Some (back steps.result.0 (record { sfits = search rules }) ∙ steps.ensures)
    ∙ near_is _ _ (c.size_of-n.ensures ∙ simp (back c.args.a.0 (record { sfits = search rules }))) t.is_near.ensures
    c.is_below_zero.ensures c.rounded.ensures t.if-is_near.true

pub returns : goal.returns
returns c = near_none _ _ (c.size_of-n.ensures ∙ simp (back c.args.a.0 (record { sfits = search rules }))) c.is_near.ensures c.if-is_near.false
