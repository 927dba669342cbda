-- `embed::up_to` meets its contract.
-- Assumes nothing.
use mathlib.Core.Path.{◌≡◌, sym}
use native.Mathlib.Omega.{arith}
use mir.Facts.{to_z_pos}
use mir.Syntax.{w64}
use mir.Val.{to_z, of_z}
use borrow.Author.Rules.{rules}
use Rattle.laws.proofs.Ints.{back}
use Rattle.embed.proofs.Held.{below_zero, from_zero}
use Rattle.embed.proofs.up_to.Goals as goal

pub returns-then-number-lt0 : goal.returns-then-number-lt0
returns-then-number-lt0 c =
    let e : to_z w64 (of_z w64 c.args.number) ≡ c.args.number = back c.args.number (search rules) in
    sym (below_zero c.args.high c.args.number (rw e at c.if-number-lt0.true))

pub returns : goal.returns
returns c =
    let e : to_z w64 (of_z w64 c.args.number) ≡ c.args.number = back c.args.number (search rules) in
    rw (e, to_z_pos w64 {n = c.args.high} (omega arith)) (from_zero c.args.high c.args.number (rw e at c.if-number-lt0.false))
