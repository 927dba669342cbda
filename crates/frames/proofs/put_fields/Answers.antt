-- `frames::put_fields` meets its contract: after j turns the first j fields stand.
-- Assumes nothing.
use mathlib.Core.Path.{ap, sym, ◌∙◌}
use Prim.Native.Nat.{◌+◌}
use native.Mathlib.Omega.{arith}
use lib.Seq.{get_or-drop}
use lib.ListN.{drop, get_or, length-drop}
use lib.IntN.{pos}
use Rattle.rules.specs.Frames.{complement}
use Rattle.frames.proofs.Complement.{read_complement}
use Rattle.frames.proofs.Digits.{field_put}
use Rattle.frames.proofs.put_fields.Goals as goal

pub loop-j-preserved : goal.loop-j-preserved
loop-j-preserved c =
    let read = read_complement (get_or c.args.out.now (c.args.first + c.loop-j.j) (pos 0)) c.forty_bits-arg-1.given c.forty_bits.ensures in
    let field = read ∙ ap complement (sym (get_or-drop c.args.first c.args.out.now c.loop-j.j (pos 0))) in
    (omega arith, omega arith, field_put c.args.text.now (drop c.args.first c.args.out.now) c.args.at c.loop-j.j (omega (arith, length-drop c.args.first c.args.out.now)) c.loop-j.invariant.2 field c.put_field.ensures)
