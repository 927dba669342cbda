-- `frames::put_parts` meets its contract: kind, fields and line feed, one after the other.
-- Assumes nothing.
use mathlib.Core.Path.{refl, ap, ◌∙◌}
use Prim.Native.Nat.{ℕ, ◌*◌}
use native.Mathlib.Omega.{arith}
use borrow.Author.Rules.{rules}
use lib.Seq.{length-take-le}
use lib.ListN.{take, drop, length-drop, length-set}
use Rattle.grammar.specs.Bytes.{byte}
use Rattle.rules.specs.Frames.{hex, fields}
use Rattle.frames.proofs.Digits.{length_fields}
use Rattle.frames.proofs.Stores.{closed_run}
use Rattle.frames.proofs.put_parts.Goals as goal

pub shape_of-text : goal.shape_of-text
shape_of-text c = simp length-set (search rules)

pub returns : goal.returns
returns c =
    let rest = drop c.args.first c.args.out.now in
    let there = length-take-le c.args.many rest (omega (arith, length-drop c.args.first c.args.out.now)) in
    let long = length_fields (take c.args.many rest) ∙ ap (λ (k : ℕ). 10 * k) there in
    closed_run (hex 2 c.args.kind) (fields (take c.args.many rest)) c.args.text.now c.args.at (byte "\n") c.put_hex.ensures c.put_fields.ensures refl long
