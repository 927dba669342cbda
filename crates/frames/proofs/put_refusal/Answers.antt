-- `frames::put_refusal` meets its contract: FF, ten digits and a line feed, one after the other.
-- Assumes nothing.
use mathlib.Core.Path.{◌≡◌, refl, ap, ◌∙◌}
use Prim.Native.Nat.{ℕ, ◌+◌}
use native.Mathlib.Omega.{arith}
use borrow.Author.Rules.{rules}
use lib.ListN.{set, length-set}
use Rattle.grammar.specs.Bytes.{byte, bytes}
use Rattle.rules.specs.Frames.{hex, refusal_frame}
use Rattle.frames.proofs.Stores.{closed_run}
use Rattle.frames.proofs.put_refusal.Goals as goal

pub shape_of-text : goal.shape_of-text
shape_of-text c = simp length-set (search rules)

pub returns : goal.returns
unfolding refusal_frame
returns c =
    let last : c.args.at + 12 ≡ c.args.at + 2 + 10 = omega arith in
    ap (λ (k : ℕ). set c.put_field.new.text k (byte "\n")) last
    ∙ closed_run (bytes "FF") (hex 10 c.args.number) c.args.text.now c.args.at (byte "\n") c.put_hex.ensures c.put_field.ensures refl refl
