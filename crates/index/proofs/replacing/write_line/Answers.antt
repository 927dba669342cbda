-- `index::replacing::write_line` meets its contract: the first i bytes are written.
-- Assumes nothing.
use mathlib.Core.Path.{ap, ◌∙◌}
use mathlib.Core.List.{List}
use Prim.Native.Nat.{ℕ, ◌+◌}
use native.Mathlib.Omega.{arith}
use lib.ListN.{set, get_or}
use Rattle.std.proofs.lemmas.List.Edits.{paste_more}
use Rattle.index.proofs.replacing.write_line.Goals as goal

pub loop-i-preserved : goal.loop-i-preserved
loop-i-preserved c =
    ap (λ (x : List ℕ). set x (c.args.at + c.loop-i.i) (get_or c.args.line.now c.loop-i.i 0)) c.loop-i.invariant
    ∙ paste_more c.args.text.now c.args.at c.args.line.now c.loop-i.i 0 (omega arith) (omega arith)
