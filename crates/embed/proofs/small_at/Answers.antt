-- `embed::small_at` meets its contract.
-- Assumes nothing.
use native.Mathlib.Omega.{arith}
use lib.IntN.{pos}
use lib.ListN.{get_or}
use mir.Syntax.{w8}
use Rattle.laws.proofs.Ints.{back}
use Rattle.embed.proofs.Held.{cast_held}
use Rattle.embed.proofs.small_at.Goals as goal

pub overflow_cast-result : goal.overflow_cast-result
overflow_cast-result c =
    let z = get_or c.args.rec.now c.args.at (pos 0) in
    simp (back z (record { sfits = c.result-1.given })) (cast_held w8 255 z (omega arith) c.requires.1)

pub returns : goal.returns
returns c =
    simp (back (get_or c.args.rec.now c.args.at (pos 0)) (record { sfits = c.result-1.given }))
