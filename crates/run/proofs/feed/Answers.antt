-- `run::feed` meets its contract: each turn takes bytes of the piece as far as the end of a line.
-- Assumes nothing.
use mathlib.Core.Path.{sym, ap, ◌∙◌}
use native.Mathlib.Omega.{arith}
use Rattle.run.specs.declared.State.{State}
use Rattle.run.specs.Stands.{stand, taken}
use Rattle.run.specs.Lending.{standing}
use Rattle.run.proofs.Branches.{overfull_feeds, piece_feeds, piece_stops, piece_taken}
use Rattle.run.proofs.feed.Goals as goal
use Rattle.run.proofs.feed.Goals.{else-loop-taken-test, then-loop-taken-test+then-is_stopped}

pub returns-then-line-state : goal.returns-then-line-state
returns-then-line-state c =
    let st = stand c.args.state c.args.line.now c.args.table.now c.args.out.now c.args.text.now 0 in
    λ tree tells. ap (λ (x : State). taken (stand x c.args.line.now c.args.table.now c.args.out.now c.args.text.now 0) 0) c.over.ensures ∙ overfull_feeds st c.args.piece.now (omega arith) tree tells

pub returns : goal.returns
returns c =
    let st = stand c.args.state c.args.line.now c.args.table.now c.args.out.now c.args.text.now 0 in
    let sl = standing c.loop-taken.now c.loop-taken.line c.loop-taken.lent in
    λ tree tells.
    grind arith
    ∙ piece_feeds st {after = taken sl c.loop-taken.taken} c.args.piece.now (omega arith)
    (λ tree tells. elim c.loop-taken-test.branch [
      | else-loop-taken-test w ↦ piece_taken tree sl c.args.piece.now c.loop-taken.taken (omega arith) ∙ sym (c.loop-taken.invariant.goes tree tells)
      | then-loop-taken-test+then-is_stopped w ↦ piece_stops tree sl c.args.piece.now c.loop-taken.taken (omega arith) (sym w.is_stopped.ensures ∙ w.if-is_stopped.true) ∙ sym (c.loop-taken.invariant.goes tree tells)
    ]) tree tells
