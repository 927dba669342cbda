-- `run::finish` meets its contract: the last line, where the run has not ended.
-- Assumes nothing.
use mathlib.Core.Bool.{false}
use mathlib.Core.Path.{◌≡◌, refl, ap, subst, ◌∙◌}
use Prim.Native.Nat.{ℕ}
use native.Mathlib.Omega.{arith}
use lib.ListN.{length, take}
use lib.Seq.{length-take-le}
use Rattle.run.specs.declared.State.{State}
use Rattle.run.specs.Stands.{stand, going}
use Rattle.run.specs.Lending.{standing}
use Rattle.run.specs.Promised.{EndsLine}
use Rattle.run.proofs.Branches.{overfull_finishes, held_finishes, ended_closes, going_ends}
use Rattle.run.proofs.finish.Goals as goal

pub returns-then-line-state : goal.returns-then-line-state
returns-then-line-state c =
    let st = stand c.args.state c.args.line.now c.args.table.now c.args.out.now c.args.text.now 0 in
    (λ tree tells. ap (λ (x : State). stand x c.args.line.now c.args.table.now c.args.out.now c.args.text.now 0) c.over.ensures ∙ overfull_finishes st (omega arith) tree tells, refl)

pub returns-then-state : goal.returns-then-state
returns-then-state c =
    let st = stand c.args.state c.args.line.now c.args.table.now c.args.out.now c.args.text.now 0 in
    (held_finishes st (omega arith) (ended_closes st c.if-state.true), refl)

pub returns : goal.returns
returns c =
    let line = c.args.line.now in
    let st = stand c.args.state line c.args.table.now c.args.out.now c.args.text.now 0 in
    let long : length (take c.args.state.held line) ≡ c.args.state.held = length-take-le c.args.state.held line (omega arith) in
    let ends = c.end_line-last.ensures.ends line (ap (λ (k : ℕ). take k line) long) in
    let after = standing c.end_line-last.result line c.end_line-last.new.lent in
    let ends' = subst (λ (k : ℕ). EndsLine false (stand (going c.args.state.rec k) line c.args.table.now c.args.out.now c.args.text.now 0) after) long ends in
    let going-on = going_ends c.args.state line c.args.table.now c.args.out.now c.args.text.now 0 c.if-state.false ends' in
    (λ tree tells. grind arith ∙ held_finishes st (omega arith) going-on tree tells, refl)
