-- `run::take_line` meets its contract: bytes are held as far as the line's end, and the line is worked.
-- Assumes nothing.
use mathlib.Core.Path.{◌≡◌, refl, ap, subst, ◌∙◌}
use Prim.Native.Nat.{ℕ, ◌+◌}
use native.Mathlib.Omega.{arith}
use lib.Dec.{eqb, ltb}
use lib.ListN.{length, get_or, take}
use lib.Seq.{length-take-le}
use Rattle.run.specs.Stands.{stand, going, held_to}
use Rattle.run.specs.Lending.{standing}
use Rattle.run.specs.Promised.{EndsLine}
use Rattle.run.proofs.Branches.{either_false, ends_steps, going_steps, piece_goes}
use Rattle.run.proofs.take_line.Goals as goal

pub returns-clause-goes : goal.returns-clause-goes
returns-clause-goes c =
    let l = c.args.lent.now in
    let line = c.hold-many.new.line in
    let at = c.args.from + c.hold-many.result in
    let held = c.args.state.held + c.hold-many.result in
    let b = get_or c.args.piece.now at 0 in
    let Going-on = either_false c.args.state.ended (ltb (length l.text.now) (l.filled + 657)) c.requires.2 in
    let st = stand (held_to c.args.state held) line l.table.now l.out.now l.text.now l.filled in
    let st' = stand (going c.args.state.rec held) line l.table.now l.out.now l.text.now l.filled in
    let long : length (take held line) ≡ held = length-take-le held line c.hold-many.ensures.1 in
    let after = standing c.end_line.result line c.end_line.new.lent in
    let ends = c.end_line.ensures.ends line (ap (λ (k : ℕ). take k line) long) in
    let ends' = subst (λ (k : ℕ). EndsLine (eqb b 10) (standing (going c.args.state.rec k) line l) after) long ends in
    let step = going_steps c.args.state line l.table.now l.out.now l.text.now l.filled Going-on held b (ends_steps st' b refl (λ other. c.hold-many.ensures.2 (omega (arith, c.hold-many.ensures.0, c.if-at-piece.false)) other) ends') in (
      omega arith,
      omega (arith, c.hold-many.ensures.0),
      omega (arith, c.end_line.ensures.none_held),
      λ tree tells.
          c.hold-many.ensures.3 c.args.state l.table.now l.out.now l.text.now l.filled refl c.requires.2 tree tells
          ∙ piece_goes tree st c.args.piece.now at (omega (arith, c.hold-many.ensures.0)) c.requires.2 (step tree tells),
    )
