-- `run::end_line` meets its contract: a line feed, a last line without a byte, and one with a byte.
-- Assumes nothing.
use mathlib.Core.Path.{◌≡◌, refl, ap, sym, subst, ◌∙◌}
use mathlib.Core.List.{List}
use Prim.Native.Nat.{ℕ}
use native.Mathlib.Omega.{arith}
use borrow.Author.Tests.{eqb-true, eqb-false}
use lib.ListN.{length, take}
use lib.Seq.{length-take-le}
use Rattle.rules.specs.Frames.{without_return}
use Rattle.texts.proofs.Cutting.{return_front}
use Rattle.texts.proofs.Spanning.{return_shorter}
use Rattle.run.specs.declared.State.{State}
use Rattle.run.specs.Stands.{going, held_of, line_worked}
use Rattle.run.specs.Lending.{standing}
use Rattle.run.specs.Promised.{Works}
use Rattle.run.proofs.Branches.{held_works, fed_ends, last_ends, empty_closes, line_closes}
use Rattle.run.proofs.end_line.Goals as goal

pub slice_bounds-work-end : goal.slice_bounds-work-end
slice_bounds-work-end c = sym (length-take-le c.without_return.result c.args.held.now (omega (arith, c.without_return.ensures, return_shorter c.args.held.now)))

pub returns-then-fed-clause-ends : goal.returns-then-fed-clause-ends
returns-then-fed-clause-ends c = λ space e.
    let l = c.args.lent.now in
    let st = standing (going c.args.rec (length c.args.held.now)) space l in
    let none = standing (going c.args.rec 0) space l in
    let line = ap (λ (k : ℕ). take k c.args.held.now) c.without_return.ensures ∙ sym (return_front c.args.held.now) ∙ ap without_return (sym e) in
    fed_ends st c.if-fed.true
    (held_works (without_return (held_of st)) c.args.rec (length c.args.held.now) space l.table.now l.out.now l.text.now l.filled
    (λ tree tells. c.work.ensures.works space tree tells ∙ ap (λ (x : List ℕ). line_worked tree x none) line))

pub returns-then-is_empty-clause-ends : goal.returns-then-is_empty-clause-ends
returns-then-is_empty-clause-ends c = λ space e.
    let st = standing (going c.args.rec (length c.args.held.now)) space c.args.lent.now in
    let none : length c.args.held.now ≡ 0 = eqb-true (length c.args.held.now) 0 (sym c.is_empty.ensures ∙ c.if-is_empty.true) in
    last_ends st c.if-fed.false (empty_closes st refl none)

pub returns-clause-ends : goal.returns-clause-ends
returns-clause-ends c = λ space e tree tells.
    let l = c.args.lent.now in
    let st = standing (going c.args.rec (length c.args.held.now)) space l in
    let after = standing c.work-2.result space c.work-2.new.lent in
    let held = held_works c.args.held.now c.args.rec (length c.args.held.now) space l.table.now l.out.now l.text.now l.filled (c.work-2.ensures.works space) in
    ap (λ (s : State). standing s space c.work-2.new.lent) c.over.ensures
    ∙ last_ends st c.if-fed.false (line_closes st refl (eqb-false (length c.args.held.now) 0 (sym c.is_empty.ensures ∙ c.if-is_empty.false)) (subst (λ (x : List ℕ). Works x st after) (sym e) held)) tree tells
