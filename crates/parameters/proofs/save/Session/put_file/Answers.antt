-- `parameters::save::Session::put_file` meets its contract: what is put and the lines from the number on are the file.
-- Assumes nothing.
use Rattle.laws.proofs.Ints.{back}
use mir.Val.{to_z, of_z}
use mir.Syntax.{w64}
use mathlib.Core.Path.{◌≡◌, refl, sym, ap, ◌∙◌}
use Prim.Native.Nat.{◌+◌}
use native.Mathlib.Omega.{arith}
use borrow.Author.Rules.{rules}
use lib.ListN.{length, length-append}
use lib.Seq.{sets, length-sets}
use Rattle.parameters.specs.Writing.{held, line_for}
use Rattle.parameters.proofs.Examples.{}
use Rattle.parameters.proofs.Saving.{rest_from, rest_first, rest_last, rest_said, rest_unsaid, put_on, none_on}
use Rattle.parameters.proofs.save.Session.put_file.Goals as goal
use Rattle.parameters.proofs.save.Session.put_file.Goals.{then-is_said, else-is_said}

pub loop-number-init : goal.loop-number-init
loop-number-init c =
    let first = rest_first c.args.self.now.rec.now c.args.self.now.table.now in
    (omega arith, omega arith, refl, omega (arith, c.requires, ap length first), ap (sets c.args.out.now 0) first)

pub put_line-at-requires : goal.put_line-at-requires
put_line-at-requires c =
    let z = to_z w64 (of_z w64 c.held-amount.result) in
    let q : z ≡ held c.args.self.now.rec.now c.args.self.now.table.now c.loop-number.number = back c.held-amount.result (search rules) ∙ c.held-amount.ensures in
    omega (arith, c.loop-number.invariant.2, c.loop-number.invariant.3, ap length (rest_said c.args.self.now.rec.now c.args.self.now.table.now c.loop-number.number (omega arith) q (sym c.is_said.ensures ∙ c.if-is_said.true)), length-append (line_for c.loop-number.number z) (rest_from c.args.self.now.rec.now c.args.self.now.table.now (c.loop-number.number + 1)))

pub returns : goal.returns
returns c = ap (sets c.loop-number.out c.loop-number.at) (sym (rest_last c.args.self.now.rec.now c.args.self.now.table.now c.loop-number.number (omega arith))) ∙ c.loop-number.invariant.4

pub loop-number-preserved : goal.loop-number-preserved
loop-number-preserved c =
    let z = to_z w64 (of_z w64 c.held-amount.result) in
    let q : z ≡ held c.args.self.now.rec.now c.args.self.now.table.now c.loop-number.number = back c.held-amount.result (search rules) ∙ c.held-amount.ensures in
    elim c.if-is_said.branch [
      | then-is_said w ↦
          let e = rest_said c.args.self.now.rec.now c.args.self.now.table.now c.loop-number.number (omega arith) q (sym c.is_said.ensures ∙ w.if-is_said.true) in
          (omega arith, omega arith, ap length (w.out-is ∙ w.put_line-at.ensures.1) ∙ length-sets c.loop-number.out c.loop-number.at (line_for c.loop-number.number z) ∙ c.loop-number.invariant.2, omega (arith, w.at-is, w.put_line-at.ensures.0, c.loop-number.invariant.3, ap length e, length-append (line_for c.loop-number.number z) (rest_from c.args.self.now.rec.now c.args.self.now.table.now (c.loop-number.number + 1))), put_on c.loop-number.out c.loop-number.at (line_for c.loop-number.number z) (rest_from c.args.self.now.rec.now c.args.self.now.table.now (c.loop-number.number + 1)) (w.out-is ∙ w.put_line-at.ensures.1) (w.at-is ∙ w.put_line-at.ensures.0) e ∙ c.loop-number.invariant.4)
      | else-is_said w ↦
          let e = rest_unsaid c.args.self.now.rec.now c.args.self.now.table.now c.loop-number.number (omega arith) q (sym c.is_said.ensures ∙ w.if-is_said.false) in
          (omega arith, omega arith, ap length w.out-is ∙ c.loop-number.invariant.2, omega (arith, w.at-is, c.loop-number.invariant.3, ap length e), none_on c.loop-number.out c.loop-number.at (rest_from c.args.self.now.rec.now c.args.self.now.table.now (c.loop-number.number + 1)) w.out-is w.at-is e ∙ c.loop-number.invariant.4)
    ]
