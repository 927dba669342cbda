-- `parameters::save::Session::file_size` meets its contract: the lines passed and those from the number on are the file.
-- Assumes nothing.
use Rattle.laws.proofs.Ints.{back}
use mir.Val.{to_z, of_z}
use mir.Syntax.{w64}
use mathlib.Core.Path.{◌≡◌, sym, ap, ◌∙◌}
use Prim.Native.Nat.{◌+◌}
use native.Mathlib.Omega.{arith}
use borrow.Author.Rules.{rules}
use lib.ListN.{length, length-append}
use Rattle.parameters.specs.Writing.{held, line_for}
use Rattle.parameters.proofs.Examples.{}
use Rattle.parameters.proofs.Saving.{held_small, rest_from, rest_first, rest_last, rest_said, rest_unsaid}
use Rattle.parameters.proofs.save.Session.file_size.Goals as goal
use Rattle.parameters.proofs.save.Session.file_size.Goals.{then-is_said, else-is_said}

pub loop-number-init : goal.loop-number-init
loop-number-init c = (omega arith, omega arith, omega arith, omega (arith, ap length (rest_first c.args.self.now.rec.now c.args.self.now.table.now)))

pub line_size-size-requires : goal.line_size-size-requires
line_size-size-requires c =
    let q = back c.held-amount.result (search rules) ∙ c.held-amount.ensures in
    (omega arith, rw q (held_small c.args.self.now.rec.now c.args.self.now.table.now c.requires.0 c.requires.1 c.loop-number.number))

pub returns : goal.returns
returns c = omega (arith, c.loop-number.invariant.3, ap length (rest_last c.args.self.now.rec.now c.args.self.now.table.now c.loop-number.number (omega arith)))

pub loop-number-preserved : goal.loop-number-preserved
loop-number-preserved c =
    let z = to_z w64 (of_z w64 c.held-amount.result) in
    let q : z ≡ held c.args.self.now.rec.now c.args.self.now.table.now c.loop-number.number = back c.held-amount.result (search rules) ∙ c.held-amount.ensures in
    elim c.if-is_said.branch [
      | then-is_said w ↦ (omega arith, omega arith, omega (arith, w.line_size-size.ensures.1), omega (arith, w.line_size-size.ensures.0, ap length (rest_said c.args.self.now.rec.now c.args.self.now.table.now c.loop-number.number (omega arith) q (sym c.is_said.ensures ∙ w.if-is_said.true)), length-append (line_for c.loop-number.number z) (rest_from c.args.self.now.rec.now c.args.self.now.table.now (c.loop-number.number + 1))))
      | else-is_said w ↦ (omega arith, omega arith, omega arith, omega (arith, ap length (rest_unsaid c.args.self.now.rec.now c.args.self.now.table.now c.loop-number.number (omega arith) q (sym c.is_said.ensures ∙ w.if-is_said.false))))
    ]
