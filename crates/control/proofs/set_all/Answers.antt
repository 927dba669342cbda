use Rattle.control.proofs.Settings.{onward_applied}
use borrow.Author.Rules.{rules}
use mir.ValLaws.{to_z-of_z}
use mir.Syntax.{w64}
use lib.IntN.{pos}
use lib.ListN.{get_or}
use lib.ListN.{length-set}
use Rattle.rules.specs.Meaning.{Setting}
use mathlib.Core.List.{List}
use Rattle.control.proofs.Settings.{onward_all}
use native.Mathlib.Omega.{arith}
use mathlib.Core.Path.{refl, sym, ap, ◌∙◌}
use Rattle.control.proofs.Settings.{onward_done, onward_no_number, onward_no_amount}
use Rattle.rules.specs.Promise.{apply}
use lib.ListN.{length}
use Rattle.control.proofs.set_all.Goals as goal

pub loop-i-init : goal.loop-i-init
loop-i-init c = (refl, ap (λ (ss : List Setting). apply ss c.args.table.now) (sym (onward_all c.args.numbers.now c.args.amounts.now c.args.count)))

pub returns-then-numbers-i : goal.returns-then-numbers-i
returns-then-numbers-i c = sym (c.loop-i.invariant.1 ∙ ap (λ (ss : List Setting). apply ss c.loop-i.table) (onward_no_number c.args.numbers.now c.args.amounts.now c.args.count c.loop-i.i (omega arith)))

pub returns-then-amounts-i : goal.returns-then-amounts-i
returns-then-amounts-i c = sym (c.loop-i.invariant.1 ∙ ap (λ (ss : List Setting). apply ss c.loop-i.table) (onward_no_amount c.args.numbers.now c.args.amounts.now c.args.count c.loop-i.i (omega arith)))

pub set_entry-requires : goal.set_entry-requires
set_entry-requires c = tt

pub loop-i-preserved : goal.loop-i-preserved
loop-i-preserved c = (ap length c.set_entry.ensures ∙ simp length-set c.loop-i.invariant.0, c.loop-i.invariant.1 ∙ onward_applied c.args.numbers.now c.args.amounts.now c.args.count c.loop-i.i (omega arith) (omega arith) (omega arith) c.loop-i.table (rw (to_z-of_z w64 (get_or c.args.amounts.now c.loop-i.i (pos 0)) (search rules)) at c.set_entry.ensures))

pub returns : goal.returns
returns c = sym (c.loop-i.invariant.1 ∙ ap (λ (ss : List Setting). apply ss c.loop-i.table) (onward_done c.args.numbers.now c.args.amounts.now c.args.count c.loop-i.i (omega arith)))
