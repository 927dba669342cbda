-- `parameters::save::Session::held` meets its contract: what the number stands for is looked up where it is held.
-- Assumes nothing.
use mathlib.Core.Path.{◌≡◌, refl, sym, ap, ◌∙◌}
use Prim.Native.Nat.{ℕ, zero, suc}
use lib.IntN.{pos}
use lib.ListN.{get_or}
use Rattle.std.proofs.Common.{rules}
use Rattle.std.specs.Prelude.{Option}
use Rattle.std.specs.Option.{unwrap_or}
use Rattle.laws.proofs.Ints.{back}
use Rattle.rules.specs.Codes.{numbered, system_number}
use Rattle.parameters.proofs.Saving.{held_at_holds}
use Rattle.parameters.proofs.save.Session.held.Goals as goal

pub returns-in-Entry : goal.returns-in-Entry
returns-in-Entry c =
    let e : c.unwrap_or.result ≡ get_or c.args.self.now.table.now c.in-Entry.n (pos 0) = search rules in
    held_at_holds c.args.self.now.rec.now c.args.self.now.table.now c.args.number _ (sym c.in-Entry.is ∙ c.stands_for.ensures) (back c.unwrap_or.result (search rules) ∙ e)

pub returns-in-Offset : goal.returns-in-Offset
returns-in-Offset c = held_at_holds c.args.self.now.rec.now c.args.self.now.table.now c.args.number _ (sym c.in-Offset.is ∙ c.stands_for.ensures) (back c.length_at.result (search rules) ∙ c.length_at.ensures)

pub returns-in-Origin : goal.returns-in-Origin
returns-in-Origin c = held_at_holds c.args.self.now.rec.now c.args.self.now.table.now c.args.number _ (sym c.in-Origin.is ∙ c.stands_for.ensures) (back c.length_at-in-Origin.result (search rules) ∙ c.length_at-in-Origin.ensures)

numbered_or : (n : ℕ) → unwrap_or (numbered n) 0 ≡ n
numbered_or zero = refl
numbered_or (suc n) = refl

pub returns-in-System : goal.returns-in-System
returns-in-System c =
    let e : c.unwrap_or-in-System.result ≡ unwrap_or c.system_number.result 0 = search rules in
    held_at_holds c.args.self.now.rec.now c.args.self.now.table.now c.args.number _ (sym c.in-System.is ∙ c.stands_for.ensures)
    (back c.from.result (search rules) ∙ c.from.ensures ∙ ap pos (e ∙ ap (λ (o : Option ℕ). unwrap_or o 0) c.system_number.ensures ∙ numbered_or (system_number c.args.self.now.rec.now.system)))

pub returns-in-Passed : goal.returns-in-Passed
returns-in-Passed c = held_at_holds c.args.self.now.rec.now c.args.self.now.table.now c.args.number _ (sym c.in-Passed.is ∙ c.stands_for.ensures) refl
