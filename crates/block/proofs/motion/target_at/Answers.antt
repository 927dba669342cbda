-- `block::motion::target_at` meets its contract.
-- Assumes nothing.
use mathlib.Core.Path.{◌≡◌, refl, sym, ap, ◌∙◌}
use Prim.Native.Nat.{ℕ, zero, suc, ◌≤◌, ◌<◌}
use mathlib.Core.List.{List}
use native.Mathlib.Omega.{arith}
use lib.IntN.{nat_abs}
use borrow.Author.Tests.{eq-eqb, ne_eqb}
use Rattle.rules.specs.Codes.{system_number}
use Rattle.rules.specs.Reach.{converted, at}
use Rattle.rules.specs.Steps.{origin, origin_of, origin_place}
use Rattle.rules.specs.declared.Length.{Length}
use Rattle.rules.specs.declared.Record.{Record}
use Rattle.block.proofs.Modes.{same_code}
use Rattle.block.proofs.Sums.{word_short, from_here, from_origin}
use Rattle.block.proofs.motion.target_at.Goals as goal

-- the origin in force, axis by axis
origin_at : (m : Record) (i : ℕ) → i < 3 → at (origin_of m (system_number m.system)) i ≡ origin m i
origin_at m zero h = refl
origin_at m (suc zero) h = refl
origin_at m (suc (suc zero)) h = refl
origin_at m (suc (suc (suc i))) h = absurd (omega arith)

pub returns-then-eq : goal.returns-then-eq
returns-then-eq c =
    rw (c.in-Some.is, sym (c.eq.ensures ∙ same_code c.args.b.now.once 530) ∙ c.if-eq.true) c.long-length.ensures

pub returns-then-m-eq910 : goal.returns-then-m-eq910
returns-then-m-eq910 c =
    let m = c.args.m.now in
    let i = c.args.i in
    let bound : nat_abs c.in-Some.v.0 ≤ 999999999 = rw c.in-Some.is at (c.requires.ranged.axes i) in
    rw (c.in-Some.is, sym (c.eq.ensures ∙ same_code c.args.b.now.once 530) ∙ c.if-eq.false, eq-eqb m.distance 910 c.if-m-eq910.true)
    (c.add.ensures ∙ rw c.long-length.ensures (from_here (at m.position i) (converted m.units c.in-Some.v) (c.requires.small.position i) (word_short m.units c.in-Some.v bound)))

pub returns : goal.returns
returns c =
    let m = c.args.m.now in
    let i = c.args.i in
    let bound : nat_abs c.in-Some.v.0 ≤ 999999999 = rw c.in-Some.is at (c.requires.ranged.axes i) in
    let here : at c.args.origin i ≡ origin m i = ap (λ (ls : List Length). at ls i) c.requires.origin_value ∙ origin_at m i c.requires.i_bound in
    rw (c.in-Some.is, sym (c.eq.ensures ∙ same_code c.args.b.now.once 530) ∙ c.if-eq.false, ne_eqb m.distance 910 c.if-m-eq910.false)
    (c.add-3.ensures ∙ rw (c.add-2.ensures, c.long-length.ensures, here)
    (from_origin (converted m.units c.in-Some.v) (origin m i) (at m.offset i) (word_short m.units c.in-Some.v bound) (c.requires.small.origins (origin_place (system_number m.system) i)) (c.requires.small.offset i)))
