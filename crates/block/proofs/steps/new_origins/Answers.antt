-- `block::steps::new_origins` meets its contract. The loop's invariant: setting the axes still ahead comes to setting all.
-- Assumes nothing.
use mathlib.Core.Path.{◌≡◌, refl, sym, ap, ◌∙◌}
use mathlib.Core.Bool.{Bool, not}
use borrow.Author.Tests.{not-true, not-false}
use Rattle.std.specs.Prelude.{Some, nat_eq}
use Prim.Native.Nat.{ℕ, zero, suc, ◌+◌, ◌*◌, ◌-◌, ◌<◌}
use native.Mathlib.Omega.{arith}
use mathlib.Core.List.{List}
use lib.ListN.{set, drop, length-set}
use Rattle.std.specs.Option.{option_eq, option_map_or}
use Rattle.rules.specs.Numbers.{whole, counted}
use Rattle.rules.specs.Block.{amount, axis, all_axes, sets_origin}
use Rattle.rules.specs.Reach.{at, converted}
use Rattle.rules.specs.Steps.{origin_place, origin_system, origins_set, origin_step, named}
use Rattle.rules.specs.declared.Length.{Length}
use Rattle.rules.specs.declared.Value.{Value}
use Rattle.rules.specs.declared.Block.{Block}
use Rattle.rules.specs.declared.Record.{Record}
use Rattle.rules.proofs.Index.{place_is}
use Rattle.block.proofs.Modes.{a_system, same_code}
use Rattle.block.proofs.steps.new_origins.Goals as goal

-- an axis set, and those behind it
set_ahead : (b : Block) (m : Record) (os : List Length) (i : ℕ) → i < 3 → {place : ℕ} {new : Length} → place ≡ origin_place (origin_system b) i → new ≡ named b m i (at os (origin_place (origin_system b) i))
    → origins_set b m (drop (i + 1) all_axes) (set os place new) ≡ origins_set b m (drop i all_axes) os
set_ahead b m os i h p q = rw (p, q) (go i h)
  where
    go : (i : ℕ) → i < 3 → origins_set b m (drop (i + 1) all_axes) (set os (origin_place (origin_system b) i) (named b m i (at os (origin_place (origin_system b) i)))) ≡ origins_set b m (drop i all_axes) os
    go zero h = refl
    go (suc zero) h = refl
    go (suc (suc zero)) h = refl
    go (suc (suc (suc i))) h = absurd (omega arith)

-- whether the line sets an origin, as the code asks
sets_is : (b : Block) {other : Bool} → other ≡ not (option_eq nat_eq b.once (Some 100)) → other ≡ not (sets_origin b)
sets_is b e = e ∙ ap not (same_code b.once 100)

pub returns-then-ne : goal.returns-then-ne
unfolding origin_step
returns-then-ne c = rw (not-true (sets_origin c.args.b) (sym (sets_is c.args.b c.ne.ensures) ∙ c.if-ne.true)) refl

pub loop-i-preserved : goal.loop-i-preserved
loop-i-preserved c =
    let sets = not-false (sets_origin c.args.b) (sym (sets_is c.args.b c.ne.ensures) ∙ c.if-ne.false) in
    let system : c.number-system.result ≡ origin_system c.args.b = c.number-system.ensures ∙ ap (λ (v : Value). counted (whole v.0)) c.unwrap_or.ensures in
    let given = a_system (whole (amount c.args.b.p).0) (c.requires.numbered.system sets) in
    let place = ap (λ (n : ℕ). 3 * (n - 1) + c.loop-i.i) system ∙ sym (place_is (origin_system c.args.b) c.loop-i.i given.0) in (
      length-set c.loop-i.origins _ _ ∙ c.loop-i.invariant.0,
      set_ahead c.args.b c.args.m c.loop-i.origins c.loop-i.i c.loop-i-test.true place (c.new_length.ensures ∙ ap (λ (k : ℕ). option_map_or (converted c.args.m.units) (axis c.args.b c.loop-i.i) (at c.loop-i.origins k)) place)
          ∙ c.loop-i.invariant.1,
    )

pub returns : goal.returns
unfolding origin_step
returns c =
    let sets = not-false (sets_origin c.args.b) (sym (sets_is c.args.b c.ne.ensures) ∙ c.if-ne.false) in
    let all : c.loop-i.i ≡ 3 = omega arith in
    rw sets (rw all at c.loop-i.invariant.1)
