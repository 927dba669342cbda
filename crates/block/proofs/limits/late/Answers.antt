-- `block::limits::late` meets its contract.
-- Assumes nothing.
use mathlib.Core.Path.{◌≡◌, refl, sym, ap, ◌∙◌}
use mathlib.Core.Bool.{Bool, true, false, not, ◌&&◌, ◌||◌}
use mathlib.Core.List.{List}
use Rattle.std.specs.Prelude.{None, Some, unwrap_or}
use Rattle.std.specs.Bool.{then_some}
use Rattle.rules.specs.Arcs.{arc_move, bad_arc, centre}
use Rattle.rules.specs.Block.{sets_origin, sets_offset}
use Rattle.rules.specs.Reach.{in_reach}
use Rattle.rules.specs.Steps.{origin_of, origin_system, target}
use Rattle.rules.specs.Refusals.{too_far}
use Rattle.rules.specs.declared.Length.{Length}
use Rattle.rules.specs.declared.Block.{Block}
use Rattle.rules.specs.declared.Record.{Record}
use Rattle.block.specs.Motion.{travel_of}
use Rattle.block.specs.Judged.{bad_ways, beyond}
use Rattle.checks.proofs.Modes.{wrong_mode_by}
use Rattle.block.specs.declared.motion.Travel.{Travel}
use Rattle.block.proofs.Judged.{too_far_is, bad_is, moving}
use Rattle.block.proofs.limits.late.Goals as goal

-- what is given only where it is asked for
asked : (wanted : Bool) (x y : List Length) → then_some wanted x ≡ Some y → (wanted ≡ true) × (x ≡ y)
asked true x y e = (refl, cc)
asked false x y e = absurd (cc)

-- what a line's parts have answered, said of its words and its record
module _ (b : Block) (m : Record) {t : Travel} (way : t ≡ travel_of b m) where
  far_is : {travel origin offset : Bool} → travel ≡ (beyond t.to || beyond t.centre)
      → origin ≡ (sets_origin b && not (in_reach (origin_of m (origin_system b)))) → offset ≡ (sets_offset b && not (in_reach m.offset))
      → too_far b m ≡ (travel || origin || offset)
  far_is p q s = too_far_is b m ∙ rw (s, q, p, way) refl

  -- number 14 is not asked where there is no arc
  no_arc : t.centre ≡ None → (arc_move b m && bad_arc b m) ≡ false
  no_arc e = go (arc_move b m) (ap (λ (t' : Travel). t'.centre) (sym way) ∙ e)
    where
      go : (arc : Bool) → then_some arc (centre b m) ≡ None → (arc && bad_arc b m) ≡ false
      go true e = absurd (cc)
      go false e = refl

  -- and of an arc it is asked in reach
  arc_judged : too_far b m ≡ false → {middle : List Length} → t.centre ≡ Some middle → in_reach m.position ≡ true → (arc_move b m ≡ true) × (middle ≡ centre b m) × (unwrap_or t.to m.position ≡ target b m)
  arc_judged near {middle} e position =
      let arc = asked (arc_move b m) (centre b m) middle (ap (λ (t' : Travel). t'.centre) (sym way) ∙ e) in
      (arc.0, sym arc.1, ap (λ (t' : Travel). unwrap_or t'.to m.position) way ∙ rw (moving b m arc.0) refl)

  bad_judged : too_far b m ≡ false → {middle : List Length} → t.centre ≡ Some middle → in_reach m.position ≡ true
      → {bad : Bool} {to : List Length} → to ≡ unwrap_or t.to m.position → bad ≡ bad_ways m.position to middle m.plane m.units → (arc_move b m && bad_arc b m) ≡ bad
  bad_judged near e position to-is d =
      let a = arc_judged near e position in
      rw a.0 (sym (d ∙ rw (to-is, a.2, a.1) (bad_is b m near a.0 position)))

pub returns-then-wrong_mode : goal.returns-then-wrong_mode
returns-then-wrong_mode c =
    rw (wrong_mode_by c.args.b c.args.m ∙ sym c.wrong_mode.ensures ∙ c.if-wrong_mode.true) refl

pub returns-then-travel_too_far-origin_too_far : goal.returns-then-travel_too_far-origin_too_far
returns-then-travel_too_far-origin_too_far c =
    rw (wrong_mode_by c.args.b c.args.m ∙ sym c.wrong_mode.ensures ∙ c.if-wrong_mode.false, far_is c.args.b c.args.m c.requires.t_value c.travel_too_far.ensures c.origin_too_far.ensures c.offset_too_far.ensures ∙ c.if-travel_too_far-origin_too_far.true) refl

pub returns-in_default : goal.returns-in_default
returns-in_default c =
    let near = far_is c.args.b c.args.m c.requires.t_value c.travel_too_far.ensures c.origin_too_far.ensures c.offset_too_far.ensures ∙ c.if-travel_too_far-origin_too_far.false in
    rw (wrong_mode_by c.args.b c.args.m ∙ sym c.wrong_mode.ensures ∙ c.if-wrong_mode.false, near, no_arc c.args.b c.args.m c.requires.t_value c.in_default.is) refl

pub returns-then-bad_arc : goal.returns-then-bad_arc
returns-then-bad_arc c =
    let near = far_is c.args.b c.args.m c.requires.t_value c.travel_too_far.ensures c.origin_too_far.ensures c.offset_too_far.ensures ∙ c.if-travel_too_far-origin_too_far.false in
    rw (wrong_mode_by c.args.b c.args.m ∙ sym c.wrong_mode.ensures ∙ c.if-wrong_mode.false, near, bad_judged c.args.b c.args.m c.requires.t_value near c.in-Some.is c.requires.position_value c.unwrap_or-to.ensures c.bad_arc.ensures ∙ c.if-bad_arc.true) refl

pub returns : goal.returns
returns c =
    let near = far_is c.args.b c.args.m c.requires.t_value c.travel_too_far.ensures c.origin_too_far.ensures c.offset_too_far.ensures ∙ c.if-travel_too_far-origin_too_far.false in
    rw (wrong_mode_by c.args.b c.args.m ∙ sym c.wrong_mode.ensures ∙ c.if-wrong_mode.false, near, bad_judged c.args.b c.args.m c.requires.t_value near c.in-Some.is c.requires.position_value c.unwrap_or-to.ensures c.bad_arc.ensures ∙ c.if-bad_arc.false) refl
