-- A rule reads no more of the record than the record that it is cited at has.
-- Assumes nothing.
use mathlib.Core.Path.{◌≡◌, refl}
use Rattle.rules.specs.Arcs.{arc_move}
use Rattle.rules.specs.Refusals.{missing, idle, wrong_mode}
use Rattle.rules.specs.declared.Block.{Block}
use Rattle.rules.specs.declared.Record.{Record}
use Rattle.checks.specs.Modes.{in_motion, in_modes, at_feed, early}

module _ (b : Block) (r : Record) where
  pub arc_move_by : arc_move b r ≡ arc_move b (in_motion r.motion)
  unfolding arc_move
  arc_move_by = refl

  pub missing_by : missing b r ≡ missing b (in_modes r.plane r.motion)
  unfolding missing arc_move
  missing_by = refl

  pub idle_by : idle b r ≡ idle b (in_modes r.plane r.motion)
  unfolding idle arc_move
  idle_by = refl

  pub early_by : early b r ≡ early b (in_modes r.plane r.motion)
  early_by = rw (missing_by, idle_by) refl

  pub wrong_mode_by : wrong_mode b r ≡ wrong_mode b (at_feed r.motion r.feed)
  unfolding wrong_mode
  wrong_mode_by = refl
