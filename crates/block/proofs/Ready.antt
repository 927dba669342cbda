-- What the steps before the motion step leave of the record, field by field.
-- Assumes nothing.
use mathlib.Core.Path.{◌≡◌, refl, ap}
use mathlib.Core.Bool.{cond}
use Rattle.std.specs.Option.{is_some, unwrap_or, option_map_or}
use Rattle.rules.specs.Numbers.{whole, counted}
use Rattle.rules.specs.Block.{or_else}
use Rattle.rules.specs.Reach.{converted}
use Rattle.rules.specs.With.{with_origins, with_offset}
use Rattle.rules.specs.Steps.{feed_step, speed_step, tool_step, change_step, spindle_step, coolant_step, plane_step, units_step, system_step, distance_step, origin_step, offset_step, ready, spindle_of, coolant_with}
use Rattle.rules.specs.declared.Block.{Block}
use Rattle.rules.specs.declared.Record.{Record}

module _ (b : Block) (r : Record) where
  -- before G10's step, and behind it
  abbrev pub before_g10 : Record
  before_g10 = record {
    position = r.position;
    origins = r.origins;
    offset = r.offset;
    motion = r.motion;
    plane = or_else b.plane r.plane;
    distance = or_else b.distance r.distance;
    units = or_else b.units r.units;
    system = or_else b.system r.system;
    feed = option_map_or (converted r.units) b.f r.feed;
    speed = unwrap_or b.s r.speed;
    tool = option_map_or (λ v. counted (whole v.0)) b.t r.tool;
    spindle = option_map_or spindle_of b.spindle (cond (is_some b.change) 0 r.spindle);
    coolant = option_map_or (λ m. coolant_with m r.coolant) b.coolant r.coolant;
  }

  abbrev pub after_g10 : Record
  after_g10 = with_origins (origin_step b before_g10).origins before_g10

  pub ready_is : ready b r ≡ with_offset (offset_step b after_g10).offset after_g10
  unfolding ready feed_step speed_step tool_step change_step spindle_step coolant_step plane_step units_step system_step distance_step origin_step offset_step
  ready_is = refl

  pub ready_position : (ready b r).position ≡ r.position
  ready_position = ap (λ (m : Record). m.position) ready_is

  pub ready_plane : (ready b r).plane ≡ or_else b.plane r.plane
  ready_plane = ap (λ (m : Record). m.plane) ready_is

  pub ready_motion : (ready b r).motion ≡ r.motion
  ready_motion = ap (λ (m : Record). m.motion) ready_is
