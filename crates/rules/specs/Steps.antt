-- What each word and code of a line does to the record, step by step in the order of document 01.
-- Assumes nothing.
use Rattle.std.specs.Prelude.{Bool, cond, ◌||◌, List, [], ◌∷◌, map, ℕ, zero, suc, ◌+◌, ◌*◌, eqb, length, set, is_some, unwrap_or}
use Rattle.std.specs.Option.{option_map_or}
use Rattle.rules.specs.Numbers.{whole, counted}
use Rattle.rules.specs.Codes.{systems, system_number}
use Rattle.rules.specs.Block.{amount, axis, all_axes, has_one, or_else, moves, sets_origin, machine, sets_offset, zeroes_offset}
use Rattle.rules.specs.Reach.{converted, ◌plus◌, ◌less◌, nowhere, at}
use Rattle.rules.specs.With.{with_position, with_origins, with_offset, with_motion, with_plane, with_distance, with_units, with_system, with_feed, with_speed, with_tool, with_spindle, with_coolant}
use Rattle.rules.specs.declared.Length.{Length}
use Rattle.rules.specs.declared.Value.{Value}
use Rattle.rules.specs.declared.Block.{Block}
use Rattle.rules.specs.declared.Record.{Record}

-- "F (units in force before the line)"
unfoldable pub feed_step : Block → Record → Record
feed_step b r = with_feed (option_map_or (converted r.units) b.f r.feed) r

-- "S"
unfoldable pub speed_step : Block → Record → Record
speed_step b r = with_speed (unwrap_or b.s r.speed) r

-- "T": the whole number that the value counts as
unfoldable pub tool_step : Block → Record → Record
tool_step b r = with_tool (option_map_or (λ v. counted (whole v.0)) b.t r.tool) r

-- "M6 (spindle becomes 0)"
unfoldable pub change_step : Block → Record → Record
change_step b r = with_spindle (cond (is_some b.change) 0 r.spindle) r

-- "spindle 0 M5, 1 M3, 2 M4"
abbrev pub spindle_of : ℕ → ℕ
spindle_of m = cond (eqb m 3) 1 (cond (eqb m 4) 2 0)

unfoldable pub spindle_step : Block → Record → Record
spindle_step b r = with_spindle (option_map_or spindle_of b.spindle r.spindle) r

-- "coolant 0 M9, 1 M7, 2 M8"
abbrev pub coolant_of : ℕ → ℕ
coolant_of m = cond (eqb m 7) 1 (cond (eqb m 8) 2 0)

-- mist 1, flood 2, added: "after M7 or M8 the record keeps the other one on"
abbrev pub coolant_with : ℕ → ℕ → ℕ
coolant_with m old = cond (eqb m 7) (cond (eqb old 2 || eqb old 3) 3 1) (cond (eqb m 8) (cond (eqb old 1 || eqb old 3) 3 2) 0)

unfoldable pub coolant_step : Block → Record → Record
coolant_step b r = with_coolant (option_map_or (λ m. coolant_with m r.coolant) b.coolant r.coolant) r

-- "plane, units, system, distance"
unfoldable pub plane_step : Block → Record → Record
plane_step b r = with_plane (or_else b.plane r.plane) r

unfoldable pub units_step : Block → Record → Record
units_step b r = with_units (or_else b.units r.units) r

unfoldable pub system_step : Block → Record → Record
system_step b r = with_system (or_else b.system r.system) r

unfoldable pub distance_step : Block → Record → Record
distance_step b r = with_distance (or_else b.distance r.distance) r

-- a word's value as a length, in the units in force
abbrev pub long : Record → Value → Length
long r v = converted r.units v

-- where axis i of system n (1–9) stands among the origins. Number 0 is no system and has no origin: its place lies past the last,
-- where nothing is read and nothing can be set
abbrev pub origin_place : ℕ → ℕ → ℕ
origin_place zero i = length systems * length all_axes + i
origin_place (suc n) i = length all_axes * n + i

-- the origin of system n; axis i of the origin in force
abbrev pub origin_of : Record → ℕ → List Length
origin_of r n = map (λ (i : ℕ). at r.origins (origin_place n i)) all_axes

abbrev pub origin : Record → ℕ → Length
origin r i = at r.origins (origin_place (system_number r.system) i)

-- "G10 L2 Pn sets named axes of origin n (1–9)"
abbrev pub origin_system : Block → ℕ
origin_system b = counted (whole (amount b.p).0)

-- a named axis takes its word, the others keep what they have
abbrev pub named : Block → Record → ℕ → Length → Length
named b r i old = option_map_or (long r) (axis b i) old

-- the origins with the named axes of system P set, axis after axis
abbrev pub origins_set : Block → Record → List ℕ → List Length → List Length
origins_set b r [] os = os
origins_set b r (i ∷ is) os = origins_set b r is (set os (origin_place (origin_system b) i) (named b r i (at os (origin_place (origin_system b) i))))

unfoldable pub origin_step : Block → Record → Record
origin_step b r = with_origins (cond (sets_origin b) (origins_set b r all_axes r.origins) r.origins) r

-- "G92 sets, for named axes, offset = position − origin − word. G92.1 zeroes the offset"
abbrev pub offset_at : Block → Record → ℕ → Length
offset_at b r i = option_map_or (λ v. (at r.position i less origin r i) less long r v) (axis b i) (at r.offset i)

-- no offset on any axis
abbrev pub no_offset : List Length
no_offset = map (λ (i : ℕ). nowhere) all_axes

unfoldable pub offset_step : Block → Record → Record
offset_step b r = with_offset (cond (sets_offset b) (map (offset_at b r) all_axes) (cond (zeroes_offset b) no_offset r.offset)) r

-- "Target: word + origin + G92 offset; under G91 position + word; with G53 the word alone, G91 or not. Axes not named stay"
abbrev pub goes_by : Block → Record → ℕ → Value → Length
goes_by b r i v =
    cond (machine b) (long r v)
    (cond (eqb r.distance 910) (at r.position i plus long r v)
    ((long r v plus origin r i) plus at r.offset i))

abbrev pub target_at : Block → Record → ℕ → Length
target_at b r i = option_map_or (goes_by b r i) (axis b i) (at r.position i)

unfoldable pub target : Block → Record → List Length
target b r = map (target_at b r) all_axes

-- "by the line's group 1 code or else the record's"; "The line's G0–G3 or G80 becomes the mode at the motion step"
abbrev pub motion_of : Block → Record → ℕ
motion_of b r = or_else b.motion r.motion

unfoldable pub motion_step : Block → Record → Record
motion_step b r = with_motion (motion_of b r) (with_position (cond (moves b) (target b r) r.position) r)

-- "M2 and M30 also set G54, G17, G90, motion G1, spindle and coolant 0, G92 offset zero"
abbrev pub ends : Block → Bool
ends b = has_one b.stop (2 ∷ 30 ∷ [])

unfoldable pub stop_step : Block → Record → Record
stop_step b r =
    with_system (cond (ends b) 540 r.system)
    (with_plane (cond (ends b) 170 r.plane)
    (with_distance (cond (ends b) 900 r.distance)
    (with_motion (cond (ends b) 10 r.motion)
    (with_spindle (cond (ends b) 0 r.spindle)
    (with_coolant (cond (ends b) 0 r.coolant)
    (with_offset (cond (ends b) no_offset r.offset) r))))))

-- one step after the other
abbrev pub in_turn : List (Record → Record) → Record → Record
in_turn [] r = r
in_turn (f ∷ fs) r = in_turn fs (f r)

-- "Order within an accepted line": the record as the motion step finds it. (G4 changes nothing in it.)
unfoldable pub ready : Block → Record → Record
ready b r = in_turn (
    feed_step b ∷ speed_step b ∷ tool_step b ∷ change_step b ∷ spindle_step b ∷ coolant_step b
    ∷ plane_step b ∷ units_step b ∷ system_step b ∷ distance_step b ∷ origin_step b ∷ offset_step b ∷ []) r

-- and as the line leaves it
unfoldable pub left : Block → Record → Record
left b r = stop_step b (motion_step b (ready b r))
