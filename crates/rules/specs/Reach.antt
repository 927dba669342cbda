-- Lengths, reach, and a record in order.
-- Assumes nothing.
use Rattle.std.specs.Prelude.{Bool, true, false, cond, ◌&&◌, List, [], ◌∷◌, ℕ, ◌*◌, eqb, leb, length, get_or, replicate, ℤ, pos, negsuc, ◌+ℤ◌, ◌-ℤ◌, ◌*ℤ◌}
use Rattle.rules.specs.Numbers.{within}
use Rattle.rules.specs.Codes.{g_group, systems}
use Rattle.rules.specs.Block.{all_axes}
use Rattle.rules.specs.declared.Value.{Value}
use Rattle.rules.specs.declared.Length.{Length}
use Rattle.rules.specs.declared.Record.{Record}

-- so many counts of 10 nm
abbrev pub counts : ℤ → Length
counts z = record { 0 = z }

-- "only the conversion turns one into the other: one ten-thousandth is 10 counts under G21, 254 under G20"
abbrev pub per_ten_thousandth : ℕ → ℤ
per_ten_thousandth units = pos (cond (eqb units 200) 254 10)

unfoldable pub converted : ℕ → Value → Length
converted units v = counts (v.0 *ℤ per_ten_thousandth units)

-- lengths are added and taken away as counts
infixl 20 ◌plus◌
infixl 20 ◌less◌
abbrev pub ◌plus◌ : Length → Length → Length
a plus b = counts (a.0 +ℤ b.0)

abbrev pub ◌less◌ : Length → Length → Length
a less b = counts (a.0 -ℤ b.0)

-- zero, also what is read of an axis that is not there
abbrev pub nowhere : Length
nowhere = counts (pos 0)

-- an axis of a position or offset
abbrev pub at : List Length → ℕ → Length
at ls i = get_or ls i nowhere

-- "positions, centres, origins and offsets ±1,000,000,000 counts"
abbrev pub in_reach : List Length → Bool
in_reach [] = true
in_reach (l ∷ ls) = within 1000000000 l.0 && in_reach ls

-- from 0 to high
abbrev pub up_to : ℕ → ℤ → Bool
up_to high (pos n) = leb n high
up_to high (negsuc n) = false

-- every field in its range: "position, origins, offset: reach above; feed 0–253,999,999,746; speed 0–999,999,999; tool 0–99; spindle 0–2; coolant 0–3;
-- motion, plane, distance, units, system: a served code of groups 1, 2, 3, 6, 12"
unfoldable pub in_order : Record → Bool
in_order r =
    in_reach r.position && in_reach r.origins && in_reach r.offset
    && up_to 253999999746 r.feed.0 && up_to 999999999 r.speed.0
    && leb r.tool 99 && leb r.spindle 2 && leb r.coolant 3
    && eqb (g_group r.motion) 1 && eqb (g_group r.plane) 2 && eqb (g_group r.distance) 3 && eqb (g_group r.units) 6 && eqb (g_group r.system) 12

-- "Fresh: zeros, G80 G17 G90 G21 G54"
unfoldable pub fresh : Record
fresh = record {
  position = replicate (length all_axes) nowhere;
  origins = replicate (length systems * length all_axes) nowhere;
  offset = replicate (length all_axes) nowhere;
  motion = 800;
  plane = 170;
  distance = 900;
  units = 210;
  system = 540;
  feed = nowhere;
  speed = record { 0 = pos 0 };
  tool = 0;
  spindle = 0;
  coolant = 0;
}
