-- A record with one field changed. (Definitions have no record update, so each is written out.)
-- Assumes nothing.
use Rattle.std.specs.Prelude.{List, ℕ}
use Rattle.rules.specs.declared.Value.{Value}
use Rattle.rules.specs.declared.Length.{Length}
use Rattle.rules.specs.declared.Record.{Record}

abbrev pub with_position : List Length → Record → Record
with_position v r = record { position = v; origins = r.origins; offset = r.offset; motion = r.motion; plane = r.plane; distance = r.distance; units = r.units; system = r.system; feed = r.feed; speed = r.speed; tool = r.tool; spindle = r.spindle; coolant = r.coolant }

abbrev pub with_origins : List Length → Record → Record
with_origins v r = record { position = r.position; origins = v; offset = r.offset; motion = r.motion; plane = r.plane; distance = r.distance; units = r.units; system = r.system; feed = r.feed; speed = r.speed; tool = r.tool; spindle = r.spindle; coolant = r.coolant }

abbrev pub with_offset : List Length → Record → Record
with_offset v r = record { position = r.position; origins = r.origins; offset = v; motion = r.motion; plane = r.plane; distance = r.distance; units = r.units; system = r.system; feed = r.feed; speed = r.speed; tool = r.tool; spindle = r.spindle; coolant = r.coolant }

abbrev pub with_motion : ℕ → Record → Record
with_motion v r = record { position = r.position; origins = r.origins; offset = r.offset; motion = v; plane = r.plane; distance = r.distance; units = r.units; system = r.system; feed = r.feed; speed = r.speed; tool = r.tool; spindle = r.spindle; coolant = r.coolant }

abbrev pub with_plane : ℕ → Record → Record
with_plane v r = record { position = r.position; origins = r.origins; offset = r.offset; motion = r.motion; plane = v; distance = r.distance; units = r.units; system = r.system; feed = r.feed; speed = r.speed; tool = r.tool; spindle = r.spindle; coolant = r.coolant }

abbrev pub with_distance : ℕ → Record → Record
with_distance v r = record { position = r.position; origins = r.origins; offset = r.offset; motion = r.motion; plane = r.plane; distance = v; units = r.units; system = r.system; feed = r.feed; speed = r.speed; tool = r.tool; spindle = r.spindle; coolant = r.coolant }

abbrev pub with_units : ℕ → Record → Record
with_units v r = record { position = r.position; origins = r.origins; offset = r.offset; motion = r.motion; plane = r.plane; distance = r.distance; units = v; system = r.system; feed = r.feed; speed = r.speed; tool = r.tool; spindle = r.spindle; coolant = r.coolant }

abbrev pub with_system : ℕ → Record → Record
with_system v r = record { position = r.position; origins = r.origins; offset = r.offset; motion = r.motion; plane = r.plane; distance = r.distance; units = r.units; system = v; feed = r.feed; speed = r.speed; tool = r.tool; spindle = r.spindle; coolant = r.coolant }

abbrev pub with_feed : Length → Record → Record
with_feed v r = record { position = r.position; origins = r.origins; offset = r.offset; motion = r.motion; plane = r.plane; distance = r.distance; units = r.units; system = r.system; feed = v; speed = r.speed; tool = r.tool; spindle = r.spindle; coolant = r.coolant }

abbrev pub with_speed : Value → Record → Record
with_speed v r = record { position = r.position; origins = r.origins; offset = r.offset; motion = r.motion; plane = r.plane; distance = r.distance; units = r.units; system = r.system; feed = r.feed; speed = v; tool = r.tool; spindle = r.spindle; coolant = r.coolant }

abbrev pub with_tool : ℕ → Record → Record
with_tool v r = record { position = r.position; origins = r.origins; offset = r.offset; motion = r.motion; plane = r.plane; distance = r.distance; units = r.units; system = r.system; feed = r.feed; speed = r.speed; tool = v; spindle = r.spindle; coolant = r.coolant }

abbrev pub with_spindle : ℕ → Record → Record
with_spindle v r = record { position = r.position; origins = r.origins; offset = r.offset; motion = r.motion; plane = r.plane; distance = r.distance; units = r.units; system = r.system; feed = r.feed; speed = r.speed; tool = r.tool; spindle = v; coolant = r.coolant }

abbrev pub with_coolant : ℕ → Record → Record
with_coolant v r = record { position = r.position; origins = r.origins; offset = r.offset; motion = r.motion; plane = r.plane; distance = r.distance; units = r.units; system = r.system; feed = r.feed; speed = r.speed; tool = r.tool; spindle = r.spindle; coolant = v }
