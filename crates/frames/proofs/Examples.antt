-- The frames that document 01 prints, and the ends of lines that can be mistaken.
-- Assumes nothing.
use mathlib.Core.Path.{◌≡◌, refl}
use mathlib.Core.List.{[], ◌∷◌}
use lib.IntN.{pos, negsuc}
use Rattle.grammar.specs.Bytes.{bytes}
use Rattle.rules.specs.Frames.{frame, refusal_frame, fields_used, lines}

-- `F100`, `G1 X1 Y-0.5`, `M5`, `G59.4`
the_feed : frame (pos 1 ∷ pos 10000000 ∷ pos 0 ∷ pos 0 ∷ pos 0 ∷ pos 0 ∷ pos 0 ∷ pos 0 ∷ []) ≡ bytes "010000989680\n"
unfolding frame fields_used
the_feed = refl

the_move : frame (pos 9 ∷ pos 100000 ∷ negsuc 49999 ∷ pos 0 ∷ pos 0 ∷ pos 0 ∷ pos 0 ∷ pos 0 ∷ []) ≡ bytes "0900000186A0FFFFFF3CB00000000000\n"
unfolding frame fields_used
the_move = refl

the_spindle : frame (pos 5 ∷ pos 0 ∷ pos 0 ∷ pos 0 ∷ pos 0 ∷ pos 0 ∷ pos 0 ∷ pos 0 ∷ []) ≡ bytes "050000000000\n"
unfolding frame fields_used
the_spindle = refl

the_refusal : refusal_frame 8 ≡ bytes "FF0000000008\n"
unfolding refusal_frame
the_refusal = refl

-- a change of tool uses no field
the_change : frame (pos 4 ∷ pos 0 ∷ pos 0 ∷ pos 0 ∷ pos 0 ∷ pos 0 ∷ pos 0 ∷ pos 0 ∷ []) ≡ bytes "04\n"
unfolding frame fields_used
the_change = refl

-- one carriage return is dropped, and only before a line feed; an empty line counts, and nothing after the last line feed does not
returns_and_feeds : lines (bytes "M5\r\nM6\r\r\n\n\rM7\nM8\r") ≡ bytes "M5" ∷ bytes "M6\r" ∷ [] ∷ bytes "\rM7" ∷ bytes "M8\r" ∷ []
returns_and_feeds = refl

no_last_line : lines (bytes "M5\n") ≡ bytes "M5" ∷ []
no_last_line = refl
