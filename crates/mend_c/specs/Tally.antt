-- What is told to C of a text.
-- Assumes nothing.
use Rattle.mend.specs.Text.{Told}
use Rattle.mend_c.specs.declared.Tally.{Tally}

-- the numbers of the struct
abbrev pub counted : Tally → Told
counted t = record { number = t.number; filled = t.filled; lines = t.lines; listed = t.listed }
