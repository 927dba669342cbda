-- Parameter files on plain numbers: what reading and writing leave, through the packing of the record.
-- Assumes nothing.
use Rattle.std.specs.Prelude.{◌≡◌, true, false, cond, List, ℕ, ℤ}
use Rattle.parameters.specs.Reading.{Loaded, Loads}
use Rattle.parameters.specs.Writing.{Saved, saved}
use Rattle.embed.specs.Packing.{packed, unpacked, holdable}

-- all that reading leaves, in plain numbers
pub record Left : Type 0 where
  pub number : ℕ
  pub rec : List ℤ
  pub table : List ℤ

abbrev pub left : Loaded → Left
left a = record { number = a.number; rec = packed a.rec; table = a.table }

-- what is left is what the promise allows for the record that the numbers stand for; numbers that stand for none are number 1
pub record LoadedPlain (text : List ℕ) (rec table : List ℤ) (after : Left) : Type 0 where
  pub held : holdable rec ≡ true → (a : Loaded) × Loads text (unpacked rec) table a × (after ≡ left a)
  pub not_held : holdable rec ≡ false → after ≡ record { number = 1; rec = rec; table = table }

-- writing leaves what is said of the record that they stand for
unfoldable pub saved_plain : List ℤ → List ℤ → List ℕ → Saved
saved_plain rec table out = cond (holdable rec) (saved (unpacked rec) table out) (record { number = 1; count = 0; out = out })
