-- A part of a text by its places.
-- Assumes nothing.
use Rattle.std.specs.Prelude.{List, ℕ, ◌-◌, take, drop}

-- the bytes from a place up to another
abbrev pub part : ℕ → ℕ → List ℕ → List ℕ
part a e s = take (e - a) (drop a s)
