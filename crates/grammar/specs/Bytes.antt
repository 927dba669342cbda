-- Text as bytes, so that the rules below can be written as document 01 prints them.
-- Assumes nothing.
use Rattle.std.specs.Prelude.{Bool, true, false, ◌&&◌, ◌||◌, List, [], ◌∷◌, ℕ, eqb}
use Prim.Native.Char.{Char, code}
use Prim.Native.String.{String, [] as empty, ◌∷◌ as ◌then◌}

-- the byte of a character
abbrev pub byte : Char → ℕ
byte c = code c

-- the bytes of a text
abbrev pub bytes : String → List ℕ
bytes empty = []
bytes (c then s) = byte c ∷ bytes s

-- a byte is one of these
abbrev pub among : ℕ → List ℕ → Bool
among b [] = false
among b (x ∷ xs) = eqb b x || among b xs

-- all bytes are of a class
abbrev pub all : (ℕ → Bool) → List ℕ → Bool
all p [] = true
all p (x ∷ xs) = p x && all p xs
