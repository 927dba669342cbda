-- What an iterator over the lines of a text gives.
-- Assumes nothing.
use Rattle.std.specs.Prelude.{List}
use Rattle.texts.specs.Ends.{Piece, piece, pieces}
use Rattle.texts.specs.declared.Piece.{Piece as Cut}
use Rattle.texts.specs.declared.Pieces.{Pieces}

-- a line that code has found, and what ends it
abbrev pub piece_of : Cut → Piece
piece_of p = piece p.line.now p.end.now

-- the lines that are still to come
abbrev pub pieces_in : Pieces → List Piece
pieces_in s = pieces s.0.now
