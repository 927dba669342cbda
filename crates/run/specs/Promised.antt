-- What the functions of the run promise: of a line, of a byte, of some bytes, of a piece and of the end of the input.
-- Assumes nothing.
use Rattle.std.specs.Prelude.{◌≡◌, Bool, false, cond, List, ℕ, ◌+◌, drop, ℤ}
use Rattle.grammar.specs.Grammar.{Line}
use Rattle.grammar.specs.Derivation.{Form}
use Rattle.rules.specs.Frames.{without_return}
use Rattle.run.specs.declared.State.{State}
use Rattle.run.specs.Stands.{Stand, stand, Taken, held_of, held_to, line_worked, closed, stepped, stopped, fed, feeding, finishing, Tells}

abbrev pub Works : List ℕ → Stand → Stand → Type 0
Works l st after = (tree : List ℕ → Form Line) → Tells tree → after ≡ line_worked tree l st

abbrev pub Steps : Stand → ℕ → Stand → Type 0
Steps st b after = (tree : List ℕ → Form Line) → Tells tree → after ≡ stepped tree st b

-- a line that a line feed has ended, or the last one
abbrev pub EndsLine : Bool → Stand → Stand → Type 0
EndsLine fed st after = (tree : List ℕ → Form Line) → Tells tree → after ≡ cond fed (line_worked tree (without_return (held_of st)) st) (closed tree st)

abbrev pub Ends : Stand → Stand → Type 0
Ends st after = (tree : List ℕ → Form Line) → Tells tree → after ≡ closed tree st

-- a piece from the place n on comes to the same from the place m on
abbrev pub Goes : List ℕ → ℕ → Stand → ℕ → Stand → Type 0
Goes piece n st m after = (tree : List ℕ → Form Line) → Tells tree → fed tree n st (drop n piece) ≡ fed tree m after (drop m piece)

-- so many bytes of the piece from a place on are held behind those that are, and the line's space is then line'
abbrev pub Holds : List ℕ → ℕ → List ℕ → ℕ → ℕ → List ℕ → Type 0
Holds piece from line held many line' =
    (s : State) (table out : List ℤ) (text : List ℕ) (filled : ℕ) → s.held ≡ held → stopped (stand s line table out text filled) ≡ false
    → Goes piece from (stand s line table out text filled) (from + many) (stand (held_to s (held + many)) line' table out text filled)

-- THE PROMISE for a piece, and for the end of the input
abbrev pub Feeds : Stand → List ℕ → Taken → Type 0
Feeds st piece after = (tree : List ℕ → Form Line) → Tells tree → after ≡ feeding tree st piece

abbrev pub Closes : Stand → Stand → Type 0
Closes st after = (tree : List ℕ → Form Line) → Tells tree → after ≡ finishing tree st
