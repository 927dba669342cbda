-- What is held of the bytes that were read, once their ended lines are mended.
-- Assumes nothing.
use Rattle.std.specs.Prelude.{◌≡◌, List, ◌++◌, ℕ, take, drop, Option, IfSome}
use Rattle.std.specs.Io.KnownBytes.{Consumes}
use Rattle.mend.specs.Joining.{ended_lines}
use Rattle.rs274_mend.specs.declared.Kept.{Kept}

-- what no line feed has ended: `text_joins` (crate mend) says that it goes with what comes
abbrev pub Held : List ℕ → List ℕ → Type 0
Held s held = held ≡ drop (ended_lines s) s

-- of the bytes up to a place, what no line feed has ended is at the front, where the program goes on
abbrev pub HeldOf : ℕ → List ℕ → Option Kept → List ℕ → Type 0
HeldOf end bytes r now = IfSome r (λ kept. Held (take end bytes) (take kept.held now))

-- so it is of what was held and what was read behind it, which are the next bytes that the reader had left
abbrev pub HeldOn : Option (List ℕ) → Option (List ℕ) → ℕ → List ℕ → Option Kept → List ℕ → Type 0
HeldOn before after held bytes r now =
    IfSome r (λ kept. (piece : List ℕ) × Consumes before after piece × Held (take held bytes ++ piece) (take kept.held now))
