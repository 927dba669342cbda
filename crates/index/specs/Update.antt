-- How the code goes about it: line by line for a text, and by what the old and the new line bear for a replacement. That it comes to the
-- same is proved (`gathered_is`, `bring_is`).
-- Assumes nothing.
use Rattle.std.specs.Prelude.{Bool, true, false, cond, List, [], ◌∷◌, ℕ, suc, ◌+◌, ◌-◌, eqb, ltb, leb, drop, Option, None, Some}
use Rattle.grammar.specs.Grammar.{Line}
use Rattle.grammar.specs.Derivation.{Form}
use Rattle.texts.specs.Ends.{Piece, pieces}
use Rattle.index.specs.Index.{borne, bears, Place, place, size, first_from, Entry, put, Indexed, start_at, replace_by}

-- the place at the first number that is not below n, where that number is n: in entries that rise, what asking for n gives
abbrev pub seek : ℕ → List Entry → Option Place
seek n [] = None
seek n (e ∷ es) = cond (ltb e.number n) (seek n es) (cond (eqb e.number n) (Some e.place) None)

abbrev pub here : Option Place → Bool
here None = false
here (Some p) = true

-- a place on line k; one on a line up to k
abbrev pub is_at : ℕ → Option Place → Bool
is_at k None = false
is_at k (Some p) = eqb p.line k

abbrev pub up_to : ℕ → Option Place → Bool
up_to k None = false
up_to k (Some p) = leb p.line k

-- ---- line by line

-- the number that a line bears is entered, unless it is there
abbrev pub added : Option ℕ → ℕ → ℕ → List Entry → List Entry
added None k at es = es
added (Some n) k at es = cond (here (seek n es)) es (put n (Some (place k at)) es)

abbrev pub gathered_from : (List ℕ → Form Line) → List Entry → ℕ → ℕ → List Piece → List Entry
gathered_from tree es k at [] = es
gathered_from tree es k at (p ∷ ps) = gathered_from tree (added (borne tree p.line) k at es) (suc k) (at + size p) ps

-- ---- by the old line and the new one

-- what the old line bears: where that line was its first and the new one does not bear it, its place is the next line that does
abbrev pub moved : (List ℕ → Form Line) → Option ℕ → Option ℕ → ℕ → ℕ → List Piece → List Entry → List Entry
moved tree None new k next later es = es
moved tree (Some o) new k next later es = cond (bears new o) es (cond (is_at k (seek o es)) (put o (first_from tree o (suc k) next later) es) es)

-- what the new line bears: its place is line k, unless an earlier line bears it
abbrev pub entered : Option ℕ → ℕ → ℕ → List Entry → List Entry
entered None k at es = es
entered (Some n) k at es = cond (up_to k (seek n es)) es (put n (Some (place k at)) es)

abbrev pub brought : (List ℕ → Form Line) → List ℕ → List Entry → ℕ → List ℕ → List ℕ → List Entry
brought tree text es k old new =
    entered (borne tree new) k (start_at (k - 1) (pieces text))
    (moved tree (borne tree old) (borne tree new) k (start_at k (pieces text)) (drop k (pieces text)) es)

unfoldable pub bring : (List ℕ → Form Line) → List ℕ → List Entry → ℕ → List ℕ → Indexed
bring tree text es k new = replace_by (λ old text'. brought tree text es k old new) text es k new
