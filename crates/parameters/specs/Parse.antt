-- A reader of one line, the proofs' tool and no part of the rules. No public contract cites it.
-- Assumes nothing.
use Rattle.std.specs.Prelude.{cond, ◌&&◌, List, [], ◌∷◌, ℕ, leb, length}
use Rattle.std.proofs.Math.Option.{Option, none, some}
use Rattle.grammar.specs.Grammar.{Number, digit}
use Rattle.grammar.specs.Derivation.{blank}
use Rattle.grammar.proofs.Read.{Read, fail, got, take_while, drop_while, read_number}
use Rattle.rules.specs.Frames.{lines}
use Rattle.parameters.specs.File.{Entry}
use Rattle.parameters.specs.Reading.{derived}

-- a number with nothing behind it
abbrev pub alone : Read Number → Option Number
alone (got n []) = some n
alone (got n (b ∷ r)) = none
alone (fail r) = none

abbrev pub joined : List ℕ → List ℕ → Option Number → Option Entry
joined ds bs none = none
joined ds bs (some n) = cond (leb 1 (length ds) && leb 1 (length bs)) (some (record { digits = ds; blanks = bs; value = n })) none

abbrev pub ending : List ℕ → List ℕ → Read Number → Option Entry
ending ds bs m = joined ds bs (alone m)

abbrev pub parted : List ℕ → List ℕ → Option Entry
parted ds r = ending ds (take_while blank r) (read_number (drop_while blank r))

unfoldable pub parse : List ℕ → Option Entry
parse s = parted (take_while digit s) (drop_while digit s)

abbrev pub parsed : List (List ℕ) → List (Option Entry)
parsed [] = []
parsed (l ∷ ls) = parse l ∷ parsed ls

-- the derivations of a text's lines, and the entries there
unfoldable pub trees : List ℕ → List (Option Entry)
trees text = parsed (lines text)

abbrev pub entries_of : List ℕ → List Entry
entries_of text = derived (trees text)
