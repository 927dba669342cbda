-- The words that two slices hold side by side, and the summary of a line's words.
-- Assumes nothing.
use Rattle.std.specs.Prelude.{cond, List, [], ◌∷◌, ℕ, ℤ}
use Rattle.grammar.specs.Grammar.{letter}
use Rattle.rules.specs.Meaning.{Said}
use Rattle.rules.specs.Block.{block_of}
use Rattle.rules.specs.Refusals.{unserved, doubled}
use Rattle.summary.specs.declared.Summary.{Summary}

-- words by their letters and their values, side by side
abbrev pub said : List ℕ → List ℤ → List Said
said [] vs = []
said (l ∷ ls) [] = []
said (l ∷ ls) (v ∷ vs) = record { letter = l; value = v } ∷ said ls vs

-- the words of the grammar's letters: any other word, which no line gives, is passed over
abbrev pub lettered : List Said → List Said
lettered [] = []
lettered (w ∷ ws) = cond (letter w.letter) (w ∷ lettered ws) (lettered ws)

-- the block, and what numbers 8 and 9 ask of the words
abbrev pub summary_of : List Said → Summary
summary_of ws = record { block = block_of ws; unserved = unserved ws; doubled = doubled ws (block_of ws) }
