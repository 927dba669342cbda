-- The value of every word of a line is in range.
-- Assumes nothing.
use mathlib.Core.Path.{sym, subst}
use mathlib.Core.Bool.{Bool, true, false, cond}
use mathlib.Core.List.{List, [], ◌∷◌}
use mathlib.Core.Logic.{⊎_elim}
use Prim.Native.Nat.{ℕ}
use lib.Dec.{T, eqb}
use lib.IntN.{ℤ}
use Rattle.std.specs.Prelude.{Some}
use Rattle.grammar.specs.Grammar.{Line}
use Rattle.grammar.specs.Working.{Took, end, stopped, took, line_entries}
use Rattle.rules.specs.Numbers.{in_range}
use Rattle.rules.specs.Meaning.{Entry, word_is, setting_is, arithmetic, Said, words}
use Rattle.rules.specs.Block.{amount, word as wordOfLetter}
use Rattle.rules.proofs.Sound.{SoundTook, line_sound}

abbrev pub AllInRange : List Said → Type 0
AllInRange [] = Unit {0}
AllInRange (w ∷ ws) = T (in_range w.value) × AllInRange ws

took_in_range : (e : Took Entry) → SoundTook e → AllInRange (words e)
took_in_range end s = tt
took_in_range (stopped n) s = tt
took_in_range (took (word_is b v) t) s = (subst T (sym s.0) tt, took_in_range t s.1)
took_in_range (took (setting_is n v) t) s = took_in_range t s

pub words_in_range : (table : List ℤ) (t : Line) → AllInRange (words (line_entries (arithmetic table) t))
words_in_range table t = ⊎_elim (λ e. rw e tt) (took_in_range (line_entries (arithmetic table) t)) (line_sound table t)

-- the word of a letter, given or not
pub word_in_range : (b : ℕ) (ws : List Said) → AllInRange ws → T (in_range (amount (wordOfLetter b ws)).0)
word_in_range b [] p = tt
word_in_range b (w ∷ ws) p = go (eqb w.letter b) (word_in_range b ws p.1)
  where
    go : (c : Bool) → T (in_range (amount (wordOfLetter b ws)).0) → T (in_range (amount (cond c (Some (record { 0 = w.value })) (wordOfLetter b ws))).0)
    go true q = p.0
    go false q = q
