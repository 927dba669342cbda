-- The letters of a derivation's words are letters of words.
-- Assumes nothing.
use mathlib.Core.Path.{◌≡◌, refl}
use mathlib.Core.Bool.{Bool, true, false, cond}
use mathlib.Core.List.{List, [], ◌∷◌}
use Prim.Native.Nat.{ℕ}
use lib.Dec.{T}
use lib.IntN.{ℤ}
use Rattle.laws.proofs.Bools.{T-eq}
use Rattle.grammar.specs.Grammar.{Item, word, setting, comment, Stroke, unmarked, plain, conditional, Line, line, letter, ItemsOk, LineOk}
use Rattle.grammar.specs.Working.{Took, skip, stop, after, value, expression, entries, line_entries}
use Rattle.rules.specs.Meaning.{Worked, parameter_of, Entry, word_of, setting_of, setting_at, runs, condition_of, arithmetic, words}
use Rattle.std.specs.Prelude.{Option, Some, None, Ok, Err}
use Rattle.summary.specs.Words.{lettered}

-- what an item gives has a word's letter, or is no word
word_lettered : (b : ℕ) (w : Worked) (t : Took Entry) → T (letter b) → lettered (words t) ≡ words t → lettered (words (after (word_of b w) t)) ≡ words (after (word_of b w) t)
word_lettered b (Ok v) t l h = rw (T-eq (letter b) l, h)
word_lettered b (Err n) t l h = refl

setting_at_lettered : (p : Option ℕ) (w : Worked) (t : Took Entry) → lettered (words t) ≡ words t → lettered (words (after (setting_at p w) t)) ≡ words (after (setting_at p w) t)
setting_at_lettered None w t h = refl
setting_at_lettered (Some n) (Ok v) t h = h
setting_at_lettered (Some n) (Err m) t h = refl

setting_lettered : (a b : Worked) (t : Took Entry) → lettered (words t) ≡ words t → lettered (words (after (setting_of a b) t)) ≡ words (after (setting_of a b) t)
setting_lettered (Ok v) b t h = setting_at_lettered (parameter_of v.0) b t h
setting_lettered (Err n) b t h = refl

module _ (table : List ℤ) where
  entries_lettered : (is : List Item) → ItemsOk is → lettered (words (entries (arithmetic table) is)) ≡ words (entries (arithmetic table) is)
  entries_lettered [] o = refl
  entries_lettered (word b v ∷ is) o = word_lettered b (value (arithmetic table) v) (entries (arithmetic table) is) o.0.0 (entries_lettered is o.1)
  entries_lettered (setting v w ∷ is) o = setting_lettered (value (arithmetic table) v) (value (arithmetic table) w) (entries (arithmetic table) is) (entries_lettered is o.1)
  entries_lettered (comment bs ∷ is) o = entries_lettered is o.1

  condition_lettered : (k : Stroke) (w : Worked) (t : Took Entry) → lettered (words t) ≡ words t → lettered (words (after (condition_of k w) t)) ≡ words (after (condition_of k w) t)
  condition_lettered k (Err n) t h = refl
  condition_lettered k (Ok v) t h = go (runs k v.0)
    where
      go : (c : Bool) → lettered (words (after (cond c skip (stop 100)) t)) ≡ words (after (cond c skip (stop 100)) t)
      go true = h
      go false = refl

  pub line_lettered : (t : Line) → LineOk t → lettered (words (line_entries (arithmetic table) t)) ≡ words (line_entries (arithmetic table) t)
  line_lettered (line unmarked n is) o = entries_lettered is o.2
  line_lettered (line (plain k) n is) o = entries_lettered is o.2
  line_lettered (line (conditional k e) n is) o = condition_lettered k (expression (arithmetic table) e) (entries (arithmetic table) is) (entries_lettered is o.2)
