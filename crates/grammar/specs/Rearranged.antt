-- A derivation with its words in another order. The quoted sentences are of request 14 in document 02.
-- Assumes nothing.
use Rattle.std.specs.Prelude.{◌≡◌, List, [], ◌∷◌, ◌++◌, ℕ}
use Rattle.grammar.specs.Grammar.{Item, word, setting, comment, Mark, Label, Line, line}
use Rattle.grammar.specs.Derivation.{Derives}

-- the words of a derivation, and its settings, as they stand
abbrev pub words_of : List Item → List Item
words_of [] = []
words_of (word b v ∷ is) = word b v ∷ words_of is
words_of (setting v w ∷ is) = words_of is
words_of (comment bs ∷ is) = words_of is

abbrev pub settings_of : List Item → List Item
settings_of [] = []
settings_of (word b v ∷ is) = settings_of is
settings_of (setting v w ∷ is) = setting v w ∷ settings_of is
settings_of (comment bs ∷ is) = settings_of is

-- the second list holds what the first does, each as often, in any order: the first's are placed in turn, each anywhere
pub data Shuffled {A : Type 0} : List A → List A → Type 0 where
  none : Shuffled [] []
  place : (x : A) {xs : List A} (left right : List A) → Shuffled xs (left ++ right) → Shuffled (x ∷ xs) (left ++ x ∷ right)

-- "made by rearranging its words, with block delete mark, condition and line number staying first and settings keeping their order among themselves";
-- "Comments may move": of them nothing is asked
pub data Rearranged : Line → Line → Type 0 where
  rearranged : (m : Mark) (n : Label) {is js : List Item} → Shuffled (words_of is) (words_of js) → settings_of is ≡ settings_of js → Rearranged (line m n is) (line m n js)

-- the typed line s' is the typed line s with its words rearranged: what the two are made of is
pub record Reordered (s s' : List ℕ) : Type 0 where
  pub of : Line
  pub to : Line
  pub before : Derives of s
  pub after : Derives to s'
  pub moved : Rearranged of to
