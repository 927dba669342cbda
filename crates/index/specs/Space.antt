-- What the calls promise, and what is gathered on the way.
-- Assumes nothing.
use Rattle.std.specs.Prelude.{◌≡◌, List, [], ℕ, ◌≤◌, ◌<◌, length, Result}
use Rattle.grammar.specs.Grammar.{Line}
use Rattle.grammar.specs.Derivation.{Form}
use Rattle.texts.specs.Form.{Tells}
use Rattle.texts.proofs.Rightness.{model}
use Rattle.index.specs.Index.{Entry, Refusal, built, build}
use Rattle.index.specs.Held.{kept, after, afterwards}
use Rattle.index.specs.Update.{bring}

-- these are the text's index, or more entries than an index may have
pub record Gathered (text : List ℕ) (es : List Entry) : Type 0 where
  pub few : length es ≤ 2000 → es ≡ built model text
  pub many : 2000 < length es → 2000 < length (built model text)

-- ---- the promises: whatever tells every line's form tells what is left

abbrev pub Builds : List ℕ → List ℕ → Result ℕ Refusal → List ℕ → Type 0
Builds text old r new = (tree : List ℕ → Form Line) → Tells tree → after r text new ≡ afterwards (build tree text []) old

abbrev pub Replaces : List ℕ → List ℕ → ℕ → ℕ → List ℕ → Result ℕ Refusal → List ℕ → List ℕ → Type 0
Replaces text old count k line r text' new = (tree : List ℕ → Form Line) → Tells tree → after r text' new ≡ afterwards (bring tree text (kept old count) k line) old
