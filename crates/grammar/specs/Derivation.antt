-- A line as it is typed, what remains of it once it is prepared, when a tree derives it, and where its form breaks if none does.
-- Assumes nothing.
use Rattle.std.specs.Prelude.{◌≡◌, Bool, ◌&&◌, cond, List, [], ◌∷◌, ◌++◌, ℕ, ◌-◌, ◌≤◌, leb, eqb, length, take}
use Rattle.grammar.specs.Bytes.{byte, bytes, among}
use Rattle.grammar.specs.Grammar.{Line, LineOk, write}

-- "spaces and tabs"
abbrev pub blank : ℕ → Bool
blank b = among b (bytes " \t")

-- "letters raised to upper case"
abbrev pub raise : ℕ → ℕ
raise b = cond (leb (byte "a") b && leb b (byte "z")) (b - 32) b

-- "A byte is in a comment from `(` to the first `)`. Outside comments, spaces and tabs are dropped and letters raised to upper case"
unfoldable mutual
  pub strip : List ℕ → List ℕ
  strip [] = []
  strip (b ∷ s) = cond (blank b) (strip s) (raise b ∷ cond (eqb b (byte "(")) (inside s) (strip s))

  pub inside : List ℕ → List ℕ
  inside [] = []
  inside (b ∷ s) = b ∷ cond (eqb b (byte ")")) (strip s) (inside s)

-- "What remains must be derived by" the rules: the tree's leaves are as the rules ask, and the tree writes what remains
pub record Derives (t : Line) (s : List ℕ) : Type 0 where
  pub ok : LineOk t
  pub writes : strip s ≡ write t

-- ---- where the form breaks (request 2 of document 02)

-- "some line of right form, of any length, also begins with" these bytes
pub record RightBeginning (x : List ℕ) : Type 0 where
  pub rest : List ℕ
  pub tree : Line
  pub derives : Derives tree (x ++ rest)

-- n is "the number of bytes in the longest beginning of the line that some line of right form, of any length, also begins with"
pub record Place (s : List ℕ) (n : ℕ) : Type 0 where
  pub within : n ≤ length s
  pub begins : RightBeginning (take n s)
  pub longest : (k : ℕ) → k ≤ length s → RightBeginning (take k s) → k ≤ n

-- ---- answers by form

-- a line's form: its derivation, or what that gives; or the place at which the form breaks
pub data Form (A : Type 0) : Type 0 where
  derived : A → Form A
  breaks_at : ℕ → Form A

-- a is the answer for the line s: where a tree derives s, the answer for that tree; where none does, the answer for the place at which its form breaks
pub record ByForm {A : Type 0} (s : List ℕ) (answer : Form Line → A) (a : A) : Type 0 where
  pub by_tree : (t : Line) → Derives t s → a ≡ answer (derived t)
  pub by_place : ((t : Line) → ¬ Derives t s) → (n : ℕ) → Place s n → a ≡ answer (breaks_at n)
