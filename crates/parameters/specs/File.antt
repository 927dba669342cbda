-- The form of a parameter file's line, as trees, what a tree writes, and when a tree derives a line. No reader is in it.
-- "lines as for frames": they are the `lines` of rules' Frames. The quoted sentences are request 8's.
-- Assumes nothing.
use Rattle.std.specs.Prelude.{◌≡◌, List, ◌++◌, ℕ, ◌≤◌, T, length}
use Rattle.std.proofs.Math.Option.{Option, none, some}
use Rattle.grammar.specs.Bytes.{all}
use Rattle.grammar.specs.Grammar.{Number, NumOk, write_number, digit}
use Rattle.grammar.specs.Derivation.{blank}

-- "digits, one or more blanks, a number by document 01's grammar"
pub record Entry : Type 0 where
  pub digits : List ℕ
  pub blanks : List ℕ
  pub value : Number

abbrev pub write_entry : Entry → List ℕ
write_entry e = e.digits ++ (e.blanks ++ write_number e.value)

pub record EntryOk (e : Entry) : Type 0 where
  pub digits : T (all digit e.digits)
  pub blanks : T (all blank e.blanks)
  pub some : 1 ≤ length e.digits
  pub apart : 1 ≤ length e.blanks
  pub number : NumOk e.value

-- the tree's leaves are as the rule asks, and the tree writes the line: nothing stands before, behind or between
pub record Derives (e : Entry) (s : List ℕ) : Type 0 where
  pub ok : EntryOk e
  pub writes : s ≡ write_entry e

-- o is the derivation of the line s, or none where there is none ("a malformed line")
pub record Form (s : List ℕ) (o : Option Entry) : Type 0 where
  pub by_tree : (e : Entry) → Derives e s → o ≡ some e
  pub by_none : ((e : Entry) → ¬ Derives e s) → o ≡ none

-- what tells every line's derivation, or that it has none
abbrev pub Tells : (List ℕ → Option Entry) → Type 0
Tells tree = (s : List ℕ) → Form s (tree s)
