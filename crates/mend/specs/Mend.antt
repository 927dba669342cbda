-- Request 13: a program's lines written anew. The quoted sentences are the request's. Right form is the grammar's: `tree` tells each line's derivation.
-- Assumes nothing.
use Rattle.std.specs.Prelude.{◌≡◌, Bool, true, false, cond, ◌&&◌, List, [], ◌∷◌, ◌++◌, ℕ, suc, eqb, leb, length, drop}
use Rattle.grammar.specs.Grammar.{Line}
use Rattle.grammar.specs.Derivation.{Form}
use Rattle.texts.specs.Form.{Tells, right}
use Rattle.texts.specs.Ends.{Piece, piece, pieces, joined}
use Rattle.mend.specs.Repairs.{emptied, unremarked, repaired}

abbrev pub same : List ℕ → List ℕ → Bool
same [] [] = true
same [] (y ∷ ys) = false
same (x ∷ xs) [] = false
same (x ∷ xs) (y ∷ ys) = eqb x y && same xs ys

-- "the first byte that differs, .. from 1": i is the number of the first byte of both
abbrev pub differs : ℕ → List ℕ → List ℕ → ℕ
differs i [] [] = 0
differs i [] (y ∷ ys) = i
differs i (x ∷ xs) [] = i
differs i (x ∷ xs) (y ∷ ys) = cond (eqb x y) (differs (suc i) xs ys) i

-- a repair's number, where it changes the line
abbrev pub applies : ℕ → List ℕ → List ℕ → List ℕ → List ℕ
applies k s r ks = cond (same s r) ks (k ∷ ks)

-- "which of the three": 1 the `%`, 2 the remark, 3 the nested comments
unfoldable pub which : List ℕ → List ℕ
which s = applies 1 s (emptied s) (applies 2 (emptied s) (unremarked s) (applies 3 (unremarked s) (repaired s) []))

-- what is listed of a line: nothing; the first byte that differs and which of the three; or that it is unmended
pub data Note : Type 0 where
  unlisted : Note
  mended : ℕ → List ℕ → Note
  unmended : Note

pub record Outcome : Type 0 where
  pub line : List ℕ
  pub note : Note

abbrev pub outcome : List ℕ → Note → Outcome
outcome l n = record { line = l; note = n }

-- "A line of right form and at most 256 bytes comes out unchanged and unlisted; one whose mended text is still wrong or longer than 256 bytes is kept as it was and
-- listed as unmended"
unfoldable pub mend : (List ℕ → Form Line) → List ℕ → Outcome
mend tree s = cond (right tree s) (outcome s unlisted) (cond (right tree (repaired s)) (outcome (repaired s) (mended (differs 1 s (repaired s)) (which s))) (outcome s unmended))

-- "A tool writes each line anew, its end kept"
abbrev pub mend_pieces : (List ℕ → Form Line) → List Piece → List Piece
mend_pieces tree [] = []
mend_pieces tree (p ∷ ps) = piece (mend tree p.line).line p.end ∷ mend_pieces tree ps

unfoldable pub mend_text : (List ℕ → Form Line) → List ℕ → List ℕ
mend_text tree text = joined (mend_pieces tree (pieces text))

-- "It lists the line and the first byte that differs, both from 1, and which of the three": k is the number of the line
pub record Entry : Type 0 where
  pub number : ℕ
  pub note : Note

abbrev pub listed : ℕ → Note → List Entry → List Entry
listed k unlisted es = es
listed k (mended i ks) es = record { number = k; note = mended i ks } ∷ es
listed k unmended es = record { number = k; note = unmended } ∷ es

abbrev pub list_from : (List ℕ → Form Line) → ℕ → List Piece → List Entry
list_from tree k [] = []
list_from tree k (p ∷ ps) = listed k (mend tree p.line).note (list_from tree (suc k) ps)

unfoldable pub list_of : (List ℕ → Form Line) → List ℕ → List Entry
list_of tree text = list_from tree 1 (pieces text)

-- "Refusals: 40 output space too small, nothing written". Else all is written, and what stands behind it in the space stays; the text has so many bytes and lines
pub record Written : Type 0 where
  pub number : ℕ
  pub filled : ℕ
  pub lines : ℕ
  pub out : List ℕ
  pub list : List Entry

abbrev pub nothing : List ℕ → Written
nothing out = record { number = 40; filled = 0; lines = 0; out = out; list = [] }

unfoldable pub mend_into : (List ℕ → Form Line) → List ℕ → List ℕ → Written
mend_into tree text out =
    let new = mend_text tree text in
    cond (leb (length new) (length out))
    (record { number = 0; filled = length new; lines = length (pieces text); out = new ++ drop (length new) out; list = list_of tree text })
    (nothing out)

-- the promise for a whole text: whatever tells every line's derivation, or that it has none, tells what is written and listed
abbrev pub Mends : List ℕ → List ℕ → Written → Type 0
Mends text out w = (tree : List ℕ → Form Line) → Tells tree → w ≡ mend_into tree text out
