-- A text may be mended in parts, each of lines that a line feed has ended: the mended parts, one after the other, are the mended text, and so are their lists.
-- Assumes nothing.
use mathlib.Core.Path.{◌≡◌, refl, sym, ap, ◌∙◌}
use mathlib.Core.Bool.{Bool, true, false, cond}
use mathlib.Core.List.{List, [], ◌∷◌, ◌++◌, append_assoc}
use mathlib.Core.Logic.{◌⊎◌, inl, inr}
use Prim.Native.Nat.{ℕ, zero, suc, ◌+◌, ◌≤◌}
use native.Mathlib.Omega.{arith}
use borrow.Author.Tests.{eqb-true}
use lib.Dec.{eqb}
use lib.ListN.{length, get_or, take, drop, take-append-drop}
use lib.Seq.{take-suc}
use Rattle.grammar.specs.Bytes.{byte, bytes}
use Rattle.grammar.specs.Grammar.{Line}
use Rattle.grammar.specs.Derivation.{Form}
use Rattle.rules.specs.Frames.{without_return}
use Rattle.texts.specs.Ends.{Piece, piece, return_of, pieces_from, pieces, joined}
use Rattle.texts.proofs.Cutting.{pieces_byte}
use Rattle.mend.specs.Mend.{Note, unlisted, mended, unmended, mend, mend_pieces, mend_text, Entry, listed, list_from, list_of}
use Rattle.mend.specs.Joining.{ended_to, ended_lines}

pub ended_none : (s : List ℕ) (i : ℕ) → i ≤ 0 → 0 ≡ ended_to i s
ended_none s zero h = refl
ended_none s (suc k) h = absurd (omega arith)

pub ended_most : (s : List ℕ) (i : ℕ) → ended_to i s ≤ i
ended_most s zero = omega arith
ended_most s (suc i) = by (eqb (get_or s i 0) (byte "\n")) (ended_most s i)
  where
    by : (t : Bool) → ended_to i s ≤ i → cond t (suc i) (ended_to i s) ≤ suc i
    by true h = omega arith
    by false h = omega arith

-- ---- lines that a line feed has ended
abbrev Fed : List ℕ → Type 0
Fed s = (s ≡ []) ⊎ ((d : List ℕ) × (s ≡ d ++ bytes "\n"))

ended_fed : (s : List ℕ) (i : ℕ) → i ≤ length s → Fed (take (ended_to i s) s)
ended_fed s zero h = inl refl
ended_fed s (suc i) h = by (eqb (get_or s i 0) (byte "\n")) refl (ended_fed s i (omega arith))
  where
    by : (t : Bool) → eqb (get_or s i 0) (byte "\n") ≡ t → Fed (take (ended_to i s) s) → Fed (take (cond t (suc i) (ended_to i s)) s)
    by true e f = inr (take i s, take-suc s i 0 (omega arith) ∙ ap (λ (b : ℕ). take i s ++ b ∷ []) (eqb-true (get_or s i 0) (byte "\n") e))
    by false e f = f

-- a line feed ends a line, whatever comes behind it
parts : (l d rest : List ℕ) → pieces_from l (d ++ byte "\n" ∷ rest) ≡ pieces_from l (d ++ bytes "\n") ++ pieces_from [] rest
parts l [] rest = pieces_byte l (byte "\n") rest ∙ sym (ap (λ (x : List Piece). x ++ pieces_from [] rest) (pieces_byte l (byte "\n") []))
parts l (b ∷ d) rest =
    pieces_byte l b (d ++ byte "\n" ∷ rest) ∙ by (eqb b (byte "\n")) (parts [] d rest) (parts (l ++ b ∷ []) d rest)
    ∙ sym (ap (λ (x : List Piece). x ++ pieces_from [] rest) (pieces_byte l b (d ++ bytes "\n")))
  where
    by : (t : Bool) → pieces_from [] (d ++ byte "\n" ∷ rest) ≡ pieces_from [] (d ++ bytes "\n") ++ pieces_from [] rest
        → pieces_from (l ++ b ∷ []) (d ++ byte "\n" ∷ rest) ≡ pieces_from (l ++ b ∷ []) (d ++ bytes "\n") ++ pieces_from [] rest
        → cond t (piece (without_return l) (return_of l ++ bytes "\n") ∷ pieces_from [] (d ++ byte "\n" ∷ rest)) (pieces_from (l ++ b ∷ []) (d ++ byte "\n" ∷ rest))
        ≡ cond t (piece (without_return l) (return_of l ++ bytes "\n") ∷ pieces_from [] (d ++ bytes "\n")) (pieces_from (l ++ b ∷ []) (d ++ bytes "\n")) ++ pieces_from [] rest
    by true e f = ap (λ (x : List Piece). piece (without_return l) (return_of l ++ bytes "\n") ∷ x) e
    by false e f = f

fed_joins : (s rest : List ℕ) → Fed s → pieces (s ++ rest) ≡ pieces s ++ pieces rest
unfolding pieces
fed_joins s rest (inl e) = rw e
fed_joins s rest (inr (d, e)) = rw e (ap (pieces_from []) (append_assoc d (bytes "\n") rest) ∙ parts [] d rest)

-- the lines of two texts, one behind the other: what is not ended in the first goes with the second
pub pieces_join : (s more : List ℕ) → pieces (s ++ more) ≡ pieces (take (ended_lines s) s) ++ pieces (drop (ended_lines s) s ++ more)
pieces_join s more =
    ap (λ (x : List ℕ). pieces (x ++ more)) (sym (take-append-drop (ended_lines s) s))
    ∙ ap pieces (append_assoc (take (ended_lines s) s) (drop (ended_lines s) s) more)
    ∙ fed_joins (take (ended_lines s) s) (drop (ended_lines s) s ++ more) (ended_fed s (length s) (omega arith))

module _ (tree : List ℕ → Form Line) where
  mend_join : (ps qs : List Piece) → joined (mend_pieces tree (ps ++ qs)) ≡ joined (mend_pieces tree ps) ++ joined (mend_pieces tree qs)
  mend_join [] qs = refl
  mend_join (p ∷ ps) qs =
      let l = (mend tree p.line).line in
      ap (λ (x : List ℕ). l ++ (p.end ++ x)) (mend_join ps qs)
      ∙ ap (λ (x : List ℕ). l ++ x) (sym (append_assoc p.end (joined (mend_pieces tree ps)) (joined (mend_pieces tree qs))))
      ∙ sym (append_assoc l (p.end ++ joined (mend_pieces tree ps)) (joined (mend_pieces tree qs)))

  listed_join : (k : ℕ) (n : Note) (es fs : List Entry) → listed k n (es ++ fs) ≡ listed k n es ++ fs
  listed_join k unlisted es fs = refl
  listed_join k (mended i ks) es fs = refl
  listed_join k unmended es fs = refl

  list_join : (k : ℕ) (ps qs : List Piece) → list_from tree k (ps ++ qs) ≡ list_from tree k ps ++ list_from tree (k + length ps) qs
  list_join k [] qs = let z : k ≡ k + 0 = omega arith in ap (λ (x : ℕ). list_from tree x qs) z
  list_join k (p ∷ ps) qs =
      let z : suc k + length ps ≡ k + suc (length ps) = omega arith in
      ap (listed k (mend tree p.line).note) (list_join (suc k) ps qs ∙ ap (λ (x : ℕ). list_from tree (suc k) ps ++ list_from tree x qs) z)
      ∙ listed_join k (mend tree p.line).note (list_from tree (suc k) ps) (list_from tree (k + length (p ∷ ps)) qs)

  -- "line by line": of what has come, the ended lines may be mended, and what is left goes with what comes
  pub text_joins : (s more : List ℕ) → mend_text tree (s ++ more) ≡ mend_text tree (take (ended_lines s) s) ++ mend_text tree (drop (ended_lines s) s ++ more)
  unfolding mend_text
  text_joins s more = ap (λ (x : List Piece). joined (mend_pieces tree x)) (pieces_join s more) ∙ mend_join (pieces (take (ended_lines s) s)) (pieces (drop (ended_lines s) s ++ more))

  -- and so for the list, where the lines of the second part are counted on
  pub list_joins : (s more : List ℕ)
      → list_of tree (s ++ more) ≡ list_of tree (take (ended_lines s) s) ++ list_from tree (1 + length (pieces (take (ended_lines s) s))) (pieces (drop (ended_lines s) s ++ more))
  unfolding list_of
  list_joins s more = ap (list_from tree 1) (pieces_join s more) ∙ list_join 1 (pieces (take (ended_lines s) s)) (pieces (drop (ended_lines s) s ++ more))
