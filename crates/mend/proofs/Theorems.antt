-- Request 13's theorems.
-- Assumes nothing.
use mathlib.Core.Path.{◌≡◌, refl, sym, ap, ◌∙◌}
use mathlib.Core.Bool.{Bool, true, false, cond}
use mathlib.Core.List.{List, [], ◌∷◌, ◌++◌, map, append-nil}
use Prim.Native.Nat.{ℕ, suc, ◌≤◌, ◌<◌}
use native.Mathlib.Omega.{arith}
use borrow.Author.Tests.{eqb-true, eqb-false, le-leb, lt-leb}
use lib.Dec.{eqb}
use lib.ListN.{length, drop}
use Rattle.grammar.specs.Bytes.{byte, bytes}
use Rattle.grammar.specs.Grammar.{Line}
use Rattle.grammar.specs.Derivation.{Derives, Form}
use Rattle.texts.specs.Ends.{Piece, piece, pieces, joined}
use Rattle.texts.specs.Form.{Tells, right}
use Rattle.texts.proofs.Cutting.{unfed, Ended, fed, returned, Cut, none, last, next, last_of, last_is, next_is, pieces_cut}
use Rattle.texts.proofs.Rightness.{model, model_tells, same_told, right_is, right_only}
use Rattle.mend.specs.Repairs.{repaired}
use Rattle.mend.specs.Mend.{differs, which, Note, unlisted, mended, unmended, Outcome, outcome, mend, mend_pieces, mend_text, Entry, listed, list_from, list_of, Written, nothing, mend_into, Mends}
use Rattle.mend.proofs.Kept.{repaired_unfed, repaired_plain}

-- ---- one line

-- the three things that a line comes to
pub data Shape (tree : List ℕ → Form Line) (s : List ℕ) : Outcome → Type 0 where
  already : right tree s ≡ true → Shape tree s (outcome s unlisted)
  better : right tree s ≡ false → right tree (repaired s) ≡ true → Shape tree s (outcome (repaired s) (mended (differs 1 s (repaired s)) (which s)))
  beyond : right tree s ≡ false → right tree (repaired s) ≡ false → Shape tree s (outcome s unmended)

pub shape : (tree : List ℕ → Form Line) (s : List ℕ) → Shape tree s (mend tree s)
unfolding mend
shape tree s = by (right tree s) refl (right tree (repaired s)) refl
  where
    by : (a : Bool) → right tree s ≡ a → (b : Bool) → right tree (repaired s) ≡ b
        → Shape tree s (cond a (outcome s unlisted) (cond b (outcome (repaired s) (mended (differs 1 s (repaired s)) (which s))) (outcome s unmended)))
    by true e b f = already e
    by false e true f = better e f
    by false e false f = beyond e f

pub right_stays : (tree : List ℕ → Form Line) (s : List ℕ) → right tree s ≡ true → mend tree s ≡ outcome s unlisted
unfolding mend
right_stays tree s h = rw h

pub beyond_stays : (tree : List ℕ → Form Line) (s : List ℕ) → right tree s ≡ false → right tree (repaired s) ≡ false → mend tree s ≡ outcome s unmended
unfolding mend
beyond_stays tree s h k = rw (h, k)

-- "A line of right form and at most 256 bytes comes out unchanged and unlisted"
pub kept : {tree : List ℕ → Form Line} → Tells tree → {t : Line} {s : List ℕ} → Derives t s → length s ≤ 256 → mend tree s ≡ outcome s unlisted
kept {tree} told {t} {s} d h = right_stays tree s (right_is told d h)

-- a line that comes out changed is of right form and at most 256 bytes
pub mended_right : {tree : List ℕ → Form Line} → Tells tree → (s : List ℕ) → ¬ ((mend tree s).line ≡ s)
    → ((t : Line) × Derives t (mend tree s).line) × (length (mend tree s).line ≤ 256)
mended_right {tree} told s n = go (mend tree s) (shape tree s) n
  where
    go : (o : Outcome) → Shape tree s o → ¬ (o.line ≡ s) → ((t : Line) × Derives t o.line) × (length o.line ≤ 256)
    go o (already e) k = absurd (k refl)
    go o (better e f) k = right_only told (repaired s) f
    go o (beyond e f) k = absurd (k refl)

-- and is listed as mended, with the first byte that differs; a line that is not listed so comes out unchanged
pub data Said (s : List ℕ) : Outcome → Type 0 where
  changed : {o : Outcome} → ¬ (o.line ≡ s) → o.note ≡ mended (differs 1 s o.line) (which s) → Said s o
  unchanged : {o : Outcome} → o.line ≡ s → ((i : ℕ) (ks : List ℕ) → ¬ (o.note ≡ mended i ks)) → Said s o

pub said : (tree : List ℕ → Form Line) (s : List ℕ) → Said s (mend tree s)
said tree s = go (mend tree s) (shape tree s)
  where
    go : (o : Outcome) → Shape tree s o → Said s o
    go o (already e) = unchanged refl (λ i ks (p : unlisted ≡ mended i ks). let z : ◌≡◌ {A = ℕ} 0 1 = cc in omega arith)
    go o (better e f) = changed (λ (p : repaired s ≡ s). let q : right tree (repaired s) ≡ right tree s = ap (right tree) p in let z : ◌≡◌ {A = ℕ} 0 1 = cc in omega arith) refl
    go o (beyond e f) = unchanged refl (λ i ks (p : unmended ≡ mended i ks). let z : ◌≡◌ {A = ℕ} 0 1 = cc in omega arith)

-- what is listed of a line that is mended once more: only that it is unmended
abbrev pub relisted : Note → Note
relisted unlisted = unlisted
relisted (mended i ks) = unlisted
relisted unmended = unmended

-- "Mending the result again changes nothing"
pub again : (tree : List ℕ → Form Line) (s : List ℕ) → mend tree (mend tree s).line ≡ outcome (mend tree s).line (relisted (mend tree s).note)
again tree s = go (mend tree s) (shape tree s)
  where
    go : (o : Outcome) → Shape tree s o → mend tree o.line ≡ outcome o.line (relisted o.note)
    go o (already e) = right_stays tree s e
    go o (better e f) = right_stays tree (repaired s) f
    go o (beyond e f) = beyond_stays tree s e f

-- ---- the text

ended_still : (tree : List ℕ → Form Line) {p : Piece} → Ended p → Ended (piece (mend tree p.line).line p.end)
ended_still tree (fed {l} h u) = go (mend tree l) (shape tree l)
  where
    go : (o : Outcome) → Shape tree l o → Ended (piece o.line (bytes "\n"))
    go o (already e) = fed h u
    go o (better e f) = fed (repaired_unfed l h) (repaired_plain l u)
    go o (beyond e f) = fed h u
ended_still tree (returned {l} h) = go (mend tree l) (shape tree l)
  where
    go : (o : Outcome) → Shape tree l o → Ended (piece o.line (bytes "\r\n"))
    go o (already e) = returned h
    go o (better e f) = returned (repaired_unfed l h)
    go o (beyond e f) = returned h

unfed_still : (tree : List ℕ → Form Line) (l : List ℕ) → unfed l → unfed (mend tree l).line
unfed_still tree l h = go (mend tree l) (shape tree l)
  where
    go : (o : Outcome) → Shape tree l o → unfed o.line
    go o (already e) = h
    go o (better e f) = repaired_unfed l h
    go o (beyond e f) = h

-- a last line without a line end that is left without a byte is no line
abbrev unless : List ℕ → List Piece → List Piece → List Piece
unless [] ps qs = ps
unless (b ∷ l) ps qs = qs

abbrev pub tidy : List Piece → List Piece
tidy [] = []
tidy (p ∷ ps) = unless (p.line ++ p.end) (tidy ps) (p ∷ tidy ps)

unless_some : (l : List ℕ) (b : ℕ) (m : List ℕ) (ps qs : List Piece) → unless (l ++ b ∷ m) ps qs ≡ qs
unless_some [] b m ps qs = refl
unless_some (c ∷ l) b m ps qs = refl

unless_ended : {p : Piece} → Ended p → (ps qs : List Piece) → unless (p.line ++ p.end) ps qs ≡ qs
unless_ended (fed {l} h u) ps qs = unless_some l (byte "\n") [] ps qs
unless_ended (returned {l} h) ps qs = unless_some l (byte "\r") (bytes "\n") ps qs

-- the lines of the mended text are the mended lines, each with its end
lines_from : (tree : List ℕ → Form Line) {ps : List Piece} → Cut ps → pieces (joined (mend_pieces tree ps)) ≡ tidy (mend_pieces tree ps)
lines_from tree none = last_is [] refl
lines_from tree (last {b} {l} h) = ap pieces (append-nil (mend tree (b ∷ l)).line) ∙ last_is (mend tree (b ∷ l)).line (unfed_still tree (b ∷ l) h) ∙ go (mend tree (b ∷ l)).line
  where
    go : (m : List ℕ) → last_of m ≡ unless (m ++ []) [] (piece m [] ∷ [])
    go [] = refl
    go (c ∷ m) = refl
lines_from tree (next {p} {ps} e c) =
    let q = piece (mend tree p.line).line p.end in
    next_is (ended_still tree e) (joined (mend_pieces tree ps))
    ∙ ap (λ (x : List Piece). q ∷ x) (lines_from tree c)
    ∙ sym (unless_ended (ended_still tree e) (tidy (mend_pieces tree ps)) (q ∷ tidy (mend_pieces tree ps)))

pub mended_lines : (tree : List ℕ → Form Line) (text : List ℕ) → pieces (mend_text tree text) ≡ tidy (mend_pieces tree (pieces text))
unfolding mend_text
mended_lines tree text = lines_from tree (pieces_cut text)

abbrev pub end_of : Piece → List ℕ
end_of p = p.end

-- "its end kept"
ends_from : (tree : List ℕ → Form Line) (ps : List Piece) → map end_of (mend_pieces tree ps) ≡ map end_of ps
ends_from tree [] = refl
ends_from tree (p ∷ ps) = ap (λ (x : List (List ℕ)). p.end ∷ x) (ends_from tree ps)

pub ends_kept : (tree : List ℕ → Form Line) (text : List ℕ)
    → (pieces (mend_text tree text) ≡ tidy (mend_pieces tree (pieces text))) × (map end_of (mend_pieces tree (pieces text)) ≡ map end_of (pieces text))
ends_kept tree text = (mended_lines tree text, ends_from tree (pieces text))

-- once more over lines that are mended
again_from : (tree : List ℕ → Form Line) (ps : List Piece) → joined (mend_pieces tree (tidy (mend_pieces tree ps))) ≡ joined (mend_pieces tree ps)
again_from tree [] = refl
again_from tree (p ∷ ps) = go (mend tree p.line).line p.end (ap (λ (o : Outcome). o.line) (again tree p.line)) (again_from tree ps)
  where
    go : (m e : List ℕ) → (mend tree m).line ≡ m → joined (mend_pieces tree (tidy (mend_pieces tree ps))) ≡ joined (mend_pieces tree ps)
        → joined (mend_pieces tree (unless (m ++ e) (tidy (mend_pieces tree ps)) (piece m e ∷ tidy (mend_pieces tree ps)))) ≡ m ++ (e ++ joined (mend_pieces tree ps))
    go [] [] k h = h
    go [] (x ∷ e) k h = rw (k, h)
    go (c ∷ m) e k h = rw (k, h)

-- "Mending the result again changes nothing"
pub again_text : (tree : List ℕ → Form Line) (text : List ℕ) → mend_text tree (mend_text tree text) ≡ mend_text tree text
unfolding mend_text
again_text tree text = ap (λ (x : List Piece). joined (mend_pieces tree x)) (lines_from tree (pieces_cut text)) ∙ again_from tree (pieces text)

-- and lists only the unmended
abbrev pub still_listed : List Entry → List Entry
still_listed [] = []
still_listed (e ∷ es) = listed e.number (relisted e.note) (still_listed es)

still_one : (k : ℕ) (n : Note) (es : List Entry) → still_listed (listed k n es) ≡ listed k (relisted n) (still_listed es)
still_one k unlisted es = refl
still_one k (mended i ks) es = refl
still_one k unmended es = refl

-- a line that is left without a byte is not listed again
bare : (tree : List ℕ → Form Line) (b : ℕ) (l : List ℕ) → (mend tree (b ∷ l)).line ≡ [] → relisted (mend tree (b ∷ l)).note ≡ unlisted
bare tree b l h = go (mend tree (b ∷ l)) (shape tree (b ∷ l)) h
  where
    go : (o : Outcome) → Shape tree (b ∷ l) o → o.line ≡ [] → relisted o.note ≡ unlisted
    go o (already e) k = refl
    go o (better e f) k = refl
    go o (beyond e f) k = let j : b ∷ l ≡ [] = k in let z : ◌≡◌ {A = ℕ} 0 1 = cc in absurd (omega arith)

list_from_holds : (tree : List ℕ → Form Line) {ps : List Piece} → Cut ps → (k : ℕ) → list_from tree k (tidy (mend_pieces tree ps)) ≡ still_listed (list_from tree k ps)
list_from_holds tree none k = refl
list_from_holds tree (last {b} {l} h) k = go (mend tree (b ∷ l)).line refl (again tree (b ∷ l)) ∙ sym (still_one k (mend tree (b ∷ l)).note [])
  where
    go : (m : List ℕ) → (mend tree (b ∷ l)).line ≡ m → mend tree m ≡ outcome m (relisted (mend tree (b ∷ l)).note)
        → list_from tree k (unless (m ++ []) [] (piece m [] ∷ [])) ≡ listed k (relisted (mend tree (b ∷ l)).note) []
    go [] e f = rw (bare tree b l e)
    go (c ∷ m) e f = rw f
list_from_holds tree (next {p} {ps} e c) k =
    let q = piece (mend tree p.line).line p.end in
    ap (list_from tree k) (unless_ended (ended_still tree e) (tidy (mend_pieces tree ps)) (q ∷ tidy (mend_pieces tree ps)))
    ∙ ap (λ (o : Outcome). listed k o.note (list_from tree (suc k) (tidy (mend_pieces tree ps)))) (again tree p.line)
    ∙ ap (listed k (relisted (mend tree p.line).note)) (list_from_holds tree c (suc k))
    ∙ sym (still_one k (mend tree p.line).note (list_from tree (suc k) ps))

pub again_list : (tree : List ℕ → Form Line) (text : List ℕ) → list_of tree (mend_text tree text) ≡ still_listed (list_of tree text)
unfolding list_of mend_text
again_list tree text = ap (list_from tree 1) (lines_from tree (pieces_cut text)) ∙ list_from_holds tree (pieces_cut text) 1

-- ---- the number 40, and that there is one result

-- "40 output space too small, nothing written"
pub too_small : (tree : List ℕ → Form Line) (text out : List ℕ) → length out < length (mend_text tree text)
    → mend_into tree text out ≡ nothing out
unfolding mend_into
too_small tree text out h = rw (lt-leb (length (mend_text tree text)) (length out) h)

-- and otherwise all of it is written, and the space behind it stays as it was
pub large_enough : (tree : List ℕ → Form Line) (text out : List ℕ) → length (mend_text tree text) ≤ length out
    → mend_into tree text out
    ≡ record { number = 0; filled = length (mend_text tree text); lines = length (pieces text); out = mend_text tree text ++ drop (length (mend_text tree text)) out; list = list_of tree text }
unfolding mend_into
large_enough tree text out h = rw (le-leb (length (mend_text tree text)) (length out) h)

-- the promise can be kept, and in one way
tree_mend : {tree other : List ℕ → Form Line} → ((s : List ℕ) → tree s ≡ other s) → (s : List ℕ) → mend tree s ≡ mend other s
unfolding mend right
tree_mend e s = rw (e s, e (repaired s))

pieces_mend : {tree other : List ℕ → Form Line} → ((s : List ℕ) → tree s ≡ other s) → (ps : List Piece) → mend_pieces tree ps ≡ mend_pieces other ps
pieces_mend e [] = refl
pieces_mend e (p ∷ ps) = rw (tree_mend e p.line, pieces_mend e ps)

list_mend : {tree other : List ℕ → Form Line} → ((s : List ℕ) → tree s ≡ other s) → (k : ℕ) (ps : List Piece) → list_from tree k ps ≡ list_from other k ps
list_mend e k [] = refl
list_mend e k (p ∷ ps) = rw (tree_mend e p.line, list_mend e (suc k) ps)

into_mend : {tree other : List ℕ → Form Line} → ((s : List ℕ) → tree s ≡ other s) → (text out : List ℕ) → mend_into tree text out ≡ mend_into other text out
unfolding mend_into mend_text list_of
into_mend e text out = rw (pieces_mend e (pieces text), list_mend e 1 (pieces text))

pub one_mends : (text out : List ℕ) → Mends text out (mend_into model text out)
one_mends text out tree told = into_mend (same_told model_tells told) text out

pub only : (text out : List ℕ) (v w : Written) → Mends text out v → Mends text out w → v ≡ w
only text out v w p q = p model model_tells ∙ sym (q model model_tells)

-- ---- the first byte that differs

-- the bytes before it are the same in both, and it is not: i is the number of the first byte of both
pub data First : ℕ → ℕ → List ℕ → List ℕ → Type 0 where
  here : {i x y : ℕ} {xs ys : List ℕ} → ¬ (x ≡ y) → First i i (x ∷ xs) (y ∷ ys)
  longer : {i x : ℕ} {xs : List ℕ} → First i i (x ∷ xs) []
  shorter : {i y : ℕ} {ys : List ℕ} → First i i [] (y ∷ ys)
  later : {i n x : ℕ} {xs ys : List ℕ} → First (suc i) n xs ys → First i n (x ∷ xs) (x ∷ ys)

pub first_differs : (i : ℕ) (s r : List ℕ) → ¬ (s ≡ r) → First i (differs i s r) s r
first_differs i [] [] h = absurd (h refl)
first_differs i [] (y ∷ ys) h = shorter
first_differs i (x ∷ xs) [] h = longer
first_differs i (x ∷ xs) (y ∷ ys) h = by (eqb x y) refl (λ k. first_differs (suc i) xs ys k)
  where
    by : (t : Bool) → eqb x y ≡ t → (¬ (xs ≡ ys) → First (suc i) (differs (suc i) xs ys) xs ys) → First i (cond t (differs (suc i) xs ys) i) (x ∷ xs) (y ∷ ys)
    by true e f = let q : x ≡ y = eqb-true x y e in rw q (later (f (λ p. h (rw (q, p)))))
    by false e f = here (eqb-false x y e)
