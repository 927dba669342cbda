-- "Asking for a number gives that place, or `none` exactly if no such line bears it."
-- Assumes nothing.
use mathlib.Core.Path.{◌≡◌, refl, sym, ap, ◌∙◌}
use mathlib.Core.Bool.{Bool, true, false, cond}
use mathlib.Core.List.{List, [], ◌∷◌, ◌++◌, append_assoc}
use Rattle.std.specs.Prelude.{Option, None, Some}
use Prim.Native.Nat.{ℕ, zero, suc, ◌+◌, ◌≤◌, ◌<◌}
use native.Mathlib.Omega.{arith}
use borrow.Author.Tests.{eqb-true, eq-eqb}
use Rattle.std.proofs.lemmas.Bool.Decides.{nat_tests}
use lib.ListN.{length, drop, length-append}
use lib.Seq.{drop-append-add}
use Rattle.grammar.specs.Grammar.{Line, line, Mark, unlabelled, label, Item}
use Rattle.grammar.specs.Derivation.{Derives, Form, derived}
use Rattle.rules.specs.Meaning.{decimal}
use Rattle.texts.specs.Ends.{Piece, pieces, joined}
use Rattle.texts.specs.Form.{Tells, right}
use Rattle.texts.proofs.Cutting.{joined_is}
use Rattle.texts.proofs.Rightness.{right_is, right_only}
use Rattle.index.specs.Index.{labelled, borne, bears, Place, place, size, first_from, place_of, Entry, find, IndexOf, line_at, start_at}

-- line i of these, from 0, is of right form and at most 256 bytes and bears the number
abbrev pub Bears : (List ℕ → Form Line) → ℕ → ℕ → List Piece → Type 0
Bears tree n i ps = (s : List ℕ) × (line_at i ps ≡ Some s) × (borne tree s ≡ Some n)

bears_only : (o : Option ℕ) (n : ℕ) → bears o n ≡ true → o ≡ Some n
bears_only None n h = cc
bears_only (Some m) n h = ap Some (eqb-true m n h)

pub bears_is : (o : Option ℕ) (n : ℕ) → o ≡ Some n → bears o n ≡ true
bears_is o n h = ap (λ (x : Option ℕ). bears x n) h ∙ eq-eqb n n refl

-- a place that is the first of these lines
pub record FirstAt (tree : List ℕ → Form Line) (n k at : ℕ) (ps : List Piece) (p : Place) : Type 0 where
  pub index : ℕ
  pub line_is : p.line ≡ k + index
  pub start_is : p.start ≡ at + start_at index ps
  pub there : Bears tree n index ps
  pub none_before : (j : ℕ) → j < index → ¬ Bears tree n j ps

module _ (tree : List ℕ → Form Line) (n : ℕ) where
  later : (k at : ℕ) (q : Piece) (ps : List Piece) (p : Place) → bears (borne tree q.line) n ≡ false → FirstAt tree n (suc k) (at + size q) ps p → FirstAt tree n k at (q ∷ ps) p
  later k at q ps p e f = record {
    index = suc f.index;
    line_is = omega (arith, f.line_is);
    start_is = omega (arith, f.start_is);
    there = f.there;
    none_before = before;
  }
    where
      before : (j : ℕ) → j < suc f.index → ¬ Bears tree n j (q ∷ ps)
      before zero l b =
          let s : Some q.line ≡ Some b.0 = b.1 in
          let t : q.line ≡ b.0 = cc in
          let u : bears (borne tree q.line) n ≡ true = bears_is (borne tree q.line) n (ap (borne tree) t ∙ b.2) in
          cc
      before (suc j) l b = f.none_before j (omega arith) b

  first_at : (k at : ℕ) (ps : List Piece) (p : Place) → first_from tree n k at ps ≡ Some p → FirstAt tree n k at ps p
  first_at k at [] p h = cc
  first_at k at (q ∷ ps) p h = by (bears (borne tree q.line) n) refl h (λ g. first_at (suc k) (at + size q) ps p g)
    where
      by : (t : Bool) → bears (borne tree q.line) n ≡ t → cond t (Some (place k at)) (first_from tree n (suc k) (at + size q) ps) ≡ Some p
          → (first_from tree n (suc k) (at + size q) ps ≡ Some p → FirstAt tree n (suc k) (at + size q) ps p) → FirstAt tree n k at (q ∷ ps) p
      by true e g f =
          let r : place k at ≡ p = cc in
          record {
            index = 0;
            line_is = let x : k ≡ p.line = ap (λ (y : Place). y.line) r in omega arith;
            start_is = let x : at ≡ p.start = ap (λ (y : Place). y.start) r in omega arith;
            there = (q.line, refl, bears_only (borne tree q.line) n e);
            none_before = λ j l b. omega arith;
          }
      by false e g f = later k at q ps p e (f g)

  first_none : (k at : ℕ) (ps : List Piece) → first_from tree n k at ps ≡ None → (i : ℕ) → ¬ Bears tree n i ps
  first_none k at [] h i b = grind (arith, nat_tests)
  first_none k at (q ∷ ps) h zero b = grind (arith, nat_tests, bears_is (borne tree q.line) n)
  first_none k at (q ∷ ps) h (suc i) b = first_none (suc k) (at + size q) ps (grind (arith, nat_tests)) i b

  no_first : (k at : ℕ) (ps : List Piece) → ((i : ℕ) → ¬ Bears tree n i ps) → first_from tree n k at ps ≡ None
  no_first k at ps h = go (first_from tree n k at ps) refl
    where
      go : (o : Option Place) → first_from tree n k at ps ≡ o → o ≡ None
      go None e = refl
      go (Some p) e = let f = first_at k at ps p e in absurd (h f.index f.there)

module _ {tree : List ℕ → Form Line} {text : List ℕ} {es : List Entry} (i : IndexOf tree text es) where
  -- the place found is that of the first line that bears the number: line from 1, byte from 0
  pub found : (n : ℕ) (p : Place) → find n es ≡ Some p → FirstAt tree n 1 0 (pieces text) p
  unfolding place_of
  found n p h = first_at tree n 1 0 (pieces text) p (sym (i.answers n) ∙ h)

  -- `none` only if no such line bears it
  pub nowhere : (n : ℕ) → find n es ≡ None → (j : ℕ) → ¬ Bears tree n j (pieces text)
  unfolding place_of
  nowhere n h = first_none tree n 1 0 (pieces text) (sym (i.answers n) ∙ h)

  -- and if none does
  pub not_found : (n : ℕ) → ((j : ℕ) → ¬ Bears tree n j (pieces text)) → find n es ≡ None
  unfolding place_of
  not_found n h = i.answers n ∙ no_first tree n 1 0 (pieces text) h

-- ---- that first byte is where the line stands in the text
start_from : (i : ℕ) (ps : List Piece) (s : List ℕ) → line_at i ps ≡ Some s → (rest : List ℕ) × (drop (start_at i ps) (joined ps) ≡ s ++ rest)
start_from i [] s h = cc
start_from zero (p ∷ ps) s h = let e : p.line ≡ s = cc in (p.end ++ joined ps, rw e)
start_from (suc i) (p ∷ ps) s h =
    let w = start_from i ps s h in
    let l : length (p.line ++ p.end) ≡ size p = length-append p.line p.end in
    (w.0, ap (λ (x : List ℕ). drop (size p + start_at i ps) x) (sym (append_assoc p.line p.end (joined ps))) ∙ ap (λ (x : ℕ). drop (x + start_at i ps) (p.line ++ p.end ++ joined ps)) (sym l) ∙ drop-append-add (p.line ++ p.end) (joined ps) (start_at i ps) ∙ w.1)

pub stands : (text : List ℕ) (i : ℕ) (s : List ℕ) → line_at i (pieces text) ≡ Some s → (rest : List ℕ) × (drop (start_at i (pieces text)) text ≡ s ++ rest)
stands text i s h = let w = start_from i (pieces text) s h in (w.0, ap (drop (start_at i (pieces text))) (sym (joined_is text)) ∙ w.1)

-- ---- what a line bears, by its derivation
module _ {tree : List ℕ → Form Line} (told : Tells tree) where
  pub borne_is : {s : List ℕ} {sl : Mark} {ds : List ℕ} {is : List Item} → Derives (line sl (label ds) is) s → length s ≤ 256 → borne tree s ≡ Some (decimal 0 ds)
  unfolding borne
  borne_is {s} {sl} {ds} {is} d h = rw (right_is told d h, (told s).by_tree (line sl (label ds) is) d)

  pub borne_only : (s : List ℕ) (n : ℕ) → borne tree s ≡ Some n
      → (sl : Mark) × (ds : List ℕ) × (is : List Item) × Derives (line sl (label ds) is) s × (length s ≤ 256) × (n ≡ decimal 0 ds)
  unfolding borne
  borne_only s n h = by (right tree s) refl h
    where
      tree_of : (t : Line) → Derives t s → length s ≤ 256 → labelled (derived t) ≡ Some n
          → (sl : Mark) × (ds : List ℕ) × (is : List Item) × Derives (line sl (label ds) is) s × (length s ≤ 256) × (n ≡ decimal 0 ds)
      tree_of (line sl unlabelled is) d l e = cc
      tree_of (line sl (label ds) is) d l e = (sl, ds, is, d, l, (cc))

      by : (r : Bool) → right tree s ≡ r → cond r (labelled (tree s)) None ≡ Some n
          → (sl : Mark) × (ds : List ℕ) × (is : List Item) × Derives (line sl (label ds) is) s × (length s ≤ 256) × (n ≡ decimal 0 ds)
      by true e f = let w = right_only told s e in tree_of w.0.0 w.0.1 w.1 (ap labelled (sym ((told s).by_tree w.0.0 w.0.1)) ∙ f)
      by false e f = cc
