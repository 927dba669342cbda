-- There is one index of a text, and it is built.
-- Assumes nothing.
use mathlib.Core.Path.{◌≡◌, refl, sym, ◌∙◌}
use mathlib.Core.Bool.{cond}
use mathlib.Core.List.{List, [], ◌∷◌}
use Rattle.std.specs.Prelude.{Option, None, Some}
use Prim.Native.Nat.{ℕ, suc, ◌+◌, ◌≤◌, ◌<◌}
use native.Mathlib.Omega.{arith}
use borrow.Author.Tests.{lt-ltb, le-ltb}
use Rattle.std.proofs.lemmas.Bool.Decides.{nat_tests}
use lib.ListN.{length}
use Rattle.grammar.specs.Grammar.{Line}
use Rattle.grammar.specs.Derivation.{Form}
use Rattle.texts.specs.Ends.{Piece, pieces}
use Rattle.texts.specs.Form.{Tells, right}
use Rattle.texts.proofs.Rightness.{same_told}
use Rattle.index.specs.Index.{borne, bears, place, size, first_from, place_of, Entry, RisingFrom, find, IndexOf, noted, built_from, built, text_most, index_most, indexed, build, TextTooLong, TooManyNumbers, refused}
use Rattle.index.proofs.Entries.{put_rises, put_same, put_other, same_entries}

module _ (tree : List ℕ → Form Line) where
  built_rises : (k at : ℕ) (ps : List Piece) → RisingFrom 0 (built_from tree k at ps)
  built_rises k at [] = tt
  built_rises k at (p ∷ ps) = go (borne tree p.line) (built_rises (suc k) (at + size p) ps)
    where
      go : (o : Option ℕ) → RisingFrom 0 (built_from tree (suc k) (at + size p) ps) → RisingFrom 0 (noted o k at (built_from tree (suc k) (at + size p) ps))
      go None r = r
      go (Some n) r = put_rises 0 n (Some (place k at)) (built_from tree (suc k) (at + size p) ps) (omega arith) r

  built_finds : (n k at : ℕ) (ps : List Piece) → find n (built_from tree k at ps) ≡ first_from tree n k at ps
  built_finds n k at [] = refl
  built_finds n k at (p ∷ ps) = go (borne tree p.line) (built_rises (suc k) (at + size p) ps) (built_finds n (suc k) (at + size p) ps)
    where
      go : (o : Option ℕ) → RisingFrom 0 (built_from tree (suc k) (at + size p) ps) → find n (built_from tree (suc k) (at + size p) ps) ≡ first_from tree n (suc k) (at + size p) ps
          → find n (noted o k at (built_from tree (suc k) (at + size p) ps)) ≡ cond (bears o n) (Some (place k at)) (first_from tree n (suc k) (at + size p) ps)
      go None r h = h
      go (Some m) r h = grind (arith, nat_tests, put_same 0 m (Some (place k at)) (built_from tree (suc k) (at + size p) ps) r, put_other n m (Some (place k at)) (built_from tree (suc k) (at + size p) ps))

  -- what is built is the index
  pub built_is : (text : List ℕ) → IndexOf tree text (built tree text)
  unfolding built place_of
  built_is text = record { rising = built_rises 1 0 (pieces text); answers = λ n. built_finds n 1 0 (pieces text) }

  -- and there is no other
  pub only_index : {text : List ℕ} {es fs : List Entry} → IndexOf tree text es → IndexOf tree text fs → es ≡ fs
  only_index {text} {es} {fs} p q = same_entries 0 es fs p.rising q.rising (λ n. p.answers n ∙ sym (q.answers n))

  -- ---- "30 text too long, 31 more than 2,000 different numbers"; "none alters text or index"
  pub build_30 : (text : List ℕ) (es : List Entry) → text_most < length text → build tree text es ≡ refused TextTooLong text es
  unfolding build
  build_30 text es h = rw (lt-ltb text_most (length text) h)

  pub build_31 : (text : List ℕ) (es fs : List Entry) → length text ≤ text_most → IndexOf tree text fs → index_most < length fs → build tree text es ≡ refused TooManyNumbers text es
  unfolding build
  build_31 text es fs h i k =
      let e : built tree text ≡ fs = only_index (built_is text) i in
      rw (le-ltb text_most (length text) h, e, lt-ltb index_most (length fs) k)

  pub build_0 : (text : List ℕ) (es fs : List Entry) → length text ≤ text_most → IndexOf tree text fs → length fs ≤ index_most → build tree text es ≡ indexed text fs
  unfolding build
  build_0 text es fs h i k =
      let e : built tree text ≡ fs = only_index (built_is text) i in
      rw (le-ltb text_most (length text) h, e, le-ltb index_most (length fs) k)

-- ---- whoever tells the lines' forms, the index is the same
module _ {tree other : List ℕ → Form Line} (e : (s : List ℕ) → tree s ≡ other s) where
  same_borne : (s : List ℕ) → borne tree s ≡ borne other s
  unfolding borne right
  same_borne s = rw (e s)

  same_first : (n k at : ℕ) (ps : List Piece) → first_from tree n k at ps ≡ first_from other n k at ps
  same_first n k at [] = refl
  same_first n k at (p ∷ ps) = rw (same_borne p.line, same_first n (suc k) (at + size p) ps)

pub index_told : {tree other : List ℕ → Form Line} → Tells tree → Tells other → {text : List ℕ} {es : List Entry} → IndexOf tree text es → IndexOf other text es
unfolding place_of
index_told p q {text} i = record { rising = i.rising; answers = λ n. i.answers n ∙ same_first (same_told p q) n 1 0 (pieces text) }
