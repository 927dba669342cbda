-- "When one line is replaced by another of equal length without a line end, the index brought up to date equals one built afresh."
-- Assumes nothing.
use mathlib.Core.Path.{◌≡◌, refl, sym, ap, ◌∙◌}
use mathlib.Core.Bool.{Bool, true, false, cond, not, ◌||◌}
use mathlib.Core.List.{List, [], ◌∷◌, ◌++◌, append_assoc}
use Rattle.std.specs.Prelude.{Option, None, Some}
use Prim.Native.Nat.{ℕ, zero, suc, ◌+◌, ◌≤◌, ◌<◌}
use native.Mathlib.Omega.{arith}
use borrow.Author.Tests.{eqb-true, eqb-false, ne_eqb, not-false, lt-ltb, le-ltb}
use lib.Dec.{eqb, ltb}
use Rattle.std.proofs.lemmas.Bool.Decides.{nat_tests}
use lib.ListN.{length, take, drop, length-append}
use lib.Seq.{drop_at, take-append-add, drop-append-add}
use Rattle.grammar.specs.Bytes.{byte, among}
use Rattle.grammar.specs.Grammar.{Line}
use Rattle.grammar.specs.Derivation.{Form}
use Rattle.rules.specs.Frames.{without_return}
use Rattle.texts.specs.Ends.{Piece, piece, pieces, joined}
use Rattle.texts.proofs.Cutting.{unfed, Ended, fed, returned, Cut, last, next, cut_again, pieces_cut, joined_is}
use Rattle.texts.proofs.Cutting.{none as no_lines}
use Rattle.index.specs.Index.{borne, built, bears, size, first_from, place_of, Entry, RisingFrom, find, IndexOf, settled, text_most, index_most, Indexed, indexed, line_at, start_at, with_line, line_of, text_with, unfit, limited, swapped, replace_by, replace, replace_afresh, TextTooLong, TooManyNumbers, NoSuchLine, UnfitLine, refused}
use Rattle.index.proofs.Entries.{put_rises, put_same, put_other}
use Rattle.index.proofs.Built.{built_is, only_index}

or_first : (a b : Bool) → (a || b) ≡ false → a ≡ false
or_first a b e = grind (arith, nat_tests)

or_second : (a b : Bool) → (a || b) ≡ false → b ≡ false
or_second a b e = grind (arith, nat_tests)

-- ---- the lines of the new text

no_return : (s : List ℕ) → among (byte "\r") s ≡ false → without_return s ≡ s
no_return [] h = refl
no_return (b ∷ []) h =
    let n : eqb b (byte "\r") ≡ false = ne_eqb b (byte "\r") (λ e. eqb-false (byte "\r") b (or_first (eqb (byte "\r") b) false h) (sym e)) in
    rw n
no_return (b ∷ c ∷ s) h = ap (λ (t : List ℕ). b ∷ t) (no_return (c ∷ s) (or_second (eqb (byte "\r") b) (among (byte "\r") (c ∷ s)) h))

-- a line may stand in the place of another
pub record Fits (old new : List ℕ) : Type 0 where
  pub long : length new ≡ length old
  pub feedless : unfed new
  pub plain : without_return new ≡ new

pub fits : (old new : List ℕ) → unfit old new ≡ false → Fits old new
fits old new h =
    let a = eqb (length new) (length old) in
    let b = among (byte "\n") new in
    let c = among (byte "\r") new in
    let r : (b || c) ≡ false = or_second (not a) (b || c) h in
    record {
      long = eqb-true (length new) (length old) (not-false a (or_first (not a) (b || c) h));
      feedless = or_first b c r;
      plain = no_return new (or_second b c r);
    }

ended_with : {p : Piece} {old new : List ℕ} → Ended p → Fits old new → Ended (piece new p.end)
ended_with (fed h u) f = fed f.feedless f.plain
ended_with (returned h) f = returned f.feedless

last_with : (b : ℕ) (l old new : List ℕ) → Some (b ∷ l) ≡ Some old → Fits old new → Cut (piece new [] ∷ [])
last_with b l old [] e f = let q : b ∷ l ≡ old = cc in absurd (omega (arith, f.long, ap length q))
last_with b l old (c ∷ new) e f = last f.feedless

cut_with : {ps : List Piece} → Cut ps → (i : ℕ) (old new : List ℕ) → line_at i ps ≡ Some old → Fits old new → Cut (with_line i new ps)
cut_with no_lines i old new e f = cc
cut_with (last {b} {l} h) zero old new e f = last_with b l old new e f
cut_with (last {b} {l} h) (suc i) old new e f = cc
cut_with (next p c) zero old new e f = next (ended_with p f) c
cut_with (next p c) (suc i) old new e f = next p (cut_with c i old new e f)

pub lines_with : (text : List ℕ) (i : ℕ) (old new : List ℕ) → line_at i (pieces text) ≡ Some old → Fits old new
    → pieces (joined (with_line i new (pieces text))) ≡ with_line i new (pieces text)
lines_with text i old new e f = cut_again (cut_with (pieces_cut text) i old new e f)

-- ---- a number that neither line bears keeps its place
module _ (tree : List ℕ → Form Line) (m : ℕ) (old new : List ℕ) (f : Fits old new) (a : bears (borne tree old) m ≡ false) (b : bears (borne tree new) m ≡ false) where
  pub same_place : (i k at : ℕ) (ps : List Piece) → line_at i ps ≡ Some old → first_from tree m k at (with_line i new ps) ≡ first_from tree m k at ps
  same_place i k at [] e = refl
  same_place zero k at (p ∷ ps) e = grind (arith, nat_tests, f.long)
  same_place (suc i) k at (p ∷ ps) e = grind (arith, nat_tests, same_place i (suc k) (at + size p) ps)

-- ---- the places of what the lines bear are put right
module _ (tree : List ℕ → Form Line) (text : List ℕ) where
  settled_rises : (o : Option ℕ) (es : List Entry) → RisingFrom 0 es → RisingFrom 0 (settled tree text o es)
  settled_rises None es r = r
  settled_rises (Some n) es r = put_rises 0 n (place_of tree text n) es (omega arith) r

  settled_finds : (o : Option ℕ) (es : List Entry) (m : ℕ) → RisingFrom 0 es → find m (settled tree text o es) ≡ cond (bears o m) (place_of tree text m) (find m es)
  settled_finds None es m r = refl
  settled_finds (Some n) es m r = grind (arith, nat_tests, put_same 0 n (place_of tree text n) es r, put_other m n (place_of tree text n) es)

  -- entries that are right but for two numbers are right when those are settled
  settled_is : (o q : Option ℕ) (es : List Entry) → RisingFrom 0 es → ((m : ℕ) → bears o m ≡ false → bears q m ≡ false → find m es ≡ place_of tree text m)
      → IndexOf tree text (settled tree text o (settled tree text q es))
  settled_is o q es r h = record { rising = settled_rises o (settled tree text q es) (settled_rises q es r); answers = said }
    where
      said : (m : ℕ) → find m (settled tree text o (settled tree text q es)) ≡ place_of tree text m
      said m = grind (arith, nat_tests, settled_finds o (settled tree text q es) m (settled_rises q es r), settled_finds q es m r, h m)

module _ (tree : List ℕ → Form Line) (text : List ℕ) (es : List Entry) (k : ℕ) (new : List ℕ) where
  -- the index as `replace` brings it up to date
  abbrev pub updated : List ℕ → List Entry
  updated old = settled tree (text_with k new text) (borne tree old) (settled tree (text_with k new text) (borne tree new) es)

-- is the new text's index
pub updated_is : (tree : List ℕ → Form Line) (text : List ℕ) (es : List Entry) (k : ℕ) (old new : List ℕ) → IndexOf tree text es → line_of k text ≡ Some old → unfit old new ≡ false
    → IndexOf tree (text_with k new text) (updated tree text es k new old)
unfolding place_of
updated_is tree text es zero old new i e u = cc
updated_is tree text es (suc j) old new i e u = settled_is tree (text_with (suc j) new text) (borne tree old) (borne tree new) es i.rising stays
  where
    stays : (m : ℕ) → bears (borne tree old) m ≡ false → bears (borne tree new) m ≡ false → find m es ≡ place_of tree (joined (with_line j new (pieces text))) m
    stays m a b =
        let f = fits old new u in
        i.answers m ∙ sym (same_place tree m old new f a b j 1 0 (pieces text) e) ∙ ap (first_from tree m 1 0) (sym (lines_with text j old new e f))

-- ---- and equals one built afresh

pub replaced_alike : (f g : List ℕ → List ℕ → List Entry) (text : List ℕ) (es : List Entry) (k : ℕ) (new : List ℕ)
    → ((old : List ℕ) → line_of k text ≡ Some old → unfit old new ≡ false → f old (text_with k new text) ≡ g old (text_with k new text))
    → replace_by f text es k new ≡ replace_by g text es k new
replaced_alike f g text es k new h = ap (cond (ltb text_most (length text)) (refused TextTooLong text es)) (go (line_of k text) refl)
  where
    go : (o : Option (List ℕ)) → line_of k text ≡ o → swapped f text es k new o ≡ swapped g text es k new o
    go None e = refl
    go (Some old) e = by (unfit old new) refl
      where
        by : (t : Bool) → unfit old new ≡ t
            → cond t (refused UnfitLine text es) (limited text es (text_with k new text) (f old (text_with k new text))) ≡ cond t (refused UnfitLine text es) (limited text es (text_with k new text) (g old (text_with k new text)))
        by true u = refl
        by false u = ap (limited text es (text_with k new text)) (h old e u)

-- "the index brought up to date equals one built afresh"
pub afresh : (tree : List ℕ → Form Line) (text : List ℕ) (es : List Entry) (k : ℕ) (new : List ℕ) → IndexOf tree text es → replace tree text es k new ≡ replace_afresh tree text es k new
unfolding replace replace_afresh
afresh tree text es k new i = replaced_alike (λ x' x''. settled tree x'' (borne tree x') (settled tree x'' (borne tree new) es)) (λ x'. built tree) text es k new (λ old e u. only_index tree (updated_is tree text es k old new i e u) (built_is tree (text_with k new text)))

-- ---- "30 .., 32 .., 33 .., in the order 30, 32, 33, 31; none alters text or index"
module _ (tree : List ℕ → Form Line) (text : List ℕ) (es : List Entry) (k : ℕ) (new : List ℕ) where
  pub replace_30 : text_most < length text → replace tree text es k new ≡ refused TextTooLong text es
  unfolding replace
  replace_30 h = rw (lt-ltb text_most (length text) h)

  pub replace_32 : length text ≤ text_most → line_of k text ≡ None → replace tree text es k new ≡ refused NoSuchLine text es
  unfolding replace
  replace_32 h e = rw (le-ltb text_most (length text) h, e)

  module _ (h : length text ≤ text_most) (old : List ℕ) (e : line_of k text ≡ Some old) where
    pub replace_33 : unfit old new ≡ true → replace tree text es k new ≡ refused UnfitLine text es
    unfolding replace
    replace_33 u = rw (le-ltb text_most (length text) h, e, u)

    module _ (u : unfit old new ≡ false) (i : IndexOf tree text es) (fs : List Entry) (j : IndexOf tree (text_with k new text) fs) where
      pub replace_31 : index_most < length fs → replace tree text es k new ≡ refused TooManyNumbers text es
      unfolding replace
      replace_31 l =
          let q : updated tree text es k new old ≡ fs = only_index tree (updated_is tree text es k old new i e u) j in
          rw (le-ltb text_most (length text) h, e, u, q, lt-ltb index_most (length fs) l)

      pub replace_0 : length fs ≤ index_most → replace tree text es k new ≡ indexed (text_with k new text) fs
      unfolding replace
      replace_0 l =
          let q : updated tree text es k new old ≡ fs = only_index tree (updated_is tree text es k old new i e u) j in
          rw (le-ltb text_most (length text) h, e, u, q, le-ltb index_most (length fs) l)

-- "32 the replacement's line doesn't exist": there is no line 0, and none behind the last
pub line_none : (i : ℕ) (ps : List Piece) → length ps ≤ i → line_at i ps ≡ None
line_none i [] h = refl
line_none zero (p ∷ ps) h = absurd (omega arith)
line_none (suc i) (p ∷ ps) h = line_none i ps (omega arith)

pub line_some : (i : ℕ) (ps : List Piece) → i < length ps → (s : List ℕ) × (line_at i ps ≡ Some s)
line_some i [] h = absurd (omega arith)
line_some zero (p ∷ ps) h = (p.line, refl)
line_some (suc i) (p ∷ ps) h = line_some i ps (omega arith)

-- after any call the entries are the index of the text
abbrev pub Keeps : (List ℕ → Form Line) → Indexed → Type 0
Keeps tree x = IndexOf tree x.text x.entries

pub stays_index : (tree : List ℕ → Form Line) (text : List ℕ) (es : List Entry) (k : ℕ) (new : List ℕ) → IndexOf tree text es → Keeps tree (replace tree text es k new)
unfolding replace
stays_index tree text es k new i = by (ltb text_most (length text)) _ (go (line_of k text) refl)
  where
    by : (t : Bool) (x : Indexed) → Keeps tree x → Keeps tree (cond t (refused TextTooLong text es) x)
    by true x h = i
    by false x h = h

    go : (o : Option (List ℕ)) → line_of k text ≡ o → Keeps tree (swapped (λ old text'. settled tree text' (borne tree old) (settled tree text' (borne tree new) es)) text es k new o)
    go None e = i
    go (Some old) e = at (unfit old new) refl (ltb index_most (length (updated tree text es k new old)))
      where
        at : (t : Bool) → unfit old new ≡ t → (u : Bool)
            → Keeps tree (cond t (refused UnfitLine text es) (cond u (refused TooManyNumbers text es) (indexed (text_with k new text) (updated tree text es k new old))))
        at true h u = i
        at false h true = i
        at false h false = updated_is tree text es k old new i e h

-- ---- the new text: the old one with the new line's bytes in the place of the old line's
whole_size : (p : Piece) → length (p.line ++ p.end) ≡ size p
whole_size p = length-append p.line p.end

bytes_from : (i : ℕ) (ps : List Piece) (old new : List ℕ) → line_at i ps ≡ Some old → length new ≡ length old
    → joined (with_line i new ps) ≡ take (start_at i ps) (joined ps) ++ (new ++ drop (start_at i ps + length new) (joined ps))
bytes_from i [] old new e l = cc
bytes_from zero (p ∷ ps) old new e l =
    let q : p.line ≡ old = cc in
    let n : length p.line ≡ 0 + length new = omega (arith, ap length q) in
    ap (λ (x : List ℕ). new ++ x) (sym (drop_at p.line (p.end ++ joined ps) (0 + length new) n))
bytes_from (suc i) (p ∷ ps) old new e l =
    let x = p.line ++ p.end in
    let s = start_at i ps in
    let j = joined ps in
    let a : p.line ++ (p.end ++ j) ≡ x ++ j = sym (append_assoc p.line p.end j) in
    let b : take (size p + s) (p.line ++ (p.end ++ j)) ≡ x ++ take s j =
    ap (take (size p + s)) a ∙ ap (λ (n : ℕ). take (n + s) (x ++ j)) (sym (whole_size p)) ∙ take-append-add x j s in
    let m : size p + s + length new ≡ length x + (s + length new) = omega (arith, whole_size p) in
    let c : drop (size p + s + length new) (p.line ++ (p.end ++ j)) ≡ drop (s + length new) j = ap (drop (size p + s + length new)) a ∙ ap (λ (n : ℕ). drop n (x ++ j)) m ∙ drop-append-add x j (s + length new) in
    sym (append_assoc p.line p.end (joined (with_line i new ps)))
    ∙ ap (λ (y : List ℕ). x ++ y) (bytes_from i ps old new e l)
    ∙ sym (append_assoc x (take s j) (new ++ drop (s + length new) j))
    ∙ ap (λ (y : List ℕ). y ++ (new ++ drop (s + length new) j)) (sym b)
    ∙ ap (λ (y : List ℕ). take (size p + s) (p.line ++ (p.end ++ j)) ++ (new ++ y)) (sym c)

pub bytes_with : (text : List ℕ) (i : ℕ) (old new : List ℕ) → line_at i (pieces text) ≡ Some old → length new ≡ length old
    → text_with (suc i) new text ≡ take (start_at i (pieces text)) text ++ (new ++ drop (start_at i (pieces text) + length new) text)
bytes_with text i old new e l =
    bytes_from i (pieces text) old new e l
    ∙ ap (λ (x : List ℕ). take (start_at i (pieces text)) x ++ (new ++ drop (start_at i (pieces text) + length new) x)) (joined_is text)
