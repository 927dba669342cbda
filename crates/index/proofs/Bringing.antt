-- "the index brought up to date equals one built afresh": by what the old and the new line bear alone, and a look further only where the old line was its number's first.
-- Assumes nothing.
use mathlib.Core.Path.{◌≡◌, refl, sym, ap, ap₂, ◌∙◌}
use mathlib.Core.Bool.{Bool, true, false, cond}
use mathlib.Core.List.{List, [], ◌∷◌}
use Rattle.std.specs.Prelude.{Option, None, Some}
use Prim.Native.Nat.{ℕ, zero, suc, ◌+◌, ◌-◌, ◌≤◌}
use native.Mathlib.Omega.{arith}
use borrow.Author.Tests.{ne_eqb}
use Rattle.std.proofs.lemmas.Bool.Decides.{nat_tests}
use lib.ListN.{drop}
use Rattle.grammar.specs.Grammar.{Line}
use Rattle.grammar.specs.Derivation.{Form}
use Rattle.texts.specs.Ends.{Piece, pieces}
use Rattle.index.specs.Index.{borne, bears, Place, place, size, first_from, place_of, Entry, RisingFrom, find, IndexOf, built, line_at, start_at, with_line, line_of, text_with, unfit, replace, replace_afresh}
use Rattle.index.specs.Update.{is_at, up_to, moved, entered, brought, bring}
use Rattle.index.proofs.Entries.{put_rises, put_same, put_other}
use Rattle.index.proofs.Built.{built_is, only_index}
use Rattle.index.proofs.Halving.{seek_find}
use Rattle.index.proofs.Replaced.{Fits, fits, lines_with, same_place, replaced_alike, afresh}

-- ---- where a number's first line is, once line i is another

module _ (tree : List ℕ → Form Line) (m : ℕ) where
  first_beyond : (k at : ℕ) (ps : List Piece) (p : Place) → first_from tree m k at ps ≡ Some p → k ≤ p.line
  first_beyond k at [] p e = cc
  first_beyond k at (q ∷ ps) p e = grind (arith, nat_tests, first_beyond (suc k) (at + size q) ps p)

  not_up_to : (k at : ℕ) (ps : List Piece) → up_to k (first_from tree m (suc k) at ps) ≡ false
  not_up_to k at ps = grind (arith, nat_tests, first_beyond (suc k) at ps)

  module _ (old new : List ℕ) (f : Fits old new) where
    -- the new line bears it: that line, unless an earlier one does
    new_first : bears (borne tree new) m ≡ true → (i k at : ℕ) (ps : List Piece) → line_at i ps ≡ Some old
        → first_from tree m k at (with_line i new ps) ≡ cond (up_to (k + i) (first_from tree m k at ps)) (first_from tree m k at ps) (Some (place (k + i) (at + start_at i ps)))
    new_first b i k at [] e = cc
    new_first b zero k at (p ∷ ps) e = grind (arith, nat_tests, not_up_to k (at + size p) ps)
    new_first b (suc i) k at (p ∷ ps) e = grind (arith, nat_tests, new_first b i (suc k) (at + size p) ps)

    -- the old line bears it and the new one does not: the next line that does, where the old one was the first
    old_first : bears (borne tree new) m ≡ false → bears (borne tree old) m ≡ true → (i k at : ℕ) (ps : List Piece) → line_at i ps ≡ Some old
        → first_from tree m k at (with_line i new ps) ≡ cond (is_at (k + i) (first_from tree m k at ps)) (first_from tree m (suc (k + i)) (at + start_at (suc i) ps) (drop (suc i) ps)) (first_from tree m k at ps)
    old_first b d i k at [] e = cc
    old_first b d zero k at (p ∷ ps) e = grind (arith, nat_tests, f.long)
    old_first b d (suc i) k at (p ∷ ps) e = go (bears (borne tree p.line) m) (old_first b d i (suc k) (at + size p) ps e)
      where
        go : (t : Bool)
            → first_from tree m (suc k) (at + size p) (with_line i new ps)
            ≡ cond (is_at (suc k + i) (first_from tree m (suc k) (at + size p) ps)) (first_from tree m (suc (suc k + i)) (at + size p + start_at (suc i) ps) (drop (suc i) ps)) (first_from tree m (suc k) (at + size p) ps)
            → cond t (Some (place k at)) (first_from tree m (suc k) (at + size p) (with_line i new ps))
            ≡ cond (is_at (k + suc i) (cond t (Some (place k at)) (first_from tree m (suc k) (at + size p) ps))) (first_from tree m (suc (k + suc i)) (at + (size p + start_at (suc i) ps)) (drop (suc i) ps)) (cond t (Some (place k at)) (first_from tree m (suc k) (at + size p) ps))
        go true h = sym (ap (λ (t : Bool). cond t (first_from tree m (suc (k + suc i)) (at + (size p + start_at (suc i) ps)) (drop (suc i) ps)) (Some (place k at))) (ne_eqb k (k + suc i) (λ z. omega arith)))
        go false h =
            let a : suc k + i ≡ k + suc i = omega arith in
            let c : at + size p + start_at (suc i) ps ≡ at + (size p + start_at (suc i) ps) = omega arith in
            h ∙ ap₂ (λ (x y : ℕ). cond (is_at x (first_from tree m (suc k) (at + size p) ps)) (first_from tree m (suc x) y (drop (suc i) ps)) (first_from tree m (suc k) (at + size p) ps)) a c

-- ---- what is found in the entries then

entered_rises : (o : Option ℕ) (k at : ℕ) (es : List Entry) → RisingFrom 0 es → RisingFrom 0 (entered o k at es)
entered_rises None k at es r = r
entered_rises (Some n) k at es r = grind (arith, nat_tests, put_rises 0 n (Some (place k at)) es)

entered_finds : (o : Option ℕ) (m k at : ℕ) (es : List Entry) → RisingFrom 0 es
    → find m (entered o k at es) ≡ cond (bears o m) (cond (up_to k (find m es)) (find m es) (Some (place k at))) (find m es)
entered_finds None m k at es r = refl
entered_finds (Some n) m k at es r = grind (arith, nat_tests, seek_find 0 n es r, put_same 0 n (Some (place k at)) es r, put_other m n (Some (place k at)) es)

module _ (tree : List ℕ → Form Line) (new : Option ℕ) (k next : ℕ) (later : List Piece) (es : List Entry) (r : RisingFrom 0 es) where
  moved_rises : (o : Option ℕ) → RisingFrom 0 (moved tree o new k next later es)
  moved_rises None = r
  moved_rises (Some o) = grind (arith, nat_tests, put_rises 0 o (first_from tree o (suc k) next later) es)

  moved_finds : (o : Option ℕ) (m : ℕ)
      → find m (moved tree o new k next later es) ≡ cond (bears o m) (cond (bears new m) (find m es) (cond (is_at k (find m es)) (first_from tree m (suc k) next later) (find m es))) (find m es)
  moved_finds None m = refl
  moved_finds (Some o) m = grind (arith, nat_tests, seek_find 0 o es r, put_same 0 o (first_from tree o (suc k) next later) es r, put_other m o (first_from tree o (suc k) next later) es)

-- ---- the index of the new text

module _ (tree : List ℕ → Form Line) (text : List ℕ) (es : List Entry) (i : IndexOf tree text es) (j : ℕ) (old new : List ℕ) (e : line_at j (pieces text) ≡ Some old) (u : unfit old new ≡ false) where
  -- the entries, by line 1 + j
  entries : List Entry
  entries = entered (borne tree new) (1 + j) (0 + start_at j (pieces text)) (moved tree (borne tree old) (borne tree new) (1 + j) (0 + start_at (suc j) (pieces text)) (drop (suc j) (pieces text)) es)

  finds : (m : ℕ) → find m entries ≡ first_from tree m 1 0 (with_line j new (pieces text))
  unfolding entries place_of
  finds m =
      let f = fits old new u in
      let after = moved tree (borne tree old) (borne tree new) (1 + j) (0 + start_at (suc j) (pieces text)) (drop (suc j) (pieces text)) es in
      let r = moved_rises tree (borne tree new) (1 + j) (0 + start_at (suc j) (pieces text)) (drop (suc j) (pieces text)) es i.rising (borne tree old) in
      entered_finds (borne tree new) m (1 + j) (0 + start_at j (pieces text)) after r
      ∙ by f (bears (borne tree new) m) refl (bears (borne tree old) m) refl (find m after) (moved_finds tree (borne tree new) (1 + j) (0 + start_at (suc j) (pieces text)) (drop (suc j) (pieces text)) es i.rising (borne tree old) m)
    where
      told : find m es ≡ first_from tree m 1 0 (pieces text)
      told = i.answers m

      by : Fits old new → (t : Bool) → bears (borne tree new) m ≡ t → (s : Bool) → bears (borne tree old) m ≡ s → (x : Option Place)
          → x ≡ cond (bears (borne tree old) m) (cond (bears (borne tree new) m) (find m es) (cond (is_at (1 + j) (find m es)) (first_from tree m (suc (1 + j)) (0 + start_at (suc j) (pieces text)) (drop (suc j) (pieces text))) (find m es))) (find m es)
          → cond (bears (borne tree new) m) (cond (up_to (1 + j) x) x (Some (place (1 + j) (0 + start_at j (pieces text))))) x ≡ first_from tree m 1 0 (with_line j new (pieces text))
      by f true b true d x g =
          let y : x ≡ first_from tree m 1 0 (pieces text) = g ∙ rw (d, b) told in
          rw (b, y) (sym (new_first tree m old new f b j 1 0 (pieces text) e))
      by f true b false d x g =
          let y : x ≡ first_from tree m 1 0 (pieces text) = g ∙ rw d told in
          rw (b, y) (sym (new_first tree m old new f b j 1 0 (pieces text) e))
      by f false b true d x g =
          let y : x ≡ cond (is_at (1 + j) (first_from tree m 1 0 (pieces text))) (first_from tree m (suc (1 + j)) (0 + start_at (suc j) (pieces text)) (drop (suc j) (pieces text))) (first_from tree m 1 0 (pieces text)) =
          g ∙ rw (d, b, told) refl in
          rw b (y ∙ sym (old_first tree m old new f b d j 1 0 (pieces text) e))
      by f false b false d x g = rw b (g ∙ rw d (told ∙ sym (same_place tree m old new f d b j 1 0 (pieces text) e)))

  entries_are : IndexOf tree (text_with (suc j) new text) entries
  unfolding entries place_of
  entries_are = record {
    rising =
        entered_rises (borne tree new) (1 + j) (0 + start_at j (pieces text)) _
        (moved_rises tree (borne tree new) (1 + j) (0 + start_at (suc j) (pieces text)) (drop (suc j) (pieces text)) es i.rising (borne tree old));
    answers = λ m. finds m ∙ sym (ap (first_from tree m 1 0) (lines_with text j old new e (fits old new u)));
  }

  brought_entries : brought tree text es (suc j) old new ≡ entries
  unfolding entries
  brought_entries =
      let a : suc j - 1 ≡ j = omega arith in
      let k : suc j ≡ 1 + j = omega arith in
      let s : start_at j (pieces text) ≡ 0 + start_at j (pieces text) = omega arith in
      let n : start_at (suc j) (pieces text) ≡ 0 + start_at (suc j) (pieces text) = omega arith in
      ap (λ (x : ℕ). entered (borne tree new) (suc j) (start_at x (pieces text)) (moved tree (borne tree old) (borne tree new) (suc j) (start_at (suc j) (pieces text)) (drop (suc j) (pieces text)) es)) a
      ∙ ap₂ (λ (x y : ℕ). entered (borne tree new) (suc j) x (moved tree (borne tree old) (borne tree new) (suc j) y (drop (suc j) (pieces text)) es)) s n
      ∙ ap (λ (x : ℕ). entered (borne tree new) x (0 + start_at j (pieces text)) (moved tree (borne tree old) (borne tree new) x (0 + start_at (suc j) (pieces text)) (drop (suc j) (pieces text)) es)) k

  pub brought_index : IndexOf tree (text_with (suc j) new text) (brought tree text es (suc j) old new)
  brought_index = rw brought_entries entries_are

module _ (tree : List ℕ → Form Line) (text : List ℕ) (es : List Entry) (k : ℕ) (new : List ℕ) (i : IndexOf tree text es) where
  brought_afresh : (c : ℕ) (old : List ℕ) → line_of c text ≡ Some old → unfit old new ≡ false → brought tree text es c old new ≡ built tree (text_with c new text)
  brought_afresh zero old e u = cc
  brought_afresh (suc j) old e u = only_index tree (brought_index tree text es i j old new e u) (built_is tree (text_with (suc j) new text))

  -- where the entries are the text's index, the one brought up to date equals one built afresh
  pub bring_is : bring tree text es k new ≡ replace_afresh tree text es k new
  unfolding bring replace_afresh
  bring_is = replaced_alike (λ x' x''. brought tree text es k x' new) (λ x'. built tree) text es k new (λ old e u. brought_afresh k old e u)

  pub bring_same : bring tree text es k new ≡ replace tree text es k new
  bring_same = bring_is ∙ sym (afresh tree text es k new i)
