-- All lines put one after the other: the space holds the mended text, the other one the list, and the counts are theirs.
-- Assumes nothing.
use mathlib.Core.Path.{◌≡◌, refl, sym, ap, subst, ◌∙◌}
use mathlib.Core.Bool.{Bool, true, false, cond}
use mathlib.Core.List.{List, [], ◌∷◌, ◌++◌, append_assoc}
use Prim.Native.Nat.{ℕ, suc, ◌+◌, ◌-◌, ◌≤◌, ◌<◌}
use native.Mathlib.Omega.{arith}
use borrow.Author.Tests.{ltb-true, ltb-false, lt-ltb, le-ltb, leb-true, le-leb}
use lib.Dec.{ltb}
use lib.ListN.{length, take, drop, length-append, length-drop, take-append-drop}
use lib.Seq.{take_at, drop_at, drop-drop}
use Rattle.std.specs.Prelude.{Ok, Err}
use Rattle.grammar.specs.Grammar.{Line}
use Rattle.grammar.specs.Derivation.{Form}
use Rattle.texts.specs.Form.{Tells}
use Rattle.texts.specs.Ends.{Piece, pieces, joined}
use Rattle.texts.proofs.Rightness.{model, model_tells}
use Rattle.mend.specs.Mend.{Note, unlisted, mended, unmended, mend, mend_pieces, mend_text, Entry, listed, list_from, list_of, mend_into}
use Rattle.mend.specs.Text.{is_listed, numbers_of, entered, laid_at, Entered, enters, enter, noting, Stand, stand, put_piece, put_pieces, standing, Fitting, RoomFor, Puts, PutsAll, told, leaves_text, MendsText}
use Rattle.mend.specs.Line.{no_space}
use Rattle.mend.specs.declared.whole.Held.{Held}
use Rattle.mend.proofs.Putting.{laid_front_long, laid_long, laid_twice}
use Rattle.mend.proofs.Fitting.{first_long}
use Rattle.texts.proofs.Walking.{pieces_most}

-- ---- an entry in its space
-- where there is no room for one, there is none for more
entered_none : (es : List Entry) (space : List ℕ) → length space < 3 → entered es space ≡ space
entered_none [] space h = refl
entered_none (e ∷ es) space h = rw (lt-ltb (length space) 3 h)

entry : ℕ → Note → Entry
entry k n = record { number = k; note = n }

-- the entries from one on, laid behind those before it
module _ (k : ℕ) (n : Note) (es : List Entry) (used : ℕ) (list : List ℕ) (h : used ≤ length list) where
  -- what the space holds in the end, after this line's entry
  abbrev pub later : Entered → List ℕ
  later e = take e.used e.list ++ entered es (drop e.used e.list)

  laid_entry : used + 3 ≤ length list
      → later (enters (used + 3) (laid_at list used (numbers_of k n))) ≡ take used list ++ (numbers_of k n ++ entered es (drop 3 (drop used list)))
  laid_entry r =
      let f = laid_front_long list (numbers_of k n) used r in
      let a : laid_at list used (numbers_of k n) ≡ take used list ++ numbers_of k n ++ drop (used + 3) list = sym (append_assoc (take used list) (numbers_of k n) (drop (used + 3) list)) in
      let b : take (used + 3) (laid_at list used (numbers_of k n)) ≡ take used list ++ numbers_of k n = ap (take (used + 3)) a ∙ take_at (take used list ++ numbers_of k n) (drop (used + 3) list) (used + 3) f in
      let c : drop (used + 3) (laid_at list used (numbers_of k n)) ≡ drop 3 (drop used list) =
      ap (drop (used + 3)) a ∙ drop_at (take used list ++ numbers_of k n) (drop (used + 3) list) (used + 3) f ∙ sym (drop-drop 3 used list) in
      rw (b, c) (append_assoc (take used list) (numbers_of k n) (entered es (drop 3 (drop used list))))

  enter_later : later (enter list used (numbers_of k n)) ≡ take used list ++ entered (entry k n ∷ es) (drop used list)
  unfolding enter entry
  enter_later = by (ltb (length list - used) 3) refl
    where
      by : (t : Bool) → ltb (length list - used) 3 ≡ t
          → later (cond t (enters used list) (enters (used + 3) (laid_at list used (numbers_of k n)))) ≡ take used list ++ cond (ltb (length (drop used list)) 3) (drop used list) (numbers_of k n ++ entered es (drop 3 (drop used list)))
      by true e =
          let l = ltb-true (length list - used) 3 e in
          let m : length (drop used list) < 3 = omega (arith, length-drop used list) in
          rw (lt-ltb (length (drop used list)) 3 m, entered_none es (drop used list) m)
      by false e =
          let l = ltb-false (length list - used) 3 e in
          rw (le-ltb (length (drop used list)) 3 (omega (arith, length-drop used list))) (laid_entry (omega arith))

  enter_within : (enter list used (numbers_of k n)).used ≤ length (enter list used (numbers_of k n)).list
  unfolding enter
  enter_within = by (ltb (length list - used) 3) refl
    where
      by : (t : Bool) → ltb (length list - used) 3 ≡ t → (cond t (enters used list) (enters (used + 3) (laid_at list used (numbers_of k n)))).used ≤ length (cond t (enters used list) (enters (used + 3) (laid_at list used (numbers_of k n)))).list
      by true e = h
      by false e = let l = ltb-false (length list - used) 3 e in omega (arith, laid_long list (numbers_of k n) used (omega arith))

-- the same of a line that may not be listed
pub note_later : (k : ℕ) (n : Note) (es : List Entry) (used : ℕ) (list : List ℕ) (h : used ≤ length list)
    → take (noting n k used list).used (noting n k used list).list ++ entered es (drop (noting n k used list).used (noting n k used list).list) ≡ take used list ++ entered (listed k n es) (drop used list)
unfolding noting entry
note_later k unlisted es used list h = refl
note_later k (mended i ks) es used list h = enter_later k (mended i ks) es used list h
note_later k unmended es used list h = enter_later k unmended es used list h

pub note_within : (k : ℕ) (n : Note) (used : ℕ) (list : List ℕ) → used ≤ length list → (noting n k used list).used ≤ length (noting n k used list).list
unfolding noting
note_within k unlisted used list h = h
note_within k (mended i ks) used list h = enter_within k (mended i ks) [] used list h
note_within k unmended used list h = enter_within k unmended [] used list h

listed_long : (k : ℕ) (n : Note) (es : List Entry) → length (listed k n es) ≡ cond (is_listed n) 1 0 + length es
listed_long k unlisted es = omega arith
listed_long k (mended i ks) es = omega arith
listed_long k unmended es = omega arith

-- ---- all lines
module _ (tree : List ℕ → Form Line) where
  pub all_filled : (ps : List Piece) (st : Stand) → (put_pieces tree ps st).filled ≡ st.filled + length (joined (mend_pieces tree ps))
  all_filled [] st = omega arith
  all_filled (p ∷ ps) st =
      let l = (mend tree p.line).line in
      let m = joined (mend_pieces tree ps) in
      omega (arith, all_filled ps (put_piece tree p st), length-append l (p.end ++ m), length-append p.end m, length-append l p.end)

  pub all_lines : (ps : List Piece) (st : Stand) → (put_pieces tree ps st).lines ≡ st.lines + length ps
  all_lines [] st = omega arith
  all_lines (p ∷ ps) st = omega (arith, all_lines ps (put_piece tree p st))

  pub all_out : (ps : List Piece) (st : Stand) → st.filled + length (joined (mend_pieces tree ps)) ≤ length st.out
      → (put_pieces tree ps st).out ≡ laid_at st.out st.filled (joined (mend_pieces tree ps))
  all_out [] st h = let z : st.filled + 0 ≡ st.filled = omega arith in sym (rw z (take-append-drop st.filled st.out))
  all_out (p ∷ ps) st h =
      let l = (mend tree p.line).line in
      let m = joined (mend_pieces tree ps) in
      let a = length-append l (p.end ++ m) in
      let b = length-append p.end m in
      let c = length-append l p.end in
      let d = laid_long st.out (l ++ p.end) st.filled (omega arith) in
      all_out ps (put_piece tree p st) (omega arith)
      ∙ laid_twice st.out (l ++ p.end) m st.filled (omega arith)
      ∙ ap (laid_at st.out st.filled) (append_assoc l p.end m)

  pub all_listed : (ps : List Piece) (st : Stand) → (put_pieces tree ps st).listed ≡ st.listed + length (list_from tree (st.lines + 1) ps)
  all_listed [] st = omega arith
  all_listed (p ∷ ps) st =
      let n = (mend tree p.line).note in
      let z : st.lines + 1 + 1 ≡ suc (st.lines + 1) = omega arith in
      let e = ap (λ (x : ℕ). length (list_from tree x ps)) z in
      omega (arith, all_listed ps (put_piece tree p st), listed_long (st.lines + 1) n (list_from tree (suc (st.lines + 1)) ps))

  pub all_list : (ps : List Piece) (st : Stand) → st.used ≤ length st.list
      → (put_pieces tree ps st).list ≡ take st.used st.list ++ entered (list_from tree (st.lines + 1) ps) (drop st.used st.list)
  all_list [] st h = sym (take-append-drop st.used st.list)
  all_list (p ∷ ps) st h =
      let n = (mend tree p.line).note in
      let z : st.lines + 1 + 1 ≡ suc (st.lines + 1) = omega arith in
      all_list ps (put_piece tree p st) (note_within (st.lines + 1) n st.used st.list h)
      ∙ rw z (note_later (st.lines + 1) n (list_from tree (suc (st.lines + 1)) ps) st.used st.list h)

-- ---- how far a text is put
-- some lines are left: the spaces are as long as they were, there is room for the rest, and putting the rest comes to what putting all comes to
pub record Put (text out₀ list₀ : List ℕ) (h : Held) (ps : List Piece) (out list : List ℕ) : Type 0 where
  pub outs : length out ≡ length out₀
  pub lists : length list ≡ length list₀
  pub used : h.used ≤ length list
  pub lines : h.lines + length ps ≤ length text
  pub listed : h.listed ≤ h.lines
  pub room : (tree : List ℕ → Form Line) → Tells tree → h.filled + length (joined (mend_pieces tree ps)) ≤ length out
  pub rest : (tree : List ℕ → Form Line) → Tells tree → put_pieces tree ps (standing h out list) ≡ put_pieces tree (pieces text) (stand out₀ list₀ 0 0 0 0)

pub nothing_put : (text out list : List ℕ) → Fitting text (length out) true → Put text out list (record { filled = 0; lines = 0; listed = 0; used = 0 }) (pieces text) out list
unfolding mend_text
nothing_put text out list f = record {
  outs = refl;
  lists = refl;
  used = omega arith;
  lines = omega (arith, pieces_most text);
  listed = omega arith;
  room = λ tree told. let k = leb-true (length (joined (mend_pieces tree (pieces text)))) (length out) (sym (f tree told)) in omega arith;
  rest = λ tree told. refl;
}

-- an entry leaves the space as long as it was
enter_long : (k : ℕ) (n : Note) (used : ℕ) (list : List ℕ) → used ≤ length list → length (enter list used (numbers_of k n)).list ≡ length list
unfolding enter
enter_long k n used list h = by (ltb (length list - used) 3) refl
  where
    by : (t : Bool) → ltb (length list - used) 3 ≡ t → length (cond t (enters used list) (enters (used + 3) (laid_at list used (numbers_of k n)))).list ≡ length list
    by true e = refl
    by false e = let l = ltb-false (length list - used) 3 e in laid_long list (numbers_of k n) used (omega arith)

note_long : (k : ℕ) (n : Note) (used : ℕ) (list : List ℕ) → used ≤ length list → length (noting n k used list).list ≡ length list
unfolding noting
note_long k unlisted used list h = refl
note_long k (mended i ks) used list h = enter_long k (mended i ks) used list h
note_long k unmended used list h = enter_long k unmended used list h

one_most : (t : Bool) → cond t 1 0 ≤ 1
one_most true = omega arith
one_most false = omega arith

module _ (text out₀ list₀ : List ℕ) (h : Held) (out list : List ℕ) where
  module _ (p : Piece) (ps : List Piece) (put : Put text out₀ list₀ h (p ∷ ps) out list) where
    pub next_room : h.lines < 18446744073709551615 → RoomFor p.line p.end h (length out) (length list)
    next_room l = record {
      bytes = λ tree told. omega (arith, put.room tree told, first_long p ps tree);
      numbers = put.used;
      lines = l;
      listed = put.listed;
    }

    pub next_put : (h' : Held) (out' list' : List ℕ) → Puts p (standing h out list) (standing h' out' list') → Put text out₀ list₀ h' ps out' list'
    next_put h' out' list' puts =
        let m : Tells model = model_tells in
        let l = (mend model p.line).line in
        let n = (mend model p.line).note in
        let q = puts model model_tells in
        let fits : h.filled + length (l ++ p.end) ≤ length out = omega (arith, put.room model m, first_long p ps model, length-append l p.end) in
        record {
          outs = ap (λ (x : Stand). length x.out) q ∙ laid_long out (l ++ p.end) h.filled fits ∙ put.outs;
          lists = ap (λ (x : Stand). length x.list) q ∙ note_long (h.lines + 1) n h.used list put.used ∙ put.lists;
          used = subst (λ (x : Stand). x.used ≤ length x.list) (sym q) (note_within (h.lines + 1) n h.used list put.used);
          lines = omega (arith, ap (λ (x : Stand). x.lines) q, put.lines);
          listed = omega (arith, ap (λ (x : Stand). x.lines) q, ap (λ (x : Stand). x.listed) q, put.listed, one_most (is_listed n));
          room = λ tree told.
              let l' = (mend tree p.line).line in
              let q' = puts tree told in
              omega (arith, put.room tree told, first_long p ps tree, length-append l' p.end, ap (λ (x : Stand). x.filled) q', ap (λ (x : Stand). length x.out) q, laid_long out (l ++ p.end) h.filled fits);
          rest = λ tree told. ap (put_pieces tree ps) (puts tree told) ∙ put.rest tree told;
        }

-- ---- the whole text
pub whole_put : (text out list : List ℕ) (h : Held) (out' list' : List ℕ) → Fitting text (length out) true → PutsAll text out list (standing h out' list')
    → MendsText text out list (leaves_text (told (Ok (record { filled = h.filled; lines = h.lines; listed = h.listed }))) out' list')
unfolding mend_into mend_text list_of
whole_put text out list h out' list' f p tree told =
    let q = p tree told in
    let st = stand out list 0 0 0 0 in
    let ps = pieces text in
    let new = joined (mend_pieces tree ps) in
    let r : length new ≤ length out = leb-true (length new) (length out) (sym (f tree told)) in
    let a : h.filled ≡ length new = omega (arith, ap (λ (x : Stand). x.filled) q, all_filled tree ps st) in
    let b : h.lines ≡ length ps = omega (arith, ap (λ (x : Stand). x.lines) q, all_lines tree ps st) in
    let c : h.listed ≡ length (list_from tree 1 ps) = omega (arith, ap (λ (x : Stand). x.listed) q, all_listed tree ps st) in
    let d : out' ≡ new ++ drop (length new) out = ap (λ (x : Stand). x.out) q ∙ all_out tree ps st (omega arith) ∙ (let z : 0 + length new ≡ length new = omega arith in rw z) in
    let e : list' ≡ entered (list_from tree 1 ps) list = ap (λ (x : Stand). x.list) q ∙ all_list tree ps st (omega arith) in
    (λ i. leaves_text (record { number = 0; filled = a i; lines = b i; listed = c i }) (d i) (e i)) ∙ rw (le-leb (length new) (length out) r)

pub none_put : (text out list : List ℕ) → Fitting text (length out) false → MendsText text out list (leaves_text (told (Err no_space)) out list)
unfolding mend_into
none_put text out list f tree told = rw (← f tree told)
