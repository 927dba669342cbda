-- A line is put with its end: its bytes laid, then those of its end, then its entry.
-- Assumes nothing.
use mathlib.Core.Path.{◌≡◌, refl, sym, ap, ◌∙◌}
use mathlib.Core.Bool.{true, false}
use mathlib.Core.List.{List, [], ◌∷◌, ◌++◌, append_assoc}
use Prim.Native.Nat.{ℕ, ◌+◌, ◌≤◌}
use native.Mathlib.Omega.{arith}
use lib.ListN.{length, take, drop, length-append, length-drop}
use lib.Seq.{take_at, drop_at, drop-drop, length-take-le}
use Rattle.std.specs.Prelude.{Some, None}
use Rattle.grammar.specs.Grammar.{Line}
use Rattle.grammar.specs.Derivation.{Form}
use Rattle.texts.specs.Form.{Tells}
use Rattle.texts.specs.Ends.{piece}
use Rattle.texts.proofs.Rightness.{model, model_tells}
use Rattle.mend.specs.Mend.{Note, unlisted, mended, unmended, mend}
use Rattle.mend.specs.Line.{added_up}
use Rattle.mend.specs.Text.{is_listed, byte_of, which_of, numbers_of, entry_of, laid_at, LineLaid, lays_line, LaysLine, enters, enter, noting, stand, standing, RoomFor, Puts}
use Rattle.mend.specs.declared.whole.Listed.{Listed}
use Rattle.mend.specs.declared.whole.Noted.{Noted}
use Rattle.mend.specs.declared.whole.Held.{Held}

-- ---- bytes laid
pub laid_front_long : (out l : List ℕ) (f : ℕ) → f + length l ≤ length out → length (take f out ++ l) ≡ f + length l
laid_front_long out l f h = length-append (take f out) l ∙ ap (λ (x : ℕ). x + length l) (length-take-le f out (omega arith))

pub laid_long : (out l : List ℕ) (f : ℕ) → f + length l ≤ length out → length (laid_at out f l) ≡ length out
laid_long out l f h =
    ap length (sym (append_assoc (take f out) l (drop (f + length l) out)))
    ∙ length-append (take f out ++ l) (drop (f + length l) out)
    ∙ omega (arith, laid_front_long out l f h, length-drop (f + length l) out)

pub laid_twice : (out l e : List ℕ) (f : ℕ) → f + length l ≤ length out → laid_at (laid_at out f l) (f + length l) e ≡ laid_at out f (l ++ e)
laid_twice out l e f h =
    let a : laid_at out f l ≡ take f out ++ l ++ drop (f + length l) out = sym (append_assoc (take f out) l (drop (f + length l) out)) in
    let b : take (f + length l) (laid_at out f l) ≡ take f out ++ l = ap (take (f + length l)) a ∙ take_at (take f out ++ l) (drop (f + length l) out) (f + length l) (laid_front_long out l f h) in
    let c : drop (f + length l) (laid_at out f l) ≡ drop (f + length l) out = ap (drop (f + length l)) a ∙ drop_at (take f out ++ l) (drop (f + length l) out) (f + length l) (laid_front_long out l f h) in
    let d : drop (f + length l + length e) (laid_at out f l) ≡ drop (f + length (l ++ e)) out =
    sym (drop-drop (length e) (f + length l) (laid_at out f l)) ∙ ap (drop (length e)) c ∙ drop-drop (length e) (f + length l) out
    ∙ (let z : f + length l + length e ≡ f + length (l ++ e) = omega (arith, length-append l e) in ap (λ (x : ℕ). drop x out) z) in
    rw (b, d, append_assoc (take f out) l (e ++ drop (f + length (l ++ e)) out), append_assoc l e (drop (f + length (l ++ e)) out))

-- ---- what is listed of a line
listed_as : (n : Note) (l : Listed) → entry_of n ≡ Some l → (is_listed n ≡ true) × (l.byte ≡ byte_of n) × (l.which ≡ which_of n)
listed_as unlisted l e = cc
listed_as (mended i ks) l e = let q : record { byte = i; which = added_up ks } ≡ l = cc in (refl, ap (λ (x : Listed). x.byte) (sym q), ap (λ (x : Listed). x.which) (sym q))
listed_as unmended l e = let q : record { byte = 0; which = 0 } ≡ l = cc in (refl, ap (λ (x : Listed). x.byte) (sym q), ap (λ (x : Listed). x.which) (sym q))

unlisted_as : (n : Note) → entry_of n ≡ None → is_listed n ≡ false
unlisted_as unlisted e = refl
unlisted_as (mended i ks) e = cc
unlisted_as unmended e = cc

-- ---- a line
module _ (s e : List ℕ) (h : Held) (out list : List ℕ) (room : RoomFor s e h (length out) (length list)) where
  line_room : {tree : List ℕ → Form Line} → Tells tree → h.filled + length (mend tree s).line ≤ length out
  line_room {tree} told = omega (arith, room.bytes tree told)

  module _ (n : Noted) (o : List ℕ) (laid : LaysLine s out h.filled (lays_line n o)) where
    pub end_room : n.filled + length e ≤ length o
    end_room =
        let q = laid model model_tells in
        let a : n.filled ≡ h.filled + length (mend model s).line = ap (λ (x : LineLaid). x.noted.filled) q in
        let b : length o ≡ length out = ap (λ (x : LineLaid). length x.out) q ∙ laid_long out (mend model s).line h.filled (line_room model_tells) in
        omega (arith, room.bytes model model_tells)

    module _ (filled : ℕ) (o' : List ℕ) (f : filled ≡ n.filled + length e) (g : o' ≡ laid_at o n.filled e) where
      -- what stands in the space, and how far
      filled_is : {tree : List ℕ → Form Line} → Tells tree → filled ≡ h.filled + length ((mend tree s).line ++ e)
      filled_is {tree} told =
          let a : n.filled ≡ h.filled + length (mend tree s).line = ap (λ (x : LineLaid). x.noted.filled) (laid tree told) in
          omega (arith, length-append (mend tree s).line e)

      out_is : {tree : List ℕ → Form Line} → Tells tree → o' ≡ laid_at out h.filled ((mend tree s).line ++ e)
      out_is {tree} told =
          g ∙ ap (λ (x : LineLaid). laid_at x.out x.noted.filled e) (laid tree told) ∙ laid_twice out (mend tree s).line e h.filled (line_room told)

      entry_is : {tree : List ℕ → Form Line} → Tells tree → entry_of (mend tree s).note ≡ n.entry
      entry_is {tree} told = sym (ap (λ (x : LineLaid). x.noted.entry) (laid tree told))

      pub put_listed : (l : Listed) → n.entry ≡ Some l → (used : ℕ) (list' : List ℕ) → enters used list' ≡ enter list h.used ((h.lines + 1) ∷ l.byte ∷ l.which ∷ [])
          → Puts (piece s e) (standing h out list) (standing (record { filled = filled; lines = h.lines + 1; listed = h.listed + 1; used = used }) o' list')
      unfolding noting
      put_listed l t used list' k tree told =
          let (u, v, w) = listed_as (mend tree s).note l (entry_is told ∙ t) in
          let j : enters used list' ≡ enter list h.used (numbers_of (h.lines + 1) (mend tree s).note) = k ∙ rw (v, w) in
          let a = out_is told in
          let b = filled_is told in
          (λ i. stand (a i) (j i).list (b i) (h.lines + 1) (h.listed + 1) (j i).used) ∙ rw u

      pub put_unlisted : n.entry ≡ None → Puts (piece s e) (standing h out list) (standing (record { filled = filled; lines = h.lines + 1; listed = h.listed; used = h.used }) o' list)
      unfolding noting
      put_unlisted t tree told =
          let u : is_listed (mend tree s).note ≡ false = unlisted_as (mend tree s).note (entry_is told ∙ t) in
          let a = out_is told in
          let b = filled_is told in
          let z : h.listed ≡ h.listed + 0 = omega arith in
          (λ i. stand (a i) list (b i) (h.lines + 1) (z i) h.used) ∙ rw u
