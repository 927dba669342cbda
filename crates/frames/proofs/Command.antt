-- A frame by its parts, how long it is, and where it is put.
-- Assumes nothing.
use mathlib.Core.Path.{◌≡◌, refl, ap, sym, subst, ◌∙◌}
use mathlib.Core.Bool.{Bool, true, false, cond}
use mathlib.Core.List.{List, ◌++◌, append_assoc, append-nil}
use Prim.Native.Nat.{ℕ, zero, suc, ◌+◌, ◌-◌, ◌*◌, ◌≤◌, ◌<◌}
use native.Mathlib.Omega.{arith}
use borrow.Author.Tests.{le-leb, lt-leb, leb-true}
use lib.IntN.{ℤ, pos}
use lib.ListN.{length, length-append, length-drop, take, drop, get_or}
use lib.Seq.{sets, sets-eq, drop-drop, get_or-drop, length-take-le}
use Rattle.std.specs.Prelude.{Option, None, Some}
use Rattle.grammar.specs.Bytes.{bytes}
use Rattle.rules.specs.Frames.{hex, complement, fields, fields_used, kind_of, frame, frames_in, refusal_frame}
use Rattle.frames.specs.Text.{frames_at, answer_frames, room, placed, laid}
use Rattle.rules.specs.Named.{refusal_number}
use Rattle.rules.specs.declared.Refusal.{Refusal}
use Rattle.rules.specs.declared.Answer.TheVariants.{Accepted, Refused, Skipped}
use Rattle.frames.proofs.Stores.{sets_append}
use Rattle.frames.proofs.Digits.{length_fields}

-- a command's frame from its kind and the number of its fields, as they are read from the numbers at base
module _ (out : List ℤ) (base kind many : ℕ) (read : kind ≡ complement (get_or out base (pos 0))) (used : many ≡ fields_used kind) where
  kind_read : kind ≡ kind_of (drop base out)
  kind_read =
      let e : base + 0 ≡ base = omega arith in
      read ∙ ap (λ (i : ℕ). complement (get_or out i (pos 0))) (sym e) ∙ ap complement (sym (get_or-drop base out 0 (pos 0)))

  pub frame_parts : hex 2 kind ++ fields (take many (drop (base + 1) out)) ++ bytes "\n" ≡ frame (drop base out)
  unfolding frame
  frame_parts =
      ap (λ (zs : List ℤ). hex 2 kind ++ fields (take many zs) ++ bytes "\n") (sym (drop-drop 1 base out))
      ∙ ap (λ (m : ℕ). hex 2 kind ++ fields (take m (drop 1 (drop base out))) ++ bytes "\n") used
      ∙ ap (λ (k : ℕ). hex 2 k ++ fields (take (fields_used k) (drop 1 (drop base out))) ++ bytes "\n") kind_read

  pub frame_long : base + 1 + many ≤ length out → length (frame (drop base out)) ≡ 3 + 10 * many
  frame_long h =
      let rest = drop (base + 1) out in
      let taken = fields (take many rest) in
      let room : many ≤ length rest = omega (arith, length-drop (base + 1) out) in
      ap length (sym frame_parts)
      ∙ omega (arith, length-append (hex 2 kind ++ taken) (bytes "\n"), length-append (hex 2 kind) taken, length_fields (take many rest), length-take-le many rest room)

-- ---- the frames of several commands
frames_append : (j m : ℕ) (zs : List ℤ) → frames_in (j + m) zs ≡ frames_in j zs ++ frames_in m (drop (8 * j) zs)
frames_append zero m zs =
    let e : 0 + m ≡ m = omega arith in
    rw e
frames_append (suc j) m zs =
    let e : suc j + m ≡ suc (j + m) = omega arith in
    let d : 8 + 8 * j ≡ 8 * suc j = omega arith in
    ap (λ (k : ℕ). frames_in k zs) e
    ∙ ap (λ (t : List ℕ). frame zs ++ t) (frames_append j m (drop 8 zs))
    ∙ sym (append_assoc (frame zs) (frames_in j (drop 8 zs)) (frames_in m (drop (8 * j) (drop 8 zs))))
    ∙ ap (λ (t : List ℤ). frames_in (suc j) zs ++ frames_in m t) (drop-drop (8 * j) 8 zs ∙ ap (λ (k : ℕ). drop k zs) d)

-- one more
pub frames_more : (k : ℕ) (zs : List ℤ) → frames_in (k + 1) zs ≡ frames_in k zs ++ frame (drop (8 * k) zs)
frames_more k zs = frames_append k 1 zs ∙ ap (λ (t : List ℕ). frames_in k zs ++ t) (append-nil (frame (drop (8 * k) zs)))

-- a frame put behind the first k
pub frame_added : {t t' : List ℕ} {to to' : ℕ} (l : List ℕ) (out : List ℤ) (at k : ℕ)
    → to ≡ at + length (frames_in k out) → t ≡ sets l at (frames_in k out)
    → to' ≡ to + length (frame (drop (8 * k) out)) → t' ≡ sets t to (frame (drop (8 * k) out))
    → (to' ≡ at + length (frames_in (k + 1) out)) × (t' ≡ sets l at (frames_in (k + 1) out))
frame_added {t} {t'} {to} {to'} l out at k hto ht hto' ht' =
    let a = frames_in k out in
    let f = frame (drop (8 * k) out) in
    let more = frames_more k out in (
      omega (arith, ap length more, length-append a f),
      ht' ∙ ap (λ (m : List ℕ). sets m to f) ht ∙ ap (λ (i : ℕ). sets (sets l at a) i f) hto ∙ sym (sets_append a f l at) ∙ ap (sets l at) (sym more),
    )

-- those of fewer commands are shorter
pub frames_grow : (k many : ℕ) (zs : List ℤ) → k ≤ many → length (frames_in k zs) ≤ length (frames_in many zs)
frames_grow k many zs h =
    let e : k + (many - k) ≡ many = omega arith in
    let rest = frames_in (many - k) (drop (8 * k) zs) in
    let whole = ap (λ (n : ℕ). length (frames_in n zs)) (sym e) ∙ ap length (frames_append k (many - k) zs) in
    omega (arith, whole, length-append (frames_in k zs) rest)

-- ---- what is put into a text
module _ (many : ℕ) (out : List ℤ) where
  pub commands_there : 8 * many ≤ length out → frames_at many out ≡ Some (frames_in many out)
  unfolding frames_at
  commands_there h = rw (le-leb (8 * many) (length out) h)

  pub commands_short : length out < 8 * many → frames_at many out ≡ None
  unfolding frames_at
  commands_short h = rw (lt-leb (8 * many) (length out) h)

-- what is written for a line, by its answer
module _ (out : List ℤ) where
  pub for_accepted : (n : ℕ) → frames_at n out ≡ answer_frames (Accepted n) out
  unfolding frames_at answer_frames
  for_accepted n = rw (append-nil (frames_in n out))

  pub for_refused : (why : Refusal) → Some (refusal_frame (refusal_number why)) ≡ answer_frames (Refused why) out
  unfolding answer_frames
  for_refused why = rw (le-leb 0 (length out) (omega arith))

  pub for_skipped : frames_at 0 out ≡ answer_frames Skipped out
  unfolding frames_at answer_frames
  for_skipped = refl

-- the same frames are put alike
pub put_alike : {o o' : Option (List ℕ)} {r : Option ℕ} {t : List ℕ} (text : List ℕ) (at : ℕ) → o ≡ o'
    → (r ≡ placed o text at) × (t ≡ laid o text at) → (r ≡ placed o' text at) × (t ≡ laid o' text at)
put_alike {r = r} {t = t} text at e p = subst (λ (x : Option (List ℕ)). (r ≡ placed x text at) × (t ≡ laid x text at)) e p

-- nothing, where there is no frame or no room for it
module _ (text : List ℕ) (at : ℕ) where
  pub no_frame : {o : Option (List ℕ)} → o ≡ None → (None ≡ placed o text at) × (text ≡ laid o text at)
  unfolding placed laid
  no_frame e = rw e (refl, refl)

  module _ {o : Option (List ℕ)} (f : List ℕ) (e : o ≡ Some f) where
    pub no_room : length text < at + length f → (None ≡ placed o text at) × (text ≡ laid o text at)
    unfolding placed laid
    no_room h = rw (e, lt-leb (at + length f) (length text) h) (refl, refl)

    pub has_room : {t : List ℕ} {p : ℕ} → at + length f ≤ length text → p ≡ at + length f → t ≡ sets text at f
        → (Some p ≡ placed o text at) × (t ≡ laid o text at)
    unfolding placed laid
    has_room h hp ht = rw (e, le-leb (at + length f) (length text) h) (ap Some hp, ht ∙ sets-eq f text at h)

-- the place after a frame lies in the text
pub placed_within : (o : Option (List ℕ)) (text : List ℕ) (at next : ℕ) → placed o text at ≡ Some next → next ≤ length text
unfolding placed
placed_within None text at next e = let z : ◌≡◌ {A = ℕ} 0 1 = cc in absurd (omega arith)
placed_within (Some f) text at next e = by (room f text at) refl e
  where
    by : (t : Bool) → room f text at ≡ t → cond t (Some (at + length f)) None ≡ Some next → next ≤ length text
    by true h g = let n : next ≡ at + length f = cc in omega (arith, leb-true (at + length f) (length text) h)
    by false h g = let z : ◌≡◌ {A = ℕ} 0 1 = cc in absurd (omega arith)
