-- A line's mended bytes laid into the text's space: by what the call for one line answers, they are what the definition says.
-- Assumes nothing.
use mathlib.Core.Path.{◌≡◌, refl, sym, ap, ◌∙◌}
use mathlib.Core.Bool.{true, false}
use mathlib.Core.List.{List, [], ◌∷◌, ◌++◌, append_assoc, append-nil}
use Prim.Native.Nat.{ℕ, ◌+◌, ◌-◌, ◌≤◌, ◌<◌}
use native.Mathlib.Omega.{arith}
use borrow.Author.Tests.{le-leb}
use lib.ListN.{length, get_or, set, take, drop, drop_of_length-le, length-drop, take-append-drop}
use lib.Seq.{take_all, drop-drop}
use Rattle.std.proofs.lemmas.List.{length-take-le, set_at, set-append_right, drop_more, take_more}
use Rattle.std.specs.Prelude.{Some, None, Result, Ok, Err}
use Rattle.grammar.specs.Grammar.{Line}
use Rattle.grammar.specs.Derivation.{Form}
use Rattle.texts.specs.Form.{Tells, right}
use Rattle.texts.proofs.Rightness.{right_only, model, model_tells}
use Rattle.mend.specs.Repairs.{repaired}
use Rattle.mend.specs.Mend.{Outcome, mend}
use Rattle.mend.specs.Line.{number_of, Left, leaves, put, left_by, MendsLine}
use Rattle.mend.specs.Text.{Long, laid_at, Room, noted_by, LineLaid, lays_line, LaysLine}
use Rattle.mend.specs.declared.line.Mended.{Mended}
use Rattle.mend.specs.declared.line.Mended.TheVariants.{Already, Better, Beyond}
use Rattle.mend.specs.declared.line.NoSpace.{NoSpace}
use Rattle.mend.proofs.Theorems.{Shape, already, better, beyond, shape}
use Rattle.mend.proofs.LineMended.{better_is}
use Rattle.mend.proofs.Differing.{number_is}

-- how many bytes the answer says that a line has when it is mended
abbrev pub length_by : Result Mended NoSpace → List ℕ → ℕ
length_by (Ok Already) s = length s
length_by (Ok (Better n i w)) s = n
length_by (Ok Beyond) s = length s
length_by (Err e) s = length s

module _ (tree : List ℕ → Form Line) (s out : List ℕ) (room : right tree s ≡ false → right tree (repaired s) ≡ true → length (repaired s) ≤ length out) where
  answer_long : (o : Outcome) → Shape tree s o → length_by (left_by o out).answer s ≡ length o.line
  unfolding put
  answer_long o (already q) = refl
  answer_long o (better q f) = rw (le-leb (length (repaired s)) (length out) (room q f))
  answer_long o (beyond q f) = refl

  pub told_long : (left : Left) → left ≡ left_by (mend tree s) out → length_by left.answer s ≡ length (mend tree s).line
  told_long left e = ap (λ (x : Left). length_by x.answer s) e ∙ answer_long (mend tree s) (shape tree s)

-- a space of 256 bytes holds every mended line
pub long_told : (s out now : List ℕ) (answer r : Result Mended NoSpace) → 256 ≤ length out → MendsLine s out (leaves answer now) → answer ≡ r → Long s (length_by r s)
long_told s out now answer r h m e tree told =
    ap (λ (x : Result Mended NoSpace). length_by x s) (sym e) ∙ told_long tree s out (λ q f. omega (arith, (right_only told (repaired s) f).1)) (leaves answer now) (m tree told)

-- ---- bytes laid from a place on
behind : (out : List ℕ) (from k : ℕ) → drop k (drop from out) ≡ drop (from + k) out
behind out from k = drop-drop k from out

-- one item more
pub laid_more : {X : Type 0} (out s : List X) (from i : ℕ) (x : X) → i < length s → from + length s ≤ length out → x ≡ get_or s i x
    → set (laid_at out from (take i s)) (from + i) x ≡ laid_at out from (take (i + 1) s)
laid_more {X} out s from i x h k e =
    let p = take from out in
    let q = take i s in
    let y = get_or out (from + i) x in
    let r = drop (from + i + 1) out in
    let l : length q ≡ i = length-take-le i s (omega arith) in
    let m : length (take (i + 1) s) ≡ i + 1 = length-take-le (i + 1) s (omega arith) in
    let n : from + length (take (i + 1) s) ≡ from + i + 1 = omega arith in
    let j : length q ≡ from + i - from = omega arith in
    ap (λ (z : List X). set (p ++ (q ++ z)) (from + i) x) (ap (λ (a : ℕ). drop (from + a) out) l ∙ drop_more out (from + i) x (omega arith))
    ∙ set-append_right p (q ++ y ∷ r) from (from + i) x (length-take-le from out (omega arith)) (omega arith)
    ∙ ap (λ (z : List X). p ++ z) (set_at q y r x (from + i - from) j ∙ sym (append_assoc q (x ∷ []) r))
    ∙ ap (λ (z : List X). p ++ (z ++ r)) (ap (λ (b : X). q ++ b ∷ []) e ∙ sym (take_more s i x h))
    ∙ ap (λ (a : ℕ). p ++ (take (i + 1) s ++ drop a out)) (sym n)

-- ---- a line
module _ (s out : List ℕ) (from : ℕ) (room : Room s from (length out)) where
  pub room_within : from ≤ length out
  room_within = let k = room model model_tells in omega arith

  -- the space from there on
  there : List ℕ
  there = take (length out - from) (drop from out)

  there_is : take (length out - from) (drop from out) ≡ drop from out
  there_is = take_all (length out - from) (drop from out) (omega (arith, length-drop from out))

  there_long : length (take (length out - from) (drop from out)) ≡ length out - from
  there_long = ap length there_is ∙ length-drop from out

  room_there : {tree : List ℕ → Form Line} → Tells tree → right tree s ≡ false → right tree (repaired s) ≡ true → length (repaired s) ≤ length (take (length out - from) (drop from out))
  room_there {tree} told q f =
      let k = room tree told in
      let b : length (mend tree s).line ≡ length (repaired s) = ap (λ (o : Outcome). length o.line) (better_is tree s q f) in
      omega (arith, there_long, room_within)

  -- what stands in the space then
  abbrev pub afterwards : List ℕ → List ℕ
  afterwards x = take from out ++ (x ++ drop (length out - from) (drop from out))

  -- by the answer: a mended line stands there, any other is laid now
  abbrev pub laid_by : Left → LineLaid
  laid_by left = by left.answer
    where
      by : Result Mended NoSpace → LineLaid
      by (Ok Already) = lays_line (record { filled = from + length s; entry = None }) (laid_at (afterwards left.out) from s)
      by (Ok (Better n i w)) = lays_line (record { filled = from + n; entry = Some (record { byte = i; which = number_of w }) }) (afterwards left.out)
      by (Ok Beyond) = lays_line (record { filled = from + length s; entry = Some (record { byte = 0; which = 0 }) }) (laid_at (afterwards left.out) from s)
      by (Err e) = lays_line (record { filled = from; entry = None }) (afterwards left.out)

  untouched : afterwards (take (length out - from) (drop from out)) ≡ out
  untouched = ap (λ (x : List ℕ). take from out ++ x) (take-append-drop (length out - from) (drop from out)) ∙ take-append-drop from out

  stands : (l : List ℕ) → afterwards (l ++ drop (length l) (take (length out - from) (drop from out))) ≡ laid_at out from l
  stands l = rw (there_is, behind out from (length l), drop_of_length-le (drop from out) {i = length out - from} (omega (arith, length-drop from out)), append-nil (l ++ drop (from + length l) out))

  laid_as : {tree : List ℕ → Form Line} → Tells tree → (o : Outcome) → Shape tree s o
      → laid_by (left_by o (take (length out - from) (drop from out))) ≡ lays_line (noted_by o.note (from + length o.line)) (laid_at out from o.line)
  unfolding put
  laid_as told o (already q) = rw untouched
  laid_as told o (better q f) = rw (le-leb (length (repaired s)) (length (take (length out - from) (drop from out))) (room_there told q f), stands (repaired s), number_is s)
  laid_as told o (beyond q f) = rw untouched

  module _ (now : List ℕ) (answer r : Result Mended NoSpace) (m : MendsLine s (take (length out - from) (drop from out)) (leaves answer now)) (e : answer ≡ r) where
    pub left_within : from + length_by r s ≤ length out
    left_within =
        let k = room model model_tells in
        let l : length_by answer s ≡ length (mend model s).line = told_long model s (take (length out - from) (drop from out)) (room_there model_tells) (leaves answer now) (m model model_tells) in
        omega (arith, ap (λ (x : Result Mended NoSpace). length_by x s) e)

    pub laid_told : LaysLine s out from (laid_by (leaves r now))
    laid_told tree told = ap (λ (x : Result Mended NoSpace). laid_by (leaves x now)) (sym e) ∙ ap laid_by (m tree told) ∙ laid_as told (mend tree s) (shape tree s)
