-- What the call for one line leaves is what the definition says, way by way.
-- Assumes nothing.
use mathlib.Core.Path.{◌≡◌, refl, sym, ap, ◌∙◌}
use mathlib.Core.Bool.{Bool, true, false, cond, ◌&&◌, and-false}
use mathlib.Core.List.{List, [], ◌∷◌, ◌++◌, map}
use Prim.Native.Nat.{ℕ, suc, ◌≤◌, ◌<◌}
use native.Mathlib.Omega.{arith}
use borrow.Author.Tests.{le-leb, lt-leb}
use lib.Dec.{eqb}
use lib.ListN.{length, take, drop, length-append}
use lib.Seq.{length-take-le}
use Rattle.std.specs.Prelude.{Ok, Err}
use Rattle.grammar.specs.Bytes.{byte, bytes}
use Rattle.grammar.specs.Grammar.{Line, line, unmarked, unlabelled}
use Rattle.grammar.specs.Derivation.{strip, Derives, Form}
use Rattle.texts.specs.Form.{Tells, is_derived, right}
use Rattle.texts.proofs.Rightness.{right_is}
use Rattle.mend.specs.Repairs.{lone_percent, emptied, square, depth, remarked, flattened, unremarked, repaired}
use Rattle.mend.specs.Mend.{differs, which, outcome, mended, mend}
use Rattle.mend.specs.Line.{repairs_in, no_space, leaves, put, left_by, Repaired}
use Rattle.mend.specs.declared.line.Mended.TheVariants.{Already, Better, Beyond}
use Rattle.mend.specs.declared.line.Repairs.{Repairs}
use Rattle.mend.specs.declared.line.Repair.{Repair}
use Rattle.mend.proofs.Differing.{lone_some}
use Rattle.mend.proofs.Theorems.{right_stays, beyond_stays}

-- the empty line is right
empty_derived : Derives (line unmarked unlabelled []) []
unfolding strip
empty_derived = record { ok = (tt, tt, tt); writes = refl }

pub better_is : (tree : List ℕ → Form Line) (s : List ℕ) → right tree s ≡ false → right tree (repaired s) ≡ true
    → mend tree s ≡ outcome (repaired s) (mended (differs 1 s (repaired s)) (which s))
unfolding mend
better_is tree s h k = rw (h, k)

-- ---- a line of one `%` and blanks
emptied_is : (s : List ℕ) → true ≡ lone_percent s → repaired s ≡ []
unfolding repaired unremarked emptied
emptied_is s h = rw (← h)

which_emptied : (s : List ℕ) → true ≡ lone_percent s → which s ≡ 1 ∷ []
unfolding which repaired unremarked emptied
which_emptied s h = rw (← h, (lone_some s h).1)

pub emptied_left : {tree : List ℕ → Form Line} → Tells tree → (s out : List ℕ) → right tree s ≡ false → true ≡ lone_percent s
    → leaves (Ok (Better 0 1 (record { percent = true; remark = false; nested = false }))) out ≡ left_by (mend tree s) out
unfolding put
emptied_left {tree} told s out h e =
    let q : repaired s ≡ [] = emptied_is s e in
    rw (better_is tree s h (ap (right tree) q ∙ right_is told empty_derived (omega arith)), q, (lone_some s e).0, which_emptied s e, le-leb 0 (length out) (omega arith))

-- ---- any other
pub repaired_is : (s : List ℕ) → false ≡ lone_percent s → repaired s ≡ flattened 0 (remarked 0 s)
unfolding repaired unremarked emptied
repaired_is s h = rw (← h)

pub flattened_long : (d : ℕ) (s : List ℕ) → length (flattened d s) ≡ length s
flattened_long d [] = refl
flattened_long d (b ∷ s) = ap suc (flattened_long (depth d b) s)

squares_long : (s : List ℕ) → length (map square s) ≡ length s
squares_long [] = refl
squares_long (b ∷ s) = ap suc (squares_long s)

-- no repair but the first makes a line shorter
remarked_long : (d : ℕ) (s : List ℕ) → length s ≤ length (remarked d s)
remarked_long d [] = omega arith
remarked_long d (b ∷ s) = by (eqb d 0 && eqb b (byte ";")) (remarked_long (depth d b) s)
  where
    by : (t : Bool) → length s ≤ length (remarked (depth d b) s) → suc (length s) ≤ length (cond t (byte "(" ∷ (map square s ++ bytes ")")) (b ∷ remarked (depth d b) s))
    by true k = omega (arith, length-append (map square s) (bytes ")"), squares_long s)
    by false k = omega arith

long_wrong : (tree : List ℕ → Form Line) (s : List ℕ) → 256 < length s → right tree s ≡ false
unfolding right
long_wrong tree s h = rw (lt-leb (length s) 256 h) (and-false (is_derived (tree s)))

module _ (tree : List ℕ → Form Line) (s out : List ℕ) (h : right tree s ≡ false) where
  pub wrong_left : right tree (repaired s) ≡ false → leaves (Ok Beyond) out ≡ left_by (mend tree s) out
  wrong_left k = rw (beyond_stays tree s h k)

  -- a text longer than 256 bytes
  pub long_left : false ≡ lone_percent s → 256 < length s → leaves (Ok Beyond) out ≡ left_by (mend tree s) out
  long_left e k =
      let a : length (repaired s) ≡ length (remarked 0 s) = ap length (repaired_is s e) ∙ flattened_long 0 (remarked 0 s) in
      wrong_left (long_wrong tree (repaired s) (omega (arith, remarked_long 0 s)))

  module _ (k : right tree (repaired s) ≡ true) where
    pub no_space_left : length out < length (repaired s) → leaves (Err no_space) out ≡ left_by (mend tree s) out
    unfolding put
    no_space_left l = rw (better_is tree s h k, lt-leb (length (repaired s)) (length out) l)

    pub better_left : (n i : ℕ) (w : Repairs) (front : List ℕ) → front ≡ repaired s → length front ≡ n → n ≤ length out → i ≡ differs 1 s front → w ≡ repairs_in (which s)
        → leaves (Ok (Better n i w)) (front ++ drop n out) ≡ left_by (mend tree s) out
    unfolding put
    better_left n i w front e l m f g =
        let z : length (repaired s) ≡ n = ap length (sym e) ∙ l in
        rw (better_is tree s h k, z, le-leb n (length out) m, f, g, e)

pub already_left : (tree : List ℕ → Form Line) (s out : List ℕ) → right tree s ≡ true → leaves (Ok Already) out ≡ left_by (mend tree s) out
already_left tree s out h = rw (right_stays tree s h)

-- ---- a line that is repaired in front of a space
module _ (s space : List ℕ) (r : Repair) (f : Repaired s r space) where
  pub space_long : length (take r.length space) ≡ r.length
  space_long = length-take-le r.length space (omega (arith, f.long, f.within))

  repaired_long : length (repaired s) ≡ r.length
  repaired_long = ap length (sym f.text) ∙ space_long

  module _ (tree : List ℕ → Form Line) (out : List ℕ) (h : right tree s ≡ false) (t : Bool) (g : t ≡ right tree (take r.length space)) where
    pub still_wrong : t ≡ false → leaves (Ok Beyond) out ≡ left_by (mend tree s) out
    still_wrong e = wrong_left tree s out h (ap (right tree) (sym f.text) ∙ sym g ∙ e)

    now_right : t ≡ true → right tree (repaired s) ≡ true
    now_right e = ap (right tree) (sym f.text) ∙ sym g ∙ e

    pub no_room : t ≡ true → length out < r.length → leaves (Err no_space) out ≡ left_by (mend tree s) out
    no_room e l = no_space_left tree s out h (now_right e) (omega (arith, repaired_long))

    -- a line that is right now is another
    other : t ≡ true → s ≡ take r.length space → ⊥
    other e q = let z : false ≡ true = sym h ∙ ap (right tree) q ∙ sym g ∙ e in cc

    pub with_room : t ≡ true → r.length ≤ length out → (i : ℕ) → ((s ≡ take r.length space → ⊥) → i ≡ differs 1 s (take r.length space)) → (front : List ℕ) → front ≡ take r.length space
        → leaves (Ok (Better r.length i r.repairs)) (front ++ drop r.length out) ≡ left_by (mend tree s) out
    with_room e l i d front q =
        better_left tree s out h (now_right e) r.length i r.repairs front (q ∙ f.text) (ap length q ∙ space_long) l (d (other e) ∙ ap (differs 1 s) (sym q)) f.by
