-- Laws of numbers laid over a space: one run after another, and commands laid one after the other.
-- Assumes nothing.
use mathlib.Core.Path.{◌≡◌, refl, ap, ◌∙◌}
use mathlib.Core.List.{List, [], ◌∷◌, ◌++◌, append_assoc, append-nil}
use Prim.Native.Nat.{ℕ, suc, ◌+◌, ◌*◌, ◌≤◌, ◌<◌}
use native.Mathlib.Nat.{add-zero, zero-add, add_assoc}
use native.Mathlib.Numerals.{add-one}
use native.Mathlib.Omega.{arith}
use lib.IntN.{ℤ}
use lib.ListN.{length, take, drop, set, take-append-drop, length-append, length-drop}
use lib.Seq.{length-take-le, drop-drop, take_at, drop_at, take-suc-set, drop-set-lt}
use Rattle.rules.specs.Reach.{at}
use Rattle.rules.specs.Commands.{eight, numbers, written}
use Rattle.rules.specs.Promise.{over}
use Rattle.rules.specs.declared.Length.{Length}
use Rattle.rules.specs.declared.Command.{Command}
use Rattle.orders.specs.Laying.{laid}

pub laid_none : (out : List ℤ) (at : ℕ) → laid out at [] ≡ out
unfolding laid
laid_none out at = rw (add-zero at, append-nil (take at out)) (take-append-drop at out)

head_length : (out zs : List ℤ) (at : ℕ) → at ≤ length out → length (take at out ++ zs) ≡ at + length zs
head_length out zs at h = length-append (take at out) zs ∙ ap (λ (n : ℕ). n + length zs) (length-take-le at out h)

length_laid : (out zs : List ℤ) (at : ℕ) → at + length zs ≤ length out → length (laid out at zs) ≡ length out
unfolding laid
length_laid out zs at h =
    length-append (take at out ++ zs) (drop (at + length zs) out)
    ∙ omega (arith, head_length out zs at (omega arith), length-drop (at + length zs) out)

laid_more : (out a b : List ℤ) (at : ℕ) → at ≤ length out → laid (laid out at a) (at + length a) b ≡ laid out at (a ++ b)
unfolding laid
laid_more out a b at h =
    rw (
      take_at (take at out ++ a) (drop (at + length a) out) (at + length a) (head_length out a at h),
      ← drop-drop (length b) (at + length a) (take at out ++ a ++ drop (at + length a) out),
      drop_at (take at out ++ a) (drop (at + length a) out) (at + length a) (head_length out a at h),
      drop-drop (length b) (at + length a) out,
      append_assoc (take at out) a b,
      length-append a b,
      add_assoc at (length a) (length b),
    )
    refl

laid_start : (out zs : List ℤ) → laid out 0 zs ≡ over zs out
unfolding laid
laid_start out zs = rw (zero-add (length zs)) refl

-- a number stored at a place, and others put in the place of those behind it
pub laid_behind : (out zs : List ℤ) (at n : ℕ) (z : ℤ) → at < length out → n ≡ length zs → take (at + 1) (set out at z) ++ (zs ++ drop n (drop (at + 1) (set out at z))) ≡ laid out at (z ∷ zs)
unfolding laid
laid_behind out zs at n z h e =
    let k : suc at + length zs ≡ at + suc (length zs) = omega arith in
    rw (
      e,
      add-one at,
      take-suc-set out at z h,
      drop-drop (length zs) (suc at) (set out at z),
      drop-set-lt (suc at + length zs) out at z (omega arith),
      append_assoc (take at out) (z ∷ []),
      append_assoc (take at out) (z ∷ zs),
    )
    (ap (λ (n : ℕ). take at out ++ (z ∷ (zs ++ drop n out))) k)

-- ---- the numbers of a place and of a centre, one by one
pub three : (ls : List Length) → length ls ≡ 3 → (at ls 0).0 ∷ (at ls 1).0 ∷ (at ls 2).0 ∷ [] ≡ numbers ls
three [] e = absurd (omega arith)
three (a ∷ []) e = absurd (omega arith)
three (a ∷ b ∷ []) e = absurd (omega arith)
three (a ∷ b ∷ c ∷ []) e = refl
three (a ∷ b ∷ c ∷ d ∷ ls) e = absurd (omega arith)

pub two : (ls : List Length) → length ls ≡ 2 → (at ls 0).0 ∷ (at ls 1).0 ∷ [] ≡ numbers ls
two [] e = absurd (omega arith)
two (a ∷ []) e = absurd (omega arith)
two (a ∷ b ∷ []) e = refl
two (a ∷ b ∷ c ∷ ls) e = absurd (omega arith)

-- ---- commands one after the other: what is still to be laid, from a place on, and what the space holds in the end
pub record Ahead (final : List ℤ) (at : ℕ) (out : List ℤ) (cs : List Command) : Type 0 where
  pub room : at + 8 * length cs ≤ length out
  pub rest : laid out at (written cs) ≡ final

pub ahead_all : (out : List ℤ) (cs : List Command) → 8 * length cs ≤ length out → Ahead (over (written cs) out) 0 out cs
ahead_all out cs h = record { room = omega arith; rest = laid_start out (written cs) }

-- after one more command is laid: next is the place behind it, new what the space then holds
module _ {final out new : List ℤ} {at next : ℕ} (c : Command) (cs : List Command) (s : Ahead final at out (c ∷ cs)) (e : (next ≡ at + 8) × (next ≡ at + length (eight c)) × (new ≡ laid out at (eight c))) where
  pub keeps_length : length new ≡ length out
  keeps_length =
      let room = s.room in
      let behind = e.0 in
      ap length e.2 ∙ length_laid out (eight c) at (omega (arith, e.1))

  pub ahead_next : Ahead final next new cs
  ahead_next =
      let room = s.room in
      let behind = e.0 in
      record {
        room = omega (arith, keeps_length);
        rest = rw (e.2, e.1) (laid_more out (eight c) (written cs) at (omega arith) ∙ s.rest);
      }
