-- Bytes moved to the front, and what is held then.
-- Assumes nothing.
use Rattle.std.proofs.Common.{◌≡◌, sym, ap, subst, ◌∙◌, List, ◌++◌, ℕ, ◌+◌, ◌-◌, ◌≤◌, arith, length, take, drop, length-drop, Option, None, Some}
use Rattle.std.specs.List.{copy_within}
use Rattle.std.specs.Io.KnownBytes.{Consumes}
use Rattle.std.proofs.Math.Seq.{take-add, drop_at}
use Rattle.std.proofs.lemmas.List.{take_at, length-take-le}
use Rattle.streams.proofs.Filling.{front_is}
use Rattle.mend.specs.Cutting.{part}
use Rattle.mend.specs.Joining.{ended_lines}
use Rattle.mend.proofs.Joining.{ended_most}
use Rattle.rs274_mend.specs.declared.Kept.{Kept}
use Rattle.rs274_mend.specs.Held.{Held, HeldOf, HeldOn}

pub moved : (bytes now : List ℕ) (from to : ℕ) → from ≤ to → to ≤ length bytes → now ≡ copy_within bytes from to 0 → take (to - from) now ≡ part from to bytes
moved bytes now from to h k e =
    let n = to - from in
    ap (take n) e ∙ take_at (take n (drop from bytes)) (drop (0 + n) bytes) n (length-take-le n (drop from bytes) (omega (arith, length-drop from bytes)))

-- ---- what is held then
part_is : (bytes : List ℕ) (a e : ℕ) → a ≤ e → e ≤ length bytes → part a e bytes ≡ drop a (take e bytes)
part_is bytes a e h k =
    let z : e ≡ a + (e - a) = omega arith in
    sym (ap (λ (n : ℕ). drop a (take n bytes)) z ∙ ap (drop a) (take-add a (e - a) bytes) ∙ drop_at (take a bytes) (part a e bytes) a (length-take-le a bytes (omega arith)))

pub within : (bytes : List ℕ) (end ended : ℕ) → end ≤ length bytes → ended ≡ ended_lines (take end bytes) → ended ≤ end
within bytes end ended h e = omega (arith, ended_most (take end bytes) (length (take end bytes)), length-take-le end bytes h)

pub held_is : (bytes now : List ℕ) (end ended n : ℕ) → end ≤ length bytes → ended ≡ ended_lines (take end bytes) → take n now ≡ part ended end bytes → Held (take end bytes) (take n now)
held_is bytes now end ended n h e m = m ∙ part_is bytes ended end (within bytes end ended h e) h ∙ ap (λ (x : ℕ). drop x (take end bytes)) e

-- a piece was read behind what was held
pub held_on : (a b : Option (List ℕ)) (r : Option Kept) (xs ys rest now : List ℕ) (f n : ℕ) → f ≤ length xs → n ≤ length ys → Consumes a b (take n ys)
    → HeldOf (f + n) (take f xs ++ (ys ++ rest)) r now → HeldOn a b f xs r now
held_on a b None xs ys rest now f n h l read m = tt
held_on a b (Some k) xs ys rest now f n h l read m = (take n ys, read, subst (λ (s : List ℕ). Held s (take k.held now)) (front_is xs ys rest f n h l) m)
