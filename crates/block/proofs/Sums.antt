-- What crate `lengths` gives for sums and differences of small lengths is what `rules` says: nothing comes near the farthest length.
-- Assumes nothing.
use mathlib.Core.Path.{◌≡◌, ap, ◌∙◌}
use Prim.Native.Nat.{ℕ, ◌≤◌}
use native.Mathlib.Omega.{arith}
use native.Mathlib.Nat as N
use lib.IntN.{nat_abs, ◌+ℤ◌, ◌-ℤ◌}
use Rattle.rules.specs.Reach.{converted, ◌plus◌, ◌less◌}
use Rattle.rules.specs.declared.Value.{Value}
use Rattle.rules.specs.declared.Length.{Length}
use Rattle.lengths.specs.Saturated.{saturated}
use Rattle.lengths.proofs.Lengths.{saturated_is}
use Rattle.block.proofs.Bounds.{converted_under, sum_under, less_under}

-- two lengths of at most 4 · 10^18 in size
pub plus_is : (a b : Length) → nat_abs a.0 ≤ 4000000000000000000 → nat_abs b.0 ≤ 4000000000000000000 → saturated (a.0 +ℤ b.0) ≡ a plus b
plus_is a b h k = saturated_is {z = a.0 +ℤ b.0} (record { size = N.le_trans (sum_under a b 4000000000000000000 4000000000000000000 h k) (omega arith) })

pub less_is : (a b : Length) → nat_abs a.0 ≤ 4000000000000000000 → nat_abs b.0 ≤ 4000000000000000000 → saturated (a.0 -ℤ b.0) ≡ a less b
less_is a b h k = saturated_is {z = a.0 -ℤ b.0} (record { size = N.le_trans (less_under a b 4000000000000000000 4000000000000000000 h k) (omega arith) })

-- ---- the sums of target, centre and G92, on an axis
abbrev Short : Length → Type 0
Short l = nat_abs l.0 ≤ 1000000000000

pub word_short : (units : ℕ) (v : Value) → nat_abs v.0 ≤ 999999999 → Short (converted units v)
word_short units v h = N.le_trans (converted_under units v h) (omega arith)

pub from_here : (here word : Length) → Short here → Short word → saturated (here.0 +ℤ word.0) ≡ here plus word
from_here here word h w = plus_is here word (N.le_trans h (omega arith)) (N.le_trans w (omega arith))

pub from_origin : (word origin offset : Length) → Short word → Short origin → Short offset → saturated ((saturated (word.0 +ℤ origin.0)).0 +ℤ offset.0) ≡ (word plus origin) plus offset
from_origin word origin offset w o f =
    ap (λ (l : Length). saturated (l.0 +ℤ offset.0)) (from_here word origin w o)
    ∙ plus_is (word plus origin) offset (N.le_trans (sum_under word origin 1000000000000 1000000000000 w o) (omega arith)) (N.le_trans f (omega arith))

pub new_offset_is : (here origin word : Length) → Short here → Short origin → Short word → saturated ((saturated (here.0 -ℤ origin.0)).0 -ℤ word.0) ≡ (here less origin) less word
new_offset_is here origin word h o w =
    ap (λ (l : Length). saturated (l.0 -ℤ word.0)) (less_is here origin (N.le_trans h (omega arith)) (N.le_trans o (omega arith)))
    ∙ less_is (here less origin) word (N.le_trans (less_under here origin 1000000000000 1000000000000 h o) (omega arith)) (N.le_trans w (omega arith))
