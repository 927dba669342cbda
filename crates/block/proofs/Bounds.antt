-- How large the lengths can be that a line's work meets: those of a record in order, and those of the record once the line's steps are done.
-- Assumes nothing.
use mathlib.Core.Path.{◌≡◌}
use mathlib.Core.Bool.{Bool, true, false, cond}
use mathlib.Core.List.{List, [], ◌∷◌, map}
use Prim.Native.Nat.{ℕ, zero, suc, ◌+◌, ◌*◌, ◌≤◌}
use native.Mathlib.Omega.{arith}
use lib.Dec.{eqb}
use lib.IntN.{nat_abs}
use lib.ListN.{set}
use Rattle.std.specs.Prelude.{Option, None, Some}
use Rattle.std.specs.Option.{option_map_or}
use Rattle.laws.proofs.Ints.{within_sum, within_diff, abs_product}
use Rattle.rules.specs.Codes.{system_number}
use Rattle.rules.specs.Block.{amount, axis, all_axes, sets_origin, sets_offset, zeroes_offset}
use Rattle.rules.specs.Reach.{per_ten_thousandth, converted, ◌plus◌, ◌less◌, nowhere, at, in_reach, in_order, fresh}
use Rattle.rules.specs.With.{with_origins}
use Rattle.rules.specs.Steps.{origin_step, offset_step, ready, long, origin_place, origin_of, origin_system, origin, named, origins_set, offset_at, no_offset}
use Rattle.rules.specs.declared.Value.{Value}
use Rattle.rules.specs.declared.Length.{Length}
use Rattle.rules.specs.declared.Block.{Block}
use Rattle.rules.specs.declared.Record.{Record}
use Rattle.record.proofs.InOrder.{on_axis, told}
use Rattle.block.specs.Bounds.{Ranged, Small, Under}
use Rattle.block.proofs.Ready.{before_g10, after_g10, ready_is}
use native.Mathlib.Nat as N

-- ---- lists of lengths, each at most n in size
pub in_reach_holds : (ls : List Length) → in_reach ls ≡ true → Under 1000000000 ls
in_reach_holds ls e i = (on_axis ls e i).size

pub under_le : (ls : List Length) (m n : ℕ) → m ≤ n → Under m ls → Under n ls
under_le ls m n h u i = N.le_trans (u i) h

under_cond : (n : ℕ) (c : Bool) (ls ms : List Length) → Under n ls → Under n ms → Under n (cond c ls ms)
under_cond n true ls ms u v = u
under_cond n false ls ms u v = v

under_set : (n : ℕ) (ls : List Length) (k : ℕ) (l : Length) → nat_abs l.0 ≤ n → Under n ls → Under n (set ls k l)
under_set n [] k l h u i = u i
under_set n (x ∷ xs) zero l h u zero = h
under_set n (x ∷ xs) zero l h u (suc i) = u (suc i)
under_set n (x ∷ xs) (suc k) l h u zero = u zero
under_set n (x ∷ xs) (suc k) l h u (suc i) = under_set n xs k l h (λ j. u (suc j)) i

pub under_map : (n : ℕ) (f : ℕ → Length) (is : List ℕ) → ((i : ℕ) → nat_abs (f i).0 ≤ n) → Under n (map f is)
under_map n f [] h i = omega arith
under_map n f (j ∷ js) h zero = h j
under_map n f (j ∷ js) h (suc i) = under_map n f js h i

pub origin_under : (n : ℕ) (os : List Length) (k : ℕ) → Under n os → Under n (origin_of (with_origins os fresh) k)
origin_under n os k u = under_map n (λ (i : ℕ). at os (origin_place k i)) all_axes (λ i. u (origin_place k i))

-- a length by a word, or another
by_word : (n : ℕ) (w : Option Value) (f : Value → Length) (b : Length) → nat_abs (f (amount w)).0 ≤ n → nat_abs b.0 ≤ n → nat_abs (option_map_or f w b).0 ≤ n
by_word n None f b h k = k
by_word n (Some v) f b h k = h

-- ---- sums, differences and words
pub sum_under : (a b : Length) (m n : ℕ) → nat_abs a.0 ≤ m → nat_abs b.0 ≤ n → nat_abs (a plus b).0 ≤ m + n
sum_under a b m n h k = (within_sum {a = a.0} {b = b.0} (record { size = h }) (record { size = k })).size

pub less_under : (a b : Length) (m n : ℕ) → nat_abs a.0 ≤ m → nat_abs b.0 ≤ n → nat_abs (a less b).0 ≤ m + n
less_under a b m n h k = (within_diff {a = a.0} {b = b.0} (record { size = h }) (record { size = k })).size

pub converted_under : (units : ℕ) (v : Value) → nat_abs v.0 ≤ 999999999 → nat_abs (converted units v).0 ≤ 253999999746
unfolding converted
converted_under units v h = rw (abs_product v.0 (per_ten_thousandth units)) (go (eqb units 200))
  where
    go : (c : Bool) → nat_abs v.0 * cond c 254 10 ≤ 253999999746
    go true = omega arith
    go false = omega arith

-- ---- a record in order
pub small : (r : Record) → in_order r ≡ true → Small r
small r e = record {
  position = under_le r.position 1000000000 1000000000000 (omega arith) (in_reach_holds r.position (told r e).position);
  origins = under_le r.origins 1000000000 1000000000000 (omega arith) (in_reach_holds r.origins (told r e).origins);
  offset = under_le r.offset 1000000000 1000000000000 (omega arith) (in_reach_holds r.offset (told r e).offset);
}

-- ---- the record as the motion step finds it: a new origin is a word, a new offset the sum of a position, an origin and a word
named_under : (b : Block) (r : Record) (n i : ℕ) (old : Length) → Ranged b → 253999999746 ≤ n → nat_abs old.0 ≤ n → nat_abs (named b r i old).0 ≤ n
named_under b r n i old q h k = by_word n (axis b i) (long r) old (N.le_trans (converted_under r.units (amount (axis b i)) (q.axes i)) h) k

origins_under : (b : Block) (r : Record) (n : ℕ) (is : List ℕ) (os : List Length) → Ranged b → 253999999746 ≤ n → Under n os → Under n (origins_set b r is os)
origins_under b r n [] os q h u = u
origins_under b r n (i ∷ is) os q h u =
    let place = origin_place (origin_system b) i in
    let new = named b r i (at os place) in
    origins_under b r n is (set os place new) q h (under_set n os place new (named_under b r n i (at os place) q h (u place)) u)

pub g10_under : (b : Block) (m : Record) (n : ℕ) → Ranged b → 253999999746 ≤ n → Under n m.origins → Under n (origin_step b m).origins
unfolding origin_step
g10_under b m n q h u = under_cond n (sets_origin b) (origins_set b m all_axes m.origins) m.origins (origins_under b m n all_axes m.origins q h u) u

-- where the origins are as large as a word
offset_under : (b : Block) (r : Record) (i : ℕ) → Ranged b → Under 1000000000 r.position → Under 253999999746 r.origins → Under 1000000000 r.offset → nat_abs (offset_at b r i).0 ≤ 1000000000000
offset_under b r i q p o f =
    by_word 1000000000000 (axis b i) (λ v. (at r.position i less origin r i) less long r v) (at r.offset i)
    (N.le_trans
    (less_under (at r.position i less origin r i) (long r (amount (axis b i))) 254999999746 253999999746
    (less_under (at r.position i) (origin r i) 1000000000 253999999746 (p i) (o (origin_place (system_number r.system) i)))
    (converted_under r.units (amount (axis b i)) (q.axes i)))
    (omega arith))
    (N.le_trans (f i) (omega arith))

pub g92_under : (b : Block) (m : Record) → Ranged b → Under 1000000000 m.position → Under 253999999746 m.origins → Under 1000000000 m.offset → Under 1000000000000 (offset_step b m).offset
unfolding offset_step
g92_under b m q p o f =
    under_cond 1000000000000 (sets_offset b) (map (offset_at b m) all_axes) (cond (zeroes_offset b) no_offset m.offset)
    (under_map 1000000000000 (offset_at b m) all_axes (λ i. offset_under b m i q p o f))
    (under_cond 1000000000000 (zeroes_offset b) no_offset m.offset
    (under_map 1000000000000 (λ (i : ℕ). nowhere) all_axes (λ i. omega arith))
    (under_le m.offset 1000000000 1000000000000 (omega arith) f))

pub ready_small : (b : Block) (r : Record) → Ranged b → in_order r ≡ true → Small (ready b r)
ready_small b r q e =
    let position = in_reach_holds r.position (told r e).position in
    let origins = g10_under b (before_g10 b r) 253999999746 q (omega arith) (under_le r.origins 1000000000 253999999746 (omega arith) (in_reach_holds r.origins (told r e).origins)) in
    rw (ready_is b r) (record {
      position = (small r e).position;
      origins = under_le (after_g10 b r).origins 253999999746 1000000000000 (omega arith) origins;
      offset = g92_under b (after_g10 b r) q position origins (in_reach_holds r.offset (told r e).offset);
    })
