-- `embed::unpack` meets its contract.
-- Assumes nothing.
use Rattle.std.proofs.Common.{rules}
use Rattle.laws.proofs.Ints.{back}
use mathlib.Core.Path.{◌≡◌, refl}
use mathlib.Core.Bool.{true}
use Prim.Native.Nat.{ℕ, ◌+◌, ◌<◌}
use native.Mathlib.Omega.{arith}
use lib.ListN.{length, get_or}
use lib.IntN.{ℤ, pos}
use mathlib.Core.List.{List}
use Rattle.rules.specs.Reach.{up_to}
use Rattle.embed.specs.Packing.{unpacked, number_at, holdable}
use Rattle.embed.proofs.Held.{long, mode, small}
use Rattle.embed.proofs.unpack.Goals as goal

pub lengths_at-requires : goal.lengths_at-requires
lengths_at-requires c = omega (arith, long c.args.rec.now c.requires)

pub lengths_at-requires-2 : goal.lengths_at-requires-2
lengths_at-requires-2 c = omega (arith, long c.args.rec.now c.requires)

pub lengths_at-requires-3 : goal.lengths_at-requires-3
lengths_at-requires-3 c = omega (arith, long c.args.rec.now c.requires)

pub bounds-rec-38 : goal.bounds-rec-38
bounds-rec-38 c = omega (arith, long c.args.rec.now c.requires)

pub bounds-rec-39 : goal.bounds-rec-39
bounds-rec-39 c = omega (arith, long c.args.rec.now c.requires)

pub returns : goal.returns
unfolding unpacked
returns c =
    rw (
      c.small_at-3.ensures,
      c.small_at-2.ensures,
      c.small_at.ensures,
      back (get_or c.args.rec.now 39 (pos 0)) (search rules),
      back (get_or c.args.rec.now 38 (pos 0)) (search rules),
      c.mode_at-5.ensures,
      c.mode_at-4.ensures,
      c.mode_at-3.ensures,
      c.mode_at-2.ensures,
      c.mode_at.ensures,
      c.lengths_at-3.ensures,
      c.lengths_at-2.ensures,
      c.lengths_at.ensures,
    ) refl

-- a record that is held has a mode at each of five places, and a small number at each of three
mode_at : (rec : List ℤ) → holdable rec ≡ true → (i : ℕ) → i < 5 → (33 + i < length rec) × (up_to 65535 (number_at rec (33 + i)) ≡ true)
mode_at rec h i l = (omega (arith, long rec h), mode rec h i l)

small_at : (rec : List ℤ) → holdable rec ≡ true → (i : ℕ) → i < 3 → (40 + i < length rec) × (up_to 255 (number_at rec (40 + i)) ≡ true)
small_at rec h i l = (omega (arith, long rec h), small rec h i l)

pub mode_at-requires : goal.mode_at-requires
mode_at-requires c = mode_at c.args.rec.now c.requires 0 (omega arith)

pub mode_at-requires-2 : goal.mode_at-requires-2
mode_at-requires-2 c = mode_at c.args.rec.now c.requires 1 (omega arith)

pub mode_at-requires-3 : goal.mode_at-requires-3
mode_at-requires-3 c = mode_at c.args.rec.now c.requires 2 (omega arith)

pub mode_at-requires-4 : goal.mode_at-requires-4
mode_at-requires-4 c = mode_at c.args.rec.now c.requires 3 (omega arith)

pub mode_at-requires-5 : goal.mode_at-requires-5
mode_at-requires-5 c = mode_at c.args.rec.now c.requires 4 (omega arith)

pub small_at-requires : goal.small_at-requires
small_at-requires c = small_at c.args.rec.now c.requires 0 (omega arith)

pub small_at-requires-2 : goal.small_at-requires-2
small_at-requires-2 c = small_at c.args.rec.now c.requires 1 (omega arith)

pub small_at-requires-3 : goal.small_at-requires-3
small_at-requires-3 c = small_at c.args.rec.now c.requires 2 (omega arith)
