-- What numbers 10 and 11 tell of the line's T and P where they are not given.
-- Assumes nothing.
use mathlib.Core.Path.{◌≡◌, refl}
use mathlib.Core.Bool.{Bool, true, false, not, ◌&&◌, ◌||◌, false≢true, true≢false, and-eq-true_iff}
use Prim.Native.Nat.{ℕ, ◌≤◌}
use native.Mathlib.Omega.{arith}
use lib.Dec.{leb}
use lib.IntN.{ℤ, pos, negsuc}
use borrow.Author.Tests.{not-false, leb-true, le-leb}
use Rattle.std.specs.Option.{option_eq}
use Rattle.std.specs.Prelude.{nat_eq, Option, None, Some, IfSome, is_some}
use Rattle.rules.specs.Numbers.{whole, between, counted}
use Rattle.rules.specs.Block.{amount, has, axis, offset, any_of, dwells, sets_origin, machine, sets_offset, names_axis}
use Rattle.rules.specs.Arcs.{arc_move, plane_axes}
use Rattle.rules.specs.Refusals.{moving_code, missing, below0, outside, wrong_word}
use Rattle.rules.specs.declared.Value.{Value}
use Rattle.rules.specs.declared.Block.{Block}
use Rattle.rules.specs.declared.Record.{Record}
use Rattle.block.specs.Bounds.{Numbered}

-- ---- where neither 10 nor 11 is given
pub neither : (a b : Bool) → (a || b) ≡ false → (a ≡ false) × (b ≡ false)
neither true b e = absurd (true≢false e)
neither false b e = (refl, e)

pub not_both : (a b : Bool) → (a && b) ≡ false → a ≡ true → b ≡ false
not_both true b e h = e
not_both false b e h = absurd (false≢true h)

-- a word whose number lies in its range
in_its_range : (low high : ℕ) (w : Option Value) → outside low high w ≡ false → IfSome w (λ v. between low high (whole v.0) ≡ true)
in_its_range low high None e = tt
in_its_range low high (Some v) e = not-false (between low high (whole v.0)) e

given_in_range : (low high : ℕ) (w : Option Value) → is_some w ≡ true → outside low high w ≡ false → between low high (whole (amount w).0) ≡ true
given_in_range low high None g e = absurd (false≢true g)
given_in_range low high (Some v) g e = not-false (between low high (whole v.0)) e

pub numbered : (b : Block) (m : Record) → missing b m ≡ false → wrong_word b ≡ false → Numbered b
unfolding missing wrong_word
numbered b m e w =
    let tool = outside 0 99 b.t in
    let low = below0 b.f || below0 b.s || dwells b && below0 b.p in
    let l = outside 2 2 b.l in
    let p = sets_origin b && outside 1 9 b.p in
    let last = neither (low || tool || l) p w in
    let dwell = dwells b && not (is_some b.p) in
    let both = sets_origin b && not (is_some b.l && is_some b.p) in
    let axes = (sets_offset b || machine b || moving_code b) && not (names_axis b) in
    let arc = arc_move b m && not (any_of (axis b) (plane_axes m.plane) && any_of (offset b) (plane_axes m.plane)) in
    let needed = (neither dwell both (neither (dwell || both) axes (neither (dwell || both || axes) arc e).0).0).1 in
    record {
      tool = in_its_range 0 99 b.t (neither low tool (neither (low || tool) l last.0).0).1;
      system = λ s. given_in_range 1 9 b.p
          ((and-eq-true_iff (is_some b.l) (is_some b.p)).0 (not-false (is_some b.l && is_some b.p) (not_both (sets_origin b) (not (is_some b.l && is_some b.p)) needed s))).1
          (not_both (sets_origin b) (outside 1 9 b.p) last.1 s);
    }

-- ---- a code compared
pub same_code : (c : Option ℕ) (n : ℕ) → option_eq nat_eq c (Some n) ≡ has c n
same_code None n = refl
same_code (Some c) n = refl

-- ---- the number of a system
-- 1 to 9 lies within 0 to 99, the numbers that `number` takes
pub wider : (n : Option ℤ) → between 1 9 n ≡ true → between 0 99 n ≡ true
wider None e = e
wider (Some (negsuc k)) e = e
wider (Some (pos k)) e = rw (le-leb 0 k (omega arith), le-leb k 99 (omega (arith, leb-true k 9 ((and-eq-true_iff (leb 1 k) (leb k 9)).0 e).1))) refl

pub a_system : (n : Option ℤ) → between 1 9 n ≡ true → (1 ≤ counted n) × (counted n ≤ 9)
a_system None e = absurd (false≢true e)
a_system (Some (negsuc k)) e = absurd (false≢true e)
a_system (Some (pos k)) e = (leb-true 1 k ((and-eq-true_iff (leb 1 k) (leb k 9)).0 e).0, leb-true k 9 ((and-eq-true_iff (leb 1 k) (leb k 9)).0 e).1)
