-- What is known of a line's words and of the record while a line is worked: bounds, so that no sum or product can overflow.
-- Assumes nothing.
use Rattle.std.specs.Prelude.{◌≡◌, true, ℕ, ◌≤◌, nat_abs, List, Option, IfSome}
use Rattle.rules.specs.Numbers.{whole, between}
use Rattle.rules.specs.Block.{amount, sets_origin}
use Rattle.rules.specs.Reach.{at}
use Rattle.rules.specs.declared.Length.{Length}
use Rattle.rules.specs.declared.Value.{Value}
use Rattle.rules.specs.declared.Block.{Block}
use Rattle.rules.specs.declared.Record.{Record}
use Rattle.checks.specs.Modes.{word_at}

-- lengths that are each at most n in size, and words whose values are all in range
abbrev pub Under : ℕ → List Length → Type 0
Under n ls = (i : ℕ) → nat_abs (at ls i).0 ≤ n

abbrev pub Worded : List (Option Value) → Type 0
Worded ws = (i : ℕ) → nat_abs (amount (word_at ws i)).0 ≤ 999999999

-- every word's value is in range
pub record Ranged (b : Block) : Type 0 where
  pub axes : Worded b.axes
  pub offsets : Worded b.offsets
  pub f : nat_abs (amount b.f).0 ≤ 999999999
  pub s : nat_abs (amount b.s).0 ≤ 999999999
  pub t : nat_abs (amount b.t).0 ≤ 999999999
  pub l : nat_abs (amount b.l).0 ≤ 999999999
  pub p : nat_abs (amount b.p).0 ≤ 999999999

-- every length of the record is small enough to be added to. (A G92 offset or an origin just set may be out of reach until number 13 is asked.)
pub record Small (r : Record) : Type 0 where
  pub position : Under 1000000000000 r.position
  pub origins : Under 1000000000000 r.origins
  pub offset : Under 1000000000000 r.offset

-- the whole numbers that T and G10's P count as lie in their ranges. (Numbers 10 and 11 see to it.)
pub record Numbered (b : Block) : Type 0 where
  pub tool : IfSome b.t (λ v. between 0 99 (whole v.0) ≡ true)
  pub system : sets_origin b ≡ true → between 1 9 (whole (amount b.p).0) ≡ true
