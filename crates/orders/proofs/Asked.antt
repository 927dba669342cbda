-- What is asked for: among the orders from a place on, and among the orders of a line.
-- Assumes nothing.
use mathlib.Core.Path.{◌≡◌, refl, sym}
use mathlib.Core.Bool.{Bool, true, false, cond}
use mathlib.Core.List.{List, [], ◌++◌, append_assoc, append-nil}
use Prim.Native.Nat.{ℕ, ◌+◌, ◌*◌, ◌<◌}
use native.Mathlib.Numerals.{add-one}
use lib.Dec.{ltb}
use Rattle.std.specs.Prelude.{Option, None, Some, option_to_list}
use Rattle.std.specs.Bool.{then_some}
use Rattle.std.proofs.lemmas.Option.{same_Some, none-some}
use lib.ListN.{length, drop, get_or}
use lib.Seq.{drop-cons, drop-length}
use Rattle.rules.specs.Block.{dwells, moves}
use Rattle.rules.specs.Commands.{commands, move_command, only}
use Rattle.rules.specs.declared.Block.{Block}
use Rattle.rules.specs.declared.Record.{Record}
use Rattle.rules.specs.declared.Command.{Command}
use Rattle.orders.specs.Orders.{asked, orders_of, written_by}

pub asked_from : (os : List (Option Command)) (i : ℕ) → i < length os → asked (drop i os) ≡ option_to_list (get_or os i None) ++ asked (drop (i + 1) os)
asked_from os i h = rw (add-one i, drop-cons os i None) refl

pub asked_behind : (os : List (Option Command)) (i : ℕ) → i ≡ length os → asked (drop i os) ≡ []
asked_behind os i e = rw (e, drop-length os) refl

-- ---- the orders of a line are the commands that the rules list for it
as_list : (wanted : Bool) (c : Command) → option_to_list (then_some wanted c) ≡ only wanted c
as_list true c = refl
as_list false c = refl

pub asked_of_line : (b : Block) (m : Record) → asked (orders_of b m.feed m.speed m.tool (then_some (moves b) (move_command b m))) ≡ commands b m
unfolding orders_of commands
asked_of_line b m = rw (as_list (dwells b), as_list (moves b)) (simp (append_assoc, append-nil))

-- what writing told, of the space and of the commands
pub no_room : (cs : List Command) (room : ℕ) → None ≡ written_by cs room → ltb room (8 * length cs) ≡ true
no_room cs room e = by (ltb room (8 * length cs)) e
  where
    by : (short : Bool) → None ≡ cond short None (Some (length cs)) → short ≡ true
    by true e = refl
    by false e = absurd (none-some (length cs) e)

pub room_for : (cs : List Command) (room n : ℕ) → Some n ≡ written_by cs room → (ltb room (8 * length cs) ≡ false) × (n ≡ length cs)
room_for cs room n e = by (ltb room (8 * length cs)) e
  where
    by : (short : Bool) → Some n ≡ cond short None (Some (length cs)) → (short ≡ false) × (n ≡ length cs)
    by true e = absurd (none-some n (sym e))
    by false e = (refl, same_Some n (length cs) e)
