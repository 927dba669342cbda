-- The record as plain numbers, as a control's firmware holds it, and the promise read through that packing.
-- Assumes nothing.
use Rattle.std.specs.Prelude.{◌≡◌, Bool, true, false, ◌&&◌, List, [], ◌∷◌, ◌++◌, map, ℕ, eqb, length, take, drop, get_or, ℤ, pos, nat_abs}
use Rattle.std.specs.List.{list_all}
use Rattle.rules.specs.Reach.{counts, up_to}
use Rattle.rules.specs.Commands.{numbers}
use Rattle.rules.specs.Promise.{After, Right, number_of, count_of}
use Rattle.rules.specs.declared.Length.{Length}
use Rattle.rules.specs.declared.Record.{Record}
use Rattle.rules.specs.declared.Answer.{Answer}
use Rattle.embed.specs.declared.Rs274Answer.{Rs274Answer}

-- the modes, and what stands behind them
abbrev pub modes : Record → List ℤ
modes r = pos r.motion ∷ pos r.plane ∷ pos r.distance ∷ pos r.units ∷ pos r.system ∷ []

abbrev pub quantities : Record → List ℤ
quantities r = r.feed.0 ∷ r.speed.0 ∷ pos r.tool ∷ pos r.spindle ∷ pos r.coolant ∷ []

-- 43 numbers: 0–2 position, 3–29 origins by system then axis, 30–32 offset, 33 motion, 34 plane, 35 distance, 36 units, 37 system,
-- 38 feed, 39 speed, 40 tool, 41 spindle, 42 coolant
abbrev pub packed : Record → List ℤ
packed r =
    numbers r.position ++ (numbers r.origins ++ (numbers r.offset
    ++ (pos r.motion ∷ pos r.plane ∷ pos r.distance ∷ pos r.units ∷ pos r.system
    ∷ r.feed.0 ∷ r.speed.0 ∷ pos r.tool ∷ pos r.spindle ∷ pos r.coolant ∷ [])))

-- the number at a place
abbrev pub number_at : List ℤ → ℕ → ℤ
number_at zs i = get_or zs i (pos 0)

-- n numbers from a place on
abbrev pub numbers_at : List ℤ → ℕ → ℕ → List ℤ
numbers_at zs at n = take n (drop at zs)

-- n lengths from a place on
abbrev pub lengths_at : List ℤ → ℕ → ℕ → List Length
lengths_at zs at n = map counts (numbers_at zs at n)

-- the record that they stand for
unfoldable pub unpacked : List ℤ → Record
unpacked zs = record {
  position = lengths_at zs 0 3;
  origins = lengths_at zs 3 27;
  offset = lengths_at zs 30 3;
  motion = nat_abs (number_at zs 33);
  plane = nat_abs (number_at zs 34);
  distance = nat_abs (number_at zs 35);
  units = nat_abs (number_at zs 36);
  system = nat_abs (number_at zs 37);
  feed = counts (number_at zs 38);
  speed = record { 0 = number_at zs 39 };
  tool = nat_abs (number_at zs 40);
  spindle = nat_abs (number_at zs 41);
  coolant = nat_abs (number_at zs 42);
}

-- every one of them is from 0 to high
unfoldable pub all_up_to : ℕ → List ℤ → Bool
all_up_to high zs = list_all (up_to high) zs

-- they are 43, and each is one that its field can hold: modes from 0 to 65,535, tool, spindle and coolant from 0 to 255
unfoldable pub holdable : List ℤ → Bool
holdable zs = eqb (length zs) 43 && all_up_to 65535 (numbers_at zs 33 5) && all_up_to 255 (numbers_at zs 40 3)

-- all that a call leaves, in plain numbers
pub record Plain : Type 0 where
  pub answer : Rs274Answer
  pub rec : List ℤ
  pub table : List ℤ
  pub out : List ℤ

-- the number that an answer carries, the count of its commands, and the place and the work that are reported with it
abbrev pub answered : Answer → ℕ → ℕ → Rs274Answer
answered a place work = record { number = number_of a; count = count_of a; place = place; work = work }

-- what the promise speaks of, in plain numbers
abbrev pub plain : After → Plain
plain a = record {
  answer = answered a.outcome.answer a.place a.work;
  rec = packed a.outcome.rec;
  table = a.table;
  out = a.out;
}

-- number 1, and nothing is changed
abbrev pub unheld : List ℤ → List ℤ → List ℤ → Plain
unheld rec table out = record { answer = record { number = 1; count = 0; place = 0; work = 0 }; rec = rec; table = table; out = out }

-- what is left is what the promise allows for the record that the numbers stand for; numbers that stand for none are number 1
pub record Embedded (line : List ℕ) (switch : Bool) (rec table out : List ℤ) (left : Plain) : Type 0 where
  pub held : holdable rec ≡ true → (a : After) × Right line switch (unpacked rec) table out a × (left ≡ plain a)
  pub not_held : holdable rec ≡ false → left ≡ unheld rec table out
