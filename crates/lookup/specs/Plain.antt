-- What the index's answers are on plain numbers.
-- Assumes nothing.
use Rattle.std.specs.Prelude.{◌≡◌, List, ℕ, Option, None, Some, Result, Ok, Err}
use Rattle.index.specs.Index.{refusal_number}
use Rattle.index.specs.Space.{Builds, Replaces}
use Rattle.index.specs.declared.Place.{Place}
use Rattle.index.specs.declared.Refusal.{Refusal}
use Rattle.lookup.specs.declared.Rs274Indexed.{Rs274Indexed}
use Rattle.lookup.specs.declared.Rs274Place.{Rs274Place}

abbrev pub answered : Result ℕ Refusal → Rs274Indexed
answered (Ok n) = record { number = 0; count = n }
answered (Err e) = record { number = refusal_number e; count = 0 }

-- "none" is line 0: lines are counted from 1
abbrev pub placed : Option Place → Rs274Place
placed (Some p) = record { line = p.line; start = p.start }
placed None = record { line = 0; start = 0 }

-- r stands for the answer that is promised
pub record Built (text old : List ℕ) (r : Rs274Indexed) (new : List ℕ) : Type 0 where
  pub answer : Result ℕ Refusal
  pub is : r ≡ answered answer
  pub builds : Builds text old answer new

pub record Replaced (text old : List ℕ) (count k : ℕ) (line : List ℕ) (r : Rs274Indexed) (text' new : List ℕ) : Type 0 where
  pub answer : Result ℕ Refusal
  pub is : r ≡ answered answer
  pub replaces : Replaces text old count k line answer text' new
