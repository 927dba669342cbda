-- Form alone, by places: the place past a value, and past the rest of an expression, or the first wrong place. What is left to come at a place is said by
-- the number of open brackets and by whether a value is due or done.
-- Assumes nothing.
use Rattle.std.specs.Prelude.{◌≡◌, cond, List, Result, Ok, Err, ℕ, zero, suc, ◌+◌, ◌-◌, ◌*◌, ◌≤◌, ◌<◌, length}
use Rattle.grammar.proofs.Place.{Placed, found, bind_p, map_p}
use Rattle.grammar.proofs.Trees.{value_t, rest_t}
use Rattle.reader.specs.Places.{spelt_to}
use Rattle.reader.specs.declared.passage.Way.{Way}

module _ (s : List ℕ) where
  -- past a value, and past the rest of an expression with its `]`
  unfoldable pub value_e : ℕ → Placed (Unit {0})
  value_e at = map_p (λ _. tt) (value_t s at)

  unfoldable pub rest_e : ℕ → Placed (Unit {0})
  rest_e at = map_p (λ _. tt) (rest_t s at)

  -- past the rests of so many expressions, one after the other
  abbrev pub shut : ℕ → ℕ → Placed (Unit {0})
  shut zero at = found tt at
  shut (suc brackets) at = bind_p (rest_e at) (λ _ p. shut brackets p)

  -- past a value, and then those
  abbrev pub due : ℕ → ℕ → Placed (Unit {0})
  due brackets at = bind_p (value_e at) (λ _ p. shut brackets p)

  -- past all that is still to come
  unfoldable pub onward : Way → Placed (Unit {0})
  onward w = cond w.due (due w.brackets w.at) (shut w.brackets w.at)

  -- what falls with each step: the bytes unread, twice, and one for a value that is due
  abbrev pub left : Way → ℕ
  left w = 2 * (length s - w.at) + cond w.due 1 0

  -- a step on keeps what is to come, and leaves less of it
  pub record Onto (from to : Way) : Type 0 where
    pub same : onward to ≡ onward from
    pub within : to.at ≤ length s
    pub opened : to.brackets ≤ to.at
    pub less : left to < left from

  -- a step on, or the place where what is to come is wrong
  abbrev pub StepOf : Way → Result Way ℕ → Type 0
  StepOf w (Ok to) = Onto w to
  StepOf w (Err p) = Err p ≡ spelt_to (onward w)
