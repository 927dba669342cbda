-- What the functions answer that read values and items to a limit of nesting, from the tree that the grammar's reader finds: what it comes to and its work where
-- it nests no deeper, and otherwise that it does, with the place past it all the same. No public contract cites it.
-- Assumes nothing.
use Rattle.std.specs.Prelude.{cond, List, Option, Some, None, Result, Ok, Err, ℕ, ◌+◌, ◌<◌, ltb, ℤ, length, drop}
use Rattle.grammar.specs.Bytes.{bytes}
use Rattle.grammar.specs.Grammar.{Value, Expr, Rest, Item}
use Rattle.grammar.specs.Work.{value_work, expr_work, rest_work, item_work, value_depth, expr_depth, rest_depth, item_depth}
use Rattle.grammar.specs.Working.{Step, skip, give, stop, value, expression, pairs, step_of}
use Rattle.grammar.proofs.Read.{eat}
use Rattle.grammar.proofs.Terms.{one_pass}
use Rattle.grammar.proofs.Place.{Placed, wrong, found, bind_p, place}
use Rattle.grammar.proofs.Trees.{value_t, item_t}
use Rattle.grammar.specs.declared.Func.{Func}
use Rattle.rules.specs.Named.{refusal_of}
use Rattle.rules.specs.Meaning.{Worked, Entry, word_is, setting_is, word_of, setting_of, parameter_of}
use Rattle.rules.specs.declared.Value.{Value as Amount}
use Rattle.rules.specs.declared.Refusal.{Refusal}
use Rattle.rules.specs.declared.Refusal.TheVariants.{NoParameter}
use Rattle.arithmetic.specs.Guarded.{apply, lookup}
use Rattle.reader.specs.Pass.{guarded, pass}
use Rattle.reader.specs.declared.terms.State.{State}
use Rattle.reader.specs.declared.values.Came.{Came}
use Rattle.reader.specs.declared.values.NoValue.{NoValue}
use Rattle.reader.specs.declared.values.NoValue.TheVariants.{Deep, Wrong}
use Rattle.reader.specs.declared.items.Item.{Item as Answer}
use Rattle.reader.specs.declared.items.Item.TheVariants.{Word, Setting, Comment, Stop, Deep as DeepItem, End}

-- ---- values

abbrev pub came : Worked → ℕ → ℕ → Came
came a w p = record { worked = a; work = w; next = p }

-- what nests n deep and comes to a by work w, under a limit of k
abbrev pub held : ℕ → ℕ → Worked → ℕ → ℕ → Result Came NoValue
held k n a w p = cond (ltb k n) (Err (Deep p)) (Ok (came a w p))

module _ (t : List ℤ) (k : ℕ) where
  abbrev pub of_value : Placed Value → Result Came NoValue
  of_value (wrong p) = Err (Wrong p)
  of_value (found v p) = held k (value_depth v) (value (guarded t) v) (value_work v) p

  -- within its brackets
  abbrev pub of_expression : Placed Expr → Result Came NoValue
  of_expression (wrong p) = Err (Wrong p)
  of_expression (found e p) = held k (expr_depth e) (expression (guarded t) e) (expr_work e) p

  -- the rest of an expression that has come to a state, by work w so far
  abbrev pub of_rest : State → ℕ → Placed Rest → Result Came NoValue
  of_rest st w (wrong p) = Err (Wrong p)
  of_rest st w (found q p) = held k (rest_depth q) (one_pass (pass t) st (pairs (guarded t) q)) (w + rest_work q) p

abbrev pub of_number : Result (Worked × ℕ) ℕ → Result Came NoValue
of_number (Ok r) = Ok (came r.0 1 r.1)
of_number (Err p) = Err (Wrong p)

abbrev pub deepened : Result ℕ ℕ → NoValue
deepened (Ok p) = Deep p
deepened (Err p) = Wrong p

-- the work of a value can be counted one further
abbrev pub Counted : Result Came NoValue → Type 0
Counted (Ok x) = x.work < 9223372036854775807
Counted (Err why) = Unit {0}

abbrev pub entry_of : List ℤ → Result Came NoValue → Result Came NoValue
entry_of t (Ok x) = Ok (came (lookup t x.worked) (x.work + 1) x.next)
entry_of t (Err why) = Err why

abbrev pub function_of : Func → Result Came NoValue → Result Came NoValue
function_of f (Ok x) = Ok (came (apply f x.worked) (x.work + 1) x.next)
function_of f (Err why) = Err why

abbrev pub enclosed : Result Came NoValue → Result Came NoValue
enclosed (Ok x) = Ok (came x.worked (x.work + 1) x.next)
enclosed (Err why) = Err why

-- ---- items

-- what an item gives, its work, and the place past it
abbrev pub item_by : Step Entry → ℕ → ℕ → Answer
item_by skip w p = Comment p
item_by (give (word_is b v)) w p = Word b (record { 0 = v }) w p
item_by (give (setting_is n v)) w p = Setting n (record { 0 = v }) w p
item_by (stop n) w p = Stop (refusal_of n) p

-- a word with its value, and a setting with its two
abbrev pub word_item : ℕ → Came → Answer
word_item b x = item_by (word_of b x.worked) x.work x.next

-- an item whose value is not worked out
abbrev pub valueless : NoValue → Result Answer ℕ
valueless (Deep p) = Ok (DeepItem p)
valueless (Wrong p) = Err p

-- the parameter that a setting names and its value, or the first refusal of the two
abbrev pub set_at : Option ℕ → Worked → Result (ℕ × Amount) Refusal
set_at None w = Err NoParameter
set_at (Some n) (Ok v) = Ok (n, v)
set_at (Some n) (Err why) = Err why

abbrev pub set_by : Worked → Worked → Result (ℕ × Amount) Refusal
set_by (Ok v) w = set_at (parameter_of v.0) w
set_by (Err why) w = Err why

abbrev pub setting_item : Worked → Worked → ℕ → ℕ → Answer
setting_item number amount w p = item_by (setting_of number amount) w p

-- `=` and a setting's value
abbrev pub amount_t : List ℕ → ℕ → Placed Value
amount_t s at = bind_p (place s (eat {A = Unit {0}} (bytes "=") tt (drop at s))) (λ _ q. value_t s q)

abbrev pub of_item : List ℤ → ℕ → Placed Item → Result Answer ℕ
of_item t k (wrong p) = Err p
of_item t k (found i p) = Ok (cond (ltb k (item_depth i)) (DeepItem p) (item_by (step_of (guarded t) i) (item_work i) p))

-- the item at a place of the prepared line s, or the line's end
unfoldable pub item_at : List ℤ → List ℕ → ℕ → Result Answer ℕ
item_at t s at = cond (ltb at (length s)) (of_item t 24 (item_t s at)) (Ok End)
