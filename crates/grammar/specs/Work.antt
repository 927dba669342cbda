-- How much work a derivation is, how deep it nests, and the bytes that bound its work. The quoted sentences are of request 12 in document 02.
-- Assumes nothing.
use Rattle.std.specs.Prelude.{cond, List, [], ◌∷◌, ℕ, suc, ◌+◌, max, eqb}
use Rattle.grammar.specs.Bytes.{byte}
use Rattle.grammar.specs.Grammar.{Value, number, parameter, applied, grouped, Expr, expr, Rest, done, more, Item, word, setting, comment, Mark, unmarked, plain, conditional, Line, line}
use Rattle.grammar.specs.Derivation.{blank}

-- ---- "the values and operations worked out: one for each value and each operator in its derivation"

abbrev mutual
  pub value_work : Value → ℕ
  value_work (number n) = 1
  value_work (parameter v) = suc (value_work v)
  value_work (applied f e) = suc (expr_work e)
  value_work (grouped e) = suc (expr_work e)

  pub expr_work : Expr → ℕ
  expr_work (expr v r) = value_work v + rest_work r

  pub rest_work : Rest → ℕ
  rest_work done = 0
  rest_work (more o v r) = suc (value_work v + rest_work r)

abbrev pub item_work : Item → ℕ
item_work (word b v) = value_work v
item_work (setting v w) = value_work v + value_work w
item_work (comment bs) = 0

abbrev pub items_work : List Item → ℕ
items_work [] = 0
items_work (i ∷ is) = item_work i + items_work is

-- a condition is an expression and no value
abbrev pub mark_work : Mark → ℕ
mark_work unmarked = 0
mark_work (plain k) = 0
mark_work (conditional k e) = expr_work e

abbrev pub work : Line → ℕ
work (line m n is) = mark_work m + items_work is

-- ---- "Nesting, of `[` and `#` one within another in the derivation (a setting's first `#` aside)"

abbrev mutual
  pub value_depth : Value → ℕ
  value_depth (number n) = 0
  value_depth (parameter v) = suc (value_depth v)
  value_depth (applied f e) = suc (expr_depth e)
  value_depth (grouped e) = suc (expr_depth e)

  -- within its brackets
  pub expr_depth : Expr → ℕ
  expr_depth (expr v r) = max (value_depth v) (rest_depth r)

  pub rest_depth : Rest → ℕ
  rest_depth done = 0
  rest_depth (more o v r) = max (value_depth v) (rest_depth r)

abbrev pub item_depth : Item → ℕ
item_depth (word b v) = value_depth v
item_depth (setting v w) = max (value_depth v) (value_depth w)
item_depth (comment bs) = 0

abbrev pub items_depth : List Item → ℕ
items_depth [] = 0
items_depth (i ∷ is) = max (item_depth i) (items_depth is)

abbrev pub mark_depth : Mark → ℕ
mark_depth unmarked = 0
mark_depth (plain k) = 0
mark_depth (conditional k e) = suc (expr_depth e)

abbrev pub depth : Line → ℕ
depth (line m n is) = max (mark_depth m) (items_depth is)

-- ---- "the line's bytes that are neither blank nor in a comment", of the line as it is typed

unfoldable mutual
  pub bare_bytes : List ℕ → ℕ
  bare_bytes [] = 0
  bare_bytes (b ∷ s) = cond (blank b) (bare_bytes s) (cond (eqb b (byte "(")) (bare_after s) (suc (bare_bytes s)))

  -- those after the end of a comment
  pub bare_after : List ℕ → ℕ
  bare_after [] = 0
  bare_after (b ∷ s) = cond (eqb b (byte ")")) (bare_bytes s) (bare_after s)
