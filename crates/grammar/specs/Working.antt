-- In which order the values of a tree are worked out, whatever the arithmetic is. What numbers, parameters, functions and operations come to is handed in;
-- so is what a word, a setting or a condition gives. W is what a value comes to (a value or a refusal), E what an item gives.
-- Assumes nothing.
use Rattle.std.specs.Prelude.{Bool, true, false, cond, List, [], ◌∷◌, ℕ}
use Rattle.grammar.specs.Grammar.{Number, Value, number, parameter, applied, grouped, Expr, expr, Rest, done, more, Item, word, setting, comment, Stroke, Mark, unmarked, plain, conditional, Line, line}
use Rattle.grammar.specs.Derivation.{Form, derived, breaks_at}
use Rattle.grammar.specs.Work.{work, depth}
use Rattle.grammar.specs.declared.Op.{Op}
use Rattle.grammar.specs.declared.Op.TheVariants.{Add, Sub, Mul, Div, Mod, And, Or, Xor}
use Rattle.grammar.specs.declared.Func.{Func}

-- what one item gives: nothing (a comment, or a condition that says yes), a word or a setting, or the number that stops the reading
pub data Step (E : Type 0) : Type 0 where
  skip : Step E
  give : E → Step E
  stop : ℕ → Step E

-- words and settings in order, up to the first number that stops the reading
pub data Took (E : Type 0) : Type 0 where
  end : Took E
  stopped : ℕ → Took E
  took : E → Took E → Took E

-- all that a line's derivation gives: its words and settings, its work, and how deep it nests
pub record Contents (E : Type 0) : Type 0 where
  pub entries : Took E
  pub work : ℕ
  pub depth : ℕ

-- the arithmetic that is handed in; `enclose` is what brackets make of a value
pub record Arithmetic (W E : Type 0) : Type 0 where
  pub number_of : Number → W
  pub lookup : W → W
  pub apply : Func → W → W
  pub enclose : W → W
  pub work : Op → W → W → W
  pub word_of : ℕ → W → Step E
  pub setting_of : W → W → Step E
  pub condition_of : Stroke → W → Step E

-- "`* / MOD` bind before the rest"
abbrev pub high : Op → Bool
high Mul = true
high Div = true
high Mod = true
high Add = false
high Sub = false
high And = false
high Or = false
high Xor = false

-- an operator with what stands on its right
pub data Pair (W : Type 0) : Type 0 where
  pair : Op → W → Pair W

-- the first term, and the other terms with the operators before them
pub record Sum (W : Type 0) : Type 0 where
  pub first : W
  pub others : List (Pair W)

abbrev pub push : {W : Type 0} → W → Op → Sum W → Sum W
push a o s = record { first = a; others = pair o s.first ∷ s.others }

abbrev pub after : {E : Type 0} → Step E → Took E → Took E
after skip t = t
after (give e) t = took e t
after (stop n) t = stopped n

module _ {W E : Type 0} (A : Arithmetic W E) where
  -- the terms, each multiplied out: "equals go left to right"
  abbrev pub terms : W → List (Pair W) → Sum W
  terms a [] = record { first = a; others = [] }
  terms a (pair o b ∷ l) = cond (high o) (terms (A.work o a b) l) (push a o (terms b l))

  -- and the terms joined, left to right
  abbrev pub total : W → List (Pair W) → W
  total a [] = a
  total a (pair o b ∷ l) = total (A.work o a b) l

  abbrev pub in_order : W → List (Pair W) → W
  in_order a l = total (terms a l).first (terms a l).others

  -- what a value and an expression come to
  abbrev mutual
    pub value : Value → W
    value (number n) = A.number_of n
    value (parameter v) = A.lookup (value v)
    value (applied f e) = A.apply f (expression e)
    value (grouped e) = A.enclose (expression e)

    pub expression : Expr → W
    expression (expr v r) = in_order (value v) (pairs r)

    pub pairs : Rest → List (Pair W)
    pairs done = []
    pairs (more o v r) = pair o (value v) ∷ pairs r

  abbrev pub step_of : Item → Step E
  step_of (word b v) = A.word_of b (value v)
  step_of (setting v w) = A.setting_of (value v) (value w)
  step_of (comment bs) = skip

  abbrev pub entries : List Item → Took E
  entries [] = end
  entries (i ∷ is) = after (step_of i) (entries is)

  -- "The condition is worked out first"
  abbrev pub mark_step : Mark → Step E
  mark_step unmarked = skip
  mark_step (plain k) = skip
  mark_step (conditional k e) = A.condition_of k (expression e)

  -- "reading returns the tree's words and settings in order, with their values, up to the first of numbers 4 to 7"
  abbrev pub line_entries : Line → Took E
  line_entries (line m n is) = after (mark_step m) (entries is)

  abbrev pub contents : Line → Contents E
  contents t = record { entries = line_entries t; work = work t; depth = depth t }

  -- the same for a line's form
  abbrev pub contents_of : Form Line → Form (Contents E)
  contents_of (derived t) = derived (contents t)
  contents_of (breaks_at n) = breaks_at n
