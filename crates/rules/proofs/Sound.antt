-- What is worked out is a value in range or one of the numbers 5 to 7, whatever the table holds: so the words of a reading are in range, and a reading that
-- stops is stopped by one of these numbers.
-- Assumes nothing.
use mathlib.Core.Path.{◌≡◌, refl}
use mathlib.Core.Bool.{Bool, true, false, cond}
use mathlib.Core.List.{List, [], ◌∷◌}
use mathlib.Core.Logic.{◌⊎◌, inl, inr}
use Prim.Native.Nat.{ℕ, ◌≤◌}
use native.Mathlib.Omega.{arith}
use lib.Dec.{eqb}
use lib.IntN.{ℤ, nat_abs}
use Rattle.grammar.specs.Grammar.{Number, num, Value, number, parameter, applied, grouped, Expr, expr, Rest, done, more, Item, word, setting, comment, Stroke, unmarked, plain, conditional, Line, line}
use Rattle.grammar.specs.Working.{Pair, pair, skip, stop, Took, end, stopped, took, after, terms, total, in_order, value, expression, pairs, entries, line_entries, high}
use Rattle.grammar.specs.declared.Op.{Op}
use Rattle.grammar.specs.declared.Op.TheVariants.{Add, Sub, Mul, Div, Mod, And, Or, Xor}
use Rattle.grammar.specs.declared.Func.{Func}
use Rattle.grammar.specs.declared.Func.TheVariants.{Abs, Fix, Fup, Round}
use Rattle.rules.specs.Numbers.{in_range}
use Rattle.rules.specs.Meaning.{Worked, ranged, written, number_of, divided, operation, function, parameter_of, entry, then, Entry, word_is, setting_is, word_of, setting_of, setting_at, runs, condition_of, arithmetic}
use Rattle.std.specs.Prelude.{Option, Some, None, Ok, Err}
use Rattle.rules.specs.Named.{refusal_number}
use Rattle.rules.specs.declared.Refusal.{Refusal}
use Rattle.rules.specs.declared.Refusal.TheVariants.{OutOfRange, ZeroDivisor, NoParameter}

-- ---- what is worked out: a value in range, or one of the numbers 5 to 7
abbrev pub Sound : Worked → Type 0
Sound (Ok v) = in_range v.0 ≡ true
Sound (Err why) = (5 ≤ refusal_number why) × (refusal_number why ≤ 7)

ranged_sound : (z : ℤ) → Sound (ranged z)
unfolding ranged
ranged_sound z = go (in_range z) refl
  where
    go : (c : Bool) → in_range z ≡ c → Sound (cond c (Ok (record { 0 = z })) (Err OutOfRange))
    go true e = e
    go false e = (omega arith, omega arith)

if_sound : (c : Bool) (why : Refusal) (w : Worked) → 5 ≤ refusal_number why → refusal_number why ≤ 7 → Sound w → Sound (cond c (Err why) w)
if_sound true n w l m s = (l, m)
if_sound false n w l m s = s

written_sound : (s : Bool) (digits decimals : ℕ) → Sound (written s digits decimals)
unfolding written
written_sound s digits decimals = ranged_sound _

number_sound : (n : Number) → Sound (number_of n)
unfolding number_of
number_sound (num s ds f) = written_sound _ _ _

divided_sound : (b q : ℤ) → Sound (divided b q)
divided_sound b q = if_sound (eqb (nat_abs b) 0) ZeroDivisor (ranged q) (omega arith) (omega arith) (ranged_sound q)

operation_sound : (o : Op) (a b : ℤ) → Sound (operation o a b)
unfolding operation
operation_sound Add a b = ranged_sound _
operation_sound Sub a b = ranged_sound _
operation_sound Mul a b = ranged_sound _
operation_sound Div a b = divided_sound b _
operation_sound Mod a b = divided_sound b _
operation_sound And a b = ranged_sound _
operation_sound Or a b = ranged_sound _
operation_sound Xor a b = ranged_sound _

function_sound : (f : Func) (a : ℤ) → Sound (function f a)
unfolding function
function_sound Abs a = ranged_sound _
function_sound Fix a = ranged_sound _
function_sound Fup a = ranged_sound _
function_sound Round a = ranged_sound _

entry_sound : (table : List ℤ) (p : Option ℕ) → Sound (entry table p)
entry_sound table (Some n) = ranged_sound _
entry_sound table None = (omega arith, omega arith)

then_sound : (w : Worked) (k : ℤ → Worked) → Sound w → ((z : ℤ) → Sound (k z)) → Sound (then w k)
then_sound (Ok v) k s h = h v.0
then_sound (Err n) k s h = s

-- ---- words and settings
abbrev pub SoundTook : Took Entry → Type 0
SoundTook end = Unit {0}
SoundTook (stopped n) = (5 ≤ n) × (n ≤ 7)
SoundTook (took (word_is b v) t) = (in_range v ≡ true) × SoundTook t
SoundTook (took (setting_is n v) t) = SoundTook t

module _ (table : List ℤ) where
  work_sound : (o : Op) (a b : Worked) → Sound a → Sound b → Sound ((arithmetic table).work o a b)
  work_sound o a b s t = then_sound a _ s (λ x. then_sound b _ t (λ y. operation_sound o x y))

  abbrev SoundPairs : List (Pair Worked) → Type 0
  SoundPairs [] = Unit {0}
  SoundPairs (pair o b ∷ l) = Sound b × SoundPairs l

  terms_sound : (a : Worked) (l : List (Pair Worked)) → Sound a → SoundPairs l → Sound (terms (arithmetic table) a l).first × SoundPairs (terms (arithmetic table) a l).others
  terms_sound a [] s t = (s, tt)
  terms_sound a (pair o b ∷ l) s t = go (high o) (terms_sound ((arithmetic table).work o a b) l (work_sound o a b s t.0) t.1) (terms_sound b l t.0 t.1)
    where
      go : (c : Bool) →
          Sound (terms (arithmetic table) ((arithmetic table).work o a b) l).first × SoundPairs (terms (arithmetic table) ((arithmetic table).work o a b) l).others →
          Sound (terms (arithmetic table) b l).first × SoundPairs (terms (arithmetic table) b l).others →
          Sound (cond c (terms (arithmetic table) ((arithmetic table).work o a b) l) (record { first = a; others = pair o (terms (arithmetic table) b l).first ∷ (terms (arithmetic table) b l).others })).first
          × SoundPairs (cond c (terms (arithmetic table) ((arithmetic table).work o a b) l) (record { first = a; others = pair o (terms (arithmetic table) b l).first ∷ (terms (arithmetic table) b l).others })).others
      go true p q = p
      go false p q = (s, q)

  total_sound : (a : Worked) (l : List (Pair Worked)) → Sound a → SoundPairs l → Sound (total (arithmetic table) a l)
  total_sound a [] s t = s
  total_sound a (pair o b ∷ l) s t = total_sound ((arithmetic table).work o a b) l (work_sound o a b s t.0) t.1

  order_sound : (a : Worked) (l : List (Pair Worked)) → Sound a → SoundPairs l → Sound (in_order (arithmetic table) a l)
  order_sound a l s t = let p = terms_sound a l s t in total_sound (terms (arithmetic table) a l).first (terms (arithmetic table) a l).others p.0 p.1

  mutual
    value_sound : (v : Value) → Sound (value (arithmetic table) v)
    value_sound (number n) = number_sound n
    value_sound (parameter v) = then_sound (value (arithmetic table) v) _ (value_sound v) (λ x. entry_sound table (parameter_of x))
    value_sound (applied f e) = then_sound (expression (arithmetic table) e) _ (expression_sound e) (function_sound f)
    value_sound (grouped e) = expression_sound e

    expression_sound : (e : Expr) → Sound (expression (arithmetic table) e)
    expression_sound (expr v r) = order_sound (value (arithmetic table) v) (pairs (arithmetic table) r) (value_sound v) (pairs_sound r)

    pairs_sound : (r : Rest) → SoundPairs (pairs (arithmetic table) r)
    pairs_sound done = tt
    pairs_sound (more o v r) = (value_sound v, pairs_sound r)

  word_sound : (b : ℕ) (w : Worked) (t : Took Entry) → Sound w → SoundTook t → SoundTook (after (word_of b w) t)
  word_sound b (Ok v) t s k = (s, k)
  word_sound b (Err n) t s k = s

  setting_at_sound : (p : Option ℕ) (w : Worked) (t : Took Entry) → Sound w → SoundTook t → SoundTook (after (setting_at p w) t)
  setting_at_sound None w t s k = (omega arith, omega arith)
  setting_at_sound (Some n) (Ok v) t s k = k
  setting_at_sound (Some n) (Err m) t s k = s

  setting_sound : (a b : Worked) (t : Took Entry) → Sound a → Sound b → SoundTook t → SoundTook (after (setting_of a b) t)
  setting_sound (Ok v) b t s u k = setting_at_sound (parameter_of v.0) b t u k
  setting_sound (Err n) b t s u k = s

  pub entries_sound : (is : List Item) → SoundTook (entries (arithmetic table) is)
  entries_sound [] = tt
  entries_sound (word b v ∷ is) = word_sound b (value (arithmetic table) v) _ (value_sound v) (entries_sound is)
  entries_sound (setting v w ∷ is) = setting_sound (value (arithmetic table) v) (value (arithmetic table) w) _ (value_sound v) (value_sound w) (entries_sound is)
  entries_sound (comment bs ∷ is) = entries_sound is

  condition_sound : (k : Stroke) (w : Worked) (t : Took Entry) → Sound w → SoundTook t → (after (condition_of k w) t ≡ stopped 100) ⊎ SoundTook (after (condition_of k w) t)
  condition_sound k (Err n) t s h = inr s
  condition_sound k (Ok v) t s h = go (runs k v.0)
    where
      go : (c : Bool) → (after (cond c skip (stop 100)) t ≡ stopped 100) ⊎ SoundTook (after (cond c skip (stop 100)) t)
      go true = inr h
      go false = inl refl

  -- a line whose condition says no is stopped with 100
  pub line_sound : (t : Line) → (line_entries (arithmetic table) t ≡ stopped 100) ⊎ SoundTook (line_entries (arithmetic table) t)
  line_sound (line unmarked n is) = inr (entries_sound is)
  line_sound (line (plain k) n is) = inr (entries_sound is)
  line_sound (line (conditional k e) n is) = condition_sound k (expression (arithmetic table) e) (entries (arithmetic table) is) (expression_sound e) (entries_sound is)
