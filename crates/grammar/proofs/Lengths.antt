-- How much a line can hold: a prepared line is no longer than the line, a word writes at least two bytes and a setting four.
-- Assumes nothing.
use mathlib.Core.Path.{ap}
use mathlib.Core.Bool.{Bool, true, false, cond}
use mathlib.Core.List.{List, [], ◌∷◌, ◌++◌}
use Prim.Native.Nat.{ℕ, suc, ◌+◌, ◌*◌, ◌≤◌}
use native.Mathlib.Omega.{arith}
use lib.Dec.{eqb}
use lib.ListN.{length, length-append}
use Rattle.grammar.specs.Bytes.{byte}
use Rattle.grammar.specs.Grammar.{Fraction, whole, point, Number, num, Value, number, parameter, applied, grouped, Expr, expr, Item, word, setting, comment, Line, line}
use Rattle.grammar.specs.Grammar.{spell_sign, spell_func, write_mark, write_fraction, fraction_digits, write_number, write_value, write_expr, write_items, write_label, NumOk, ValueOk, ItemsOk}
use Rattle.grammar.specs.Derivation.{strip, inside, blank, raise, Derives}

fraction_bytes : (f : Fraction) → length (fraction_digits f) ≤ length (write_fraction f)
fraction_bytes whole = omega arith
fraction_bytes (point ds) = omega arith

number_bytes : (n : Number) → NumOk n → 1 ≤ length (write_number n)
number_bytes (num s ds f) o =
    omega (arith, length-append (spell_sign s) (ds ++ write_fraction f), length-append ds (write_fraction f), length-append ds (fraction_digits f), fraction_bytes f, o.some)

expr_bytes : (e : Expr) → 1 ≤ length (write_expr e)
expr_bytes (expr v r) = omega arith

pub value_bytes : (v : Value) → ValueOk v → 1 ≤ length (write_value v)
value_bytes (number n) o = number_bytes n o
value_bytes (parameter v) o = omega arith
value_bytes (applied f e) o = omega (arith, length-append (spell_func f) (write_expr e), expr_bytes e)
value_bytes (grouped e) o = expr_bytes e

-- the words and the settings among items
abbrev pub word_count : List Item → ℕ
word_count [] = 0
word_count (word b v ∷ is) = suc (word_count is)
word_count (setting v w ∷ is) = word_count is
word_count (comment bs ∷ is) = word_count is

abbrev pub setting_count : List Item → ℕ
setting_count [] = 0
setting_count (word b v ∷ is) = setting_count is
setting_count (setting v w ∷ is) = suc (setting_count is)
setting_count (comment bs ∷ is) = setting_count is

items_bytes : (is : List Item) → ItemsOk is → 2 * word_count is + 4 * setting_count is ≤ length (write_items is)
items_bytes [] o = omega arith
items_bytes (word b v ∷ is) o = omega (arith, items_bytes is o.1, value_bytes v o.0.1, length-append (write_value v) (write_items is))
items_bytes (setting v w ∷ is) o =
    omega (
      arith,
      items_bytes is o.1,
      value_bytes v o.0.0,
      value_bytes w o.0.1,
      length-append (write_value v ++ (byte "=" ∷ write_value w)) (write_items is),
      length-append (write_value v) (byte "=" ∷ write_value w),
    )
items_bytes (comment bs ∷ is) o = omega (arith, items_bytes is o.1, length-append (bs ++ (byte ")" ∷ [])) (write_items is))

-- a line is no longer for being prepared
keep : (c : Bool) (b n : ℕ) (x y : List ℕ) → length x ≤ n → length y ≤ n → length (b ∷ cond c x y) ≤ suc n
keep true b n x y h k = omega arith
keep false b n x y h k = omega arith

either : (c : Bool) (n : ℕ) (x y : List ℕ) → length x ≤ n → length y ≤ n → length (cond c x y) ≤ n
either true n x y h k = h
either false n x y h k = k

mutual
  unfolding strip

  pub strip_length : (s : List ℕ) → length (strip s) ≤ length s
  strip_length [] = omega arith
  strip_length (b ∷ s) =
      either (blank b) (suc (length s)) (strip s) _ (omega (arith, strip_length s)) (keep (eqb b (byte "(")) (raise b) (length s) (inside s) (strip s) (inside_length s) (strip_length s))

  pub inside_length : (s : List ℕ) → length (inside s) ≤ length s
  inside_length [] = omega arith
  inside_length (b ∷ s) = keep (eqb b (byte ")")) b (length s) (strip s) (inside s) (strip_length s) (inside_length s)

abbrev pub items_of : Line → List Item
items_of (line m n is) = is

line_bytes : (t : Line) (s : List ℕ) → Derives t s → 2 * word_count (items_of t) + 4 * setting_count (items_of t) ≤ length s
line_bytes (line m n is) s d =
    omega (
      arith,
      items_bytes is d.ok.2,
      strip_length s,
      ap length d.writes,
      length-append (write_mark m) (write_label n ++ write_items is),
      length-append (write_label n) (write_items is),
    )

-- a derived line of at most 256 bytes has at most 128 words and 64 settings
pub few : {t : Line} {s : List ℕ} → Derives t s → length s ≤ 256 → (word_count (items_of t) ≤ 128) × (setting_count (items_of t) ≤ 64)
few {t} {s} d h = let k = line_bytes t s d in (omega arith, omega arith)
