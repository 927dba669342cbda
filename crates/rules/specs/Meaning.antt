-- What the values of a tree come to, from the table as it was at entry, and the numbers 4 to 7.
-- Assumes nothing.
use Rattle.std.specs.Prelude.{Bool, true, false, cond, not, ◌&&◌, ◌||◌, List, [], ◌∷◌, ◌++◌, ℕ, ◌+◌, ◌-◌, ◌*◌, ◌^◌, eqb, length, get_or, ℤ, pos, nat_abs, ◌+ℤ◌, ◌-ℤ◌, ◌*ℤ◌, Option, Some, None, Result, Ok, Err}
use Rattle.grammar.specs.Bytes.{byte}
use Rattle.grammar.specs.Grammar.{Sign, unsigned, plus, minus, Number, num, fraction_digits, Stroke, slash, backslash, Line}
use Rattle.grammar.specs.Derivation.{Form}
use Rattle.grammar.specs.Working.{Arithmetic, Step, skip, give, stop, Took, end, stopped, took, Contents, contents_of}
use Rattle.grammar.specs.declared.Op.{Op}
use Rattle.grammar.specs.declared.Op.TheVariants.{Add, Sub, Mul, Div, Mod, And, Or, Xor}
use Rattle.grammar.specs.declared.Func.{Func}
use Rattle.grammar.specs.declared.Func.TheVariants.{Abs, Fix, Fup, Round}
use Rattle.rules.specs.Numbers.{signed, within, in_range, nearest, residue, down, upward, rounded, is_true, truth, whole, between, counted, differ}
use Rattle.rules.specs.Named.{refusal_number}
use Rattle.rules.specs.declared.Value.{Value}
use Rattle.rules.specs.declared.Refusal.{Refusal}
use Rattle.rules.specs.declared.Refusal.TheVariants.{OutOfRange, ZeroDivisor, NoParameter}

-- what a value comes to when it is worked out: the value, or why the line is refused
abbrev pub Worked : Type 0
Worked = Result Value Refusal

-- ---- numbers 4 to 7

-- number 5: "a value written, worked out or read from the table is out of range"
unfoldable pub ranged : ℤ → Worked
ranged z = cond (in_range z) (Ok (record { 0 = z })) (Err OutOfRange)

-- the number that decimal digits write after n, most significant first
unfoldable pub decimal : ℕ → List ℕ → ℕ
decimal n [] = n
decimal n (d ∷ ds) = decimal (n * 10 + (d - byte "0")) ds

abbrev pub negative : Sign → Bool
negative unsigned = false
negative plus = false
negative minus = true

-- a number by its sign, its digits as one whole number, and how many of them stand after the point: "A number may have any decimals; it is taken to the nearest
-- ten-thousandth, halves away from zero, from all its digits at once. Range is judged after rounding". Number 4 "is kept in the list and shown never to occur"
-- (the theorem `never_4`)
unfoldable pub written : Bool → ℕ → ℕ → Worked
written sign digits decimals = ranged (nearest (signed sign (digits * 10000)) (pos (10 ^ decimals)))

unfoldable pub number_of : Number → Worked
number_of (num s ds f) = written (negative s) (decimal 0 (ds ++ fraction_digits f)) (length (fraction_digits f))

-- number 6: "divisor zero in / or MOD"
abbrev pub divided : ℤ → ℤ → Worked
divided b q = cond (eqb (nat_abs b) 0) (Err ZeroDivisor) (ranged q)

-- "`+ -` are exact. `*` and `/` go to the nearest ten-thousandth, halves away from zero." "AND, OR, XOR take non-zero as true and give 1 or 0"
unfoldable pub operation : Op → ℤ → ℤ → Worked
operation Add a b = ranged (a +ℤ b)
operation Sub a b = ranged (a -ℤ b)
operation Mul a b = ranged (nearest (a *ℤ b) (pos 10000))
operation Div a b = divided b (nearest (a *ℤ pos 10000) b)
operation Mod a b = divided b (residue a b)
operation And a b = ranged (truth (is_true a && is_true b))
operation Or a b = ranged (truth (is_true a || is_true b))
operation Xor a b = ranged (truth (differ (is_true a) (is_true b)))

-- "FIX goes down, FUP up, ROUND to nearest, halves away from zero"; ABS is the size
unfoldable pub function : Func → ℤ → Worked
function Abs a = ranged (pos (nat_abs a))
function Fix a = ranged (down a)
function Fup a = ranged (upward a)
function Round a = ranged (rounded a)

-- number 7: "parameter number not 1–4,999"
unfoldable pub parameter_of : ℤ → Option ℕ
parameter_of v = cond (between 1 4999 (whole v)) (Some (counted (whole v))) None

-- "read from the table"
abbrev pub entry : List ℤ → Option ℕ → Worked
entry table (Some n) = ranged (get_or table n (pos 0))
entry table None = Err NoParameter

-- ---- what a tree comes to

-- what was worked out goes on; a refusal stays
abbrev pub then : Worked → (ℤ → Worked) → Worked
then (Ok v) k = k v.0
then (Err why) k = Err why

-- a word with its value, or a setting with its parameter's number and its value
pub data Entry : Type 0 where
  word_is : ℕ → ℤ → Entry
  setting_is : ℕ → ℤ → Entry

abbrev pub word_of : ℕ → Worked → Step Entry
word_of b (Ok v) = give (word_is b v.0)
word_of b (Err why) = stop (refusal_number why)

abbrev pub setting_at : Option ℕ → Worked → Step Entry
setting_at None w = stop 7
setting_at (Some n) (Ok v) = give (setting_is n v.0)
setting_at (Some n) (Err why) = stop (refusal_number why)

-- "The value after `#` is judged as a parameter number as soon as it is worked out"
abbrev pub setting_of : Worked → Worked → Step Entry
setting_of (Ok v) w = setting_at (parameter_of v.0) w
setting_of (Err why) w = stop (refusal_number why)

-- "`/[expression]` (run if not zero) and `\[expression]` (run if zero)"; "Zero means at most 0.0001 from zero"
abbrev pub runs : Stroke → ℤ → Bool
runs slash v = not (within 1 v)
runs backslash v = within 1 v

-- "if it says no, the line is skipped": 100 is a skip's number; "3 to 7 may now come from a condition, before anything else on the line"
abbrev pub condition_of : Stroke → Worked → Step Entry
condition_of k (Ok v) = cond (runs k v.0) skip (stop 100)
condition_of k (Err why) = stop (refusal_number why)

-- "All values on a line are worked out left to right from the table as it was at entry"; "an operation is worked out once its right side is"
abbrev pub arithmetic : List ℤ → Arithmetic Worked Entry
arithmetic table = record {
  number_of = number_of;
  lookup = λ w. then w (λ v. entry table (parameter_of v));
  apply = λ f w. then w (function f);
  enclose = λ w. w;
  work = λ o a b. then a (λ x. then b (λ y. operation o x y));
  word_of = word_of;
  setting_of = setting_of;
  condition_of = condition_of;
}

-- "the tree's words and settings in order, with their values, up to the first of numbers 4 to 7"; its work, and how deep it nests
abbrev pub reading : List ℤ → Form Line → Form (Contents Entry)
reading table f = contents_of (arithmetic table) f

-- the number that stopped the reading, 0 where none did
abbrev pub stopped_by : Took Entry → ℕ
stopped_by end = 0
stopped_by (stopped n) = n
stopped_by (took e t) = stopped_by t

-- "Among 4 to 7 the first met in working order decides"
abbrev pub meets : Took Entry → ℕ → Bool
meets e n = eqb (stopped_by e) n

-- ---- the words and the settings of a reading

pub record Said : Type 0 where
  pub letter : ℕ
  pub value : ℤ

pub record Setting : Type 0 where
  pub number : ℕ
  pub value : ℤ

abbrev pub words : Took Entry → List Said
words end = []
words (stopped n) = []
words (took (word_is b v) t) = record { letter = b; value = v } ∷ words t
words (took (setting_is n v) t) = words t

abbrev pub settings : Took Entry → List Setting
settings end = []
settings (stopped n) = []
settings (took (word_is b v) t) = settings t
settings (took (setting_is n v) t) = record { number = n; value = v } ∷ settings t
