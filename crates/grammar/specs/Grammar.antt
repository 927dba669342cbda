-- The grammar of document 01 as derivation trees, what a tree writes, and what the rules ask of its leaves.
-- No reader is in it. The quoted sentences are the document's.
-- Assumes nothing.
use Rattle.std.specs.Prelude.{Bool, ◌&&◌, ◌||◌, not, List, [], ◌∷◌, ◌++◌, ℕ, ◌≤◌, T, leb, eqb, length}
use Rattle.grammar.specs.Bytes.{byte, bytes, among, all}
use Rattle.grammar.specs.declared.Op.{Op}
use Rattle.grammar.specs.declared.Op.TheVariants.{Add, Sub, Mul, Div, Mod, And, Or, Xor}
use Rattle.grammar.specs.declared.Func.{Func}
use Rattle.grammar.specs.declared.Func.TheVariants.{Abs, Fix, Fup, Round}

-- ---- the trees

-- "number: optional sign, digits with at most one point, at least one digit"
pub data Sign : Type 0 where
  unsigned plus minus : Sign

-- the point with the digits after it, or neither
pub data Fraction : Type 0 where
  whole : Fraction
  point : List ℕ → Fraction

-- a sign, the digits before the point, and the fraction
pub data Number : Type 0 where
  num : Sign → List ℕ → Fraction → Number

-- "value: a number; `#` value; ABS, FIX, FUP or ROUND followed by an expression; an expression"
-- "expression: `[` value, then any number of (operator value), `]`"
mutual
  pub data Value : Type 0 where
    number : Number → Value
    parameter : Value → Value
    applied : Func → Expr → Value
    grouped : Expr → Value

  pub data Expr : Type 0 where
    expr : Value → Rest → Expr

  pub data Rest : Type 0 where
    done : Rest
    more : Op → Value → Rest → Rest

-- "item: a word, a setting or a comment"
pub data Item : Type 0 where
  word : ℕ → Value → Item
  setting : Value → Value → Item
  comment : List ℕ → Item

-- "line: optional `/`, optional N with one to five digits, then any number of items"; request 6 of document 02: "`/[expression]` (run if not zero) and
-- `\[expression]` (run if zero), and a plain `\`"
pub data Stroke : Type 0 where
  slash backslash : Stroke

pub data Mark : Type 0 where
  unmarked : Mark
  plain : Stroke → Mark
  conditional : Stroke → Expr → Mark

pub data Label : Type 0 where
  unlabelled : Label
  label : List ℕ → Label

pub data Line : Type 0 where
  line : Mark → Label → List Item → Line

-- ---- what a tree writes

abbrev pub spell_sign : Sign → List ℕ
spell_sign unsigned = []
spell_sign plus = bytes "+"
spell_sign minus = bytes "-"

-- "ABS, FIX, FUP or ROUND"
abbrev pub spell_func : Func → List ℕ
spell_func Abs = bytes "ABS"
spell_func Fix = bytes "FIX"
spell_func Fup = bytes "FUP"
spell_func Round = bytes "ROUND"

-- "Operators `+ - * / MOD AND OR XOR`"
abbrev pub spell_op : Op → List ℕ
spell_op Add = bytes "+"
spell_op Sub = bytes "-"
spell_op Mul = bytes "*"
spell_op Div = bytes "/"
spell_op Mod = bytes "MOD"
spell_op And = bytes "AND"
spell_op Or = bytes "OR"
spell_op Xor = bytes "XOR"

abbrev pub write_fraction : Fraction → List ℕ
write_fraction whole = []
write_fraction (point ds) = byte "." ∷ ds

abbrev pub write_number : Number → List ℕ
write_number (num s ds f) = spell_sign s ++ (ds ++ write_fraction f)

-- "A value may hold an expression and an expression holds values"
abbrev mutual
  pub write_value : Value → List ℕ
  write_value (number n) = write_number n
  write_value (parameter v) = byte "#" ∷ write_value v
  write_value (applied f e) = spell_func f ++ write_expr e
  write_value (grouped e) = write_expr e

  pub write_expr : Expr → List ℕ
  write_expr (expr v r) = byte "[" ∷ (write_value v ++ write_rest r)

  pub write_rest : Rest → List ℕ
  write_rest done = byte "]" ∷ []
  write_rest (more o v r) = spell_op o ++ (write_value v ++ write_rest r)

-- "Word: one of F G I J K L M P S T X Y Z, then a value. Setting: `#` value `=` value"
-- "comment: `(`, bytes 32–126 or tab but no parenthesis, `)`"
abbrev pub write_item : Item → List ℕ
write_item (word b v) = b ∷ write_value v
write_item (setting v w) = byte "#" ∷ (write_value v ++ (byte "=" ∷ write_value w))
write_item (comment bs) = byte "(" ∷ (bs ++ (byte ")" ∷ []))

abbrev pub write_items : List Item → List ℕ
write_items [] = []
write_items (i ∷ is) = write_item i ++ write_items is

abbrev pub spell_stroke : Stroke → List ℕ
spell_stroke slash = bytes "/"
spell_stroke backslash = bytes "\\"

abbrev pub write_mark : Mark → List ℕ
write_mark unmarked = []
write_mark (plain k) = spell_stroke k
write_mark (conditional k e) = spell_stroke k ++ write_expr e

abbrev pub write_label : Label → List ℕ
write_label unlabelled = []
write_label (label ds) = byte "N" ∷ ds

abbrev pub write : Line → List ℕ
write (line m n is) = write_mark m ++ (write_label n ++ write_items is)

-- ---- what the rules ask of a tree's leaves

abbrev pub digit : ℕ → Bool
digit b = leb (byte "0") b && leb b (byte "9")

-- "one of F G I J K L M P S T X Y Z"
abbrev pub letter : ℕ → Bool
letter b = among b (bytes "FGIJKLMPSTXYZ")

-- "bytes 32–126 or tab but no parenthesis"
abbrev pub remark : ℕ → Bool
remark b = (leb 32 b && leb b 126 || eqb b (byte "\t")) && not (among b (bytes "()"))

abbrev pub fraction_digits : Fraction → List ℕ
fraction_digits whole = []
fraction_digits (point ds) = ds

-- "digits with at most one point, at least one digit"
pub record NumberOk (ds : List ℕ) (f : Fraction) : Type 0 where
  pub left : T (all digit ds)
  pub right : T (all digit (fraction_digits f))
  pub some : 1 ≤ length (ds ++ fraction_digits f)

abbrev pub NumOk : Number → Type 0
NumOk (num s ds f) = NumberOk ds f

abbrev mutual
  pub ValueOk : Value → Type 0
  ValueOk (number n) = NumOk n
  ValueOk (parameter v) = ValueOk v
  ValueOk (applied f e) = ExprOk e
  ValueOk (grouped e) = ExprOk e

  pub ExprOk : Expr → Type 0
  ExprOk (expr v r) = ValueOk v × RestOk r

  pub RestOk : Rest → Type 0
  RestOk done = Unit {0}
  RestOk (more o v r) = ValueOk v × RestOk r

abbrev pub ItemOk : Item → Type 0
ItemOk (word b v) = T (letter b) × ValueOk v
ItemOk (setting v w) = ValueOk v × ValueOk w
ItemOk (comment bs) = T (all remark bs)

abbrev pub ItemsOk : List Item → Type 0
ItemsOk [] = Unit {0}
ItemsOk (i ∷ is) = ItemOk i × ItemsOk is

-- "N with one to five digits"
abbrev pub LabelOk : Label → Type 0
LabelOk unlabelled = Unit {0}
LabelOk (label ds) = T (all digit ds) × (1 ≤ length ds) × (length ds ≤ 5)

abbrev pub MarkOk : Mark → Type 0
MarkOk unmarked = Unit {0}
MarkOk (plain k) = Unit {0}
MarkOk (conditional k e) = ExprOk e

abbrev pub LineOk : Line → Type 0
LineOk (line m n is) = MarkOk m × LabelOk n × ItemsOk is
