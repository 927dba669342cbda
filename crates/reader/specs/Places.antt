-- What the functions that read answer, from what the grammar's reader by places says. No public contract cites it.
-- Assumes nothing.
use Rattle.std.specs.Prelude.{◌≡◌, Bool, false, List, [], ◌∷◌, Result, Ok, Err, ℕ, ◌+◌, ◌-◌, ◌*◌, ◌≤◌, min, eqb, length, drop}
use Rattle.grammar.specs.Bytes.{byte}
use Rattle.grammar.specs.Grammar.{digit, remark, Sign}
use Rattle.grammar.proofs.Read.{got, read_sign, take_while, Head, hash, bare, call, Tail, close, oper}
use Rattle.grammar.proofs.Place.{Placed, wrong, found}
use Rattle.rules.specs.Meaning.{Worked, decimal, negative}
use Rattle.grammar.specs.declared.Op.{Op}
use Rattle.grammar.specs.declared.Func.{Func}
use Rattle.reader.specs.declared.spelling.Opening.{Opening}
use Rattle.reader.specs.declared.spelling.Opening.TheVariants.{Parameter, Bracket, Function}
use Rattle.reader.specs.declared.spelling.Following.{Following}
use Rattle.reader.specs.declared.spelling.Following.TheVariants.{Close, Operator}
use Rattle.reader.specs.declared.numbers.Signed.{Signed}
use Rattle.reader.specs.declared.numbers.Digits.{Digits}

-- ---- spellings

-- past a spelling or a tree, or where its form is wrong
abbrev pub spelt_to : {X : Type 0} → Placed X → Result ℕ ℕ
spelt_to (wrong p) = Err p
spelt_to (found _ p) = Ok p

-- what opens a value that is no number
abbrev pub opening_by : Head → Opening
opening_by hash = Parameter
opening_by bare = Bracket
opening_by (call f) = Function f

abbrev pub opening : Placed Head → Result (Opening × ℕ) ℕ
opening (wrong p) = Err p
opening (found h p) = Ok (opening_by h, p)

-- what follows a value in an expression
abbrev pub following_by : Tail → Following
following_by close = Close
following_by (oper o) = Operator o

abbrev pub following : Placed Tail → Result (Following × ℕ) ℕ
following (wrong p) = Err p
following (found t p) = Ok (following_by t, p)

-- a function, or an operator, once the rest of its name is looked at
abbrev pub function_after : Result ℕ ℕ → Func → Result (Opening × ℕ) ℕ
function_after (Ok p) f = Ok (Function f, p)
function_after (Err p) f = Err p

abbrev pub operator_after : Result ℕ ℕ → Op → Result (Following × ℕ) ℕ
operator_after (Ok p) o = Ok (Operator o, p)
operator_after (Err p) o = Err p

-- ---- numbers

-- a point stands first
abbrev pub pointed : List ℕ → Bool
pointed [] = false
pointed (b ∷ s) = eqb (byte ".") b

-- the sign at a place, and the place past it
pub record SignAt (s : List ℕ) (at : ℕ) (r : Signed) : Type 0 where
  pub sign : Sign
  pub is : read_sign (drop at s) ≡ got sign (drop r.next s)
  pub minus : r.negative ≡ negative sign
  pub from : at ≤ r.next
  pub within : r.next ≤ length s

-- a number with one digit more, held at ten thousand million
abbrev pub with_digit : ℕ → ℕ → ℕ
with_digit n b = min 10000000000 (n * 10 + (b - byte "0"))

-- the digits from a place on: what they write after a number, held likewise, and the place past them
pub record DigitsAt (s : List ℕ) (at number : ℕ) (r : Digits) : Type 0 where
  pub writes : r.number ≡ min 10000000000 (decimal number (take_while digit (drop at s)))
  pub past : r.next ≡ at + length (take_while digit (drop at s))

-- what a number came to and the place past it, or where its form is wrong
abbrev pub valued : Placed Worked → Result (Worked × ℕ) ℕ
valued (wrong p) = Err p
valued (found a p) = Ok (a, p)

-- ---- comments

-- past the bytes that may stand inside a comment
abbrev pub remarks_end : List ℕ → ℕ → ℕ
remarks_end s at = at + length (take_while remark (drop at s))
