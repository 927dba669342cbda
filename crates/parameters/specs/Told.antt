-- What the functions that read a line answer, and those that go from line to line. No public contract cites it.
-- Assumes nothing.
use Rattle.std.specs.Prelude.{◌≡◌, true, cond, not, ◌||◌, List, [], ◌∷◌, ℕ, ◌+◌, ◌≤◌, ◌<◌, ltb, ℤ, length, Option as Found, Some, None, Result, Ok, Err}
use Rattle.std.proofs.Math.Option.{Option, none, some}
use Rattle.grammar.specs.Grammar.{Sign, Fraction, Number, num, fraction_digits}
use Rattle.grammar.proofs.Read.{got, read_sign, read_fraction}
use Rattle.std.specs.Borrow.{Bor}
use Rattle.rules.specs.Meaning.{negative}
use Rattle.rules.specs.Frames.{lines}
use Rattle.parameters.specs.File.{Entry}
use Rattle.parameters.specs.Places.{stands_for, judged, decimals, allowed, fine, value_in}
use Rattle.parameters.specs.Refusal.{refusal_number}
use Rattle.parameters.specs.Reading.{number_of, line_refusal, refusal, refused_line, value_at, given}
use Rattle.parameters.specs.Parse.{trees, entries_of}
use Rattle.parameters.specs.declared.places.Place.{Place}
use Rattle.parameters.specs.declared.refusal.FileRefusal.{FileRefusal}
use Rattle.parameters.specs.declared.refusal.FileRefusal.TheVariants.{ValueUnfit}
use Rattle.parameters.specs.declared.lines.Signed.{Signed}
use Rattle.parameters.specs.declared.lines.Parts.{Parts}
use Rattle.parameters.specs.declared.lines.Said.{Said}
use Rattle.parameters.specs.declared.load.RefusedLine.{RefusedLine}
use Rattle.parameters.specs.declared.accepted.Lines.{Lines}

-- the first line of a text, and what stands behind it
pub record FirstLine (text line behind : List ℕ) : Type 0 where
  pub cut : lines text ≡ line ∷ lines behind
  pub shorter : length behind < length text

-- the sign at the front, and what stands behind it
pub record SignOf (s : List ℕ) (r : Signed) : Type 0 where
  pub sign : Sign
  pub is : read_sign s ≡ got sign r.behind.now
  pub minus : r.negative ≡ negative sign

abbrev pub sign_in : Number → Sign
sign_in (num s ds f) = s

abbrev pub whole_in : Number → List ℕ
whole_in (num s ds f) = ds

-- the digits of a fraction that a text is, and of nothing else
abbrev pub FractionAs : List ℕ → Found (Bor (List ℕ)) → Type 0
FractionAs s None = (f : Fraction) × (r : List ℕ) × (read_fraction s ≡ got f r) × (1 ≤ length r)
FractionAs s (Some d) = (f : Fraction) × (read_fraction s ≡ got f []) × (d.now ≡ fraction_digits f)

-- the parts of a number: its sign, the digits before the point, and those behind it that count
pub record PartsOf (p : Parts) (x : Number) : Type 0 where
  pub minus : p.negative ≡ negative (sign_in x)
  pub digits : p.whole.now ≡ whole_in x
  pub decimals : p.decimals.now ≡ fine x

abbrev pub ParsedAs : Found Parts → Option Number → Type 0
ParsedAs None o = o ≡ none
ParsedAs (Some p) o = (x : Number) × (o ≡ some x) × PartsOf p x

-- the value of a number at a place, where it is neither too fine nor out of range
abbrev pub valued_by : Place → Number → Result ℤ FileRefusal
valued_by p x = cond (ltb (decimals p) (length (fine x)) || not (allowed p (value_in (decimals p) x))) (Err ValueUnfit) (Ok (value_in (decimals p) x))

-- a line that is right behind a number says a number and its value
pub record Gives (least : ℕ) (s : Said) (o : Option Entry) : Type 0 where
  pub entry : Entry
  pub is : o ≡ some entry
  pub right : line_refusal least (some entry) ≡ 0
  pub number : number_of entry ≡ s.number
  pub small : s.number ≤ 5399
  pub value : judged (stands_for s.number) ≡ true → value_at entry ≡ s.value

-- what a line says, once one more than the number before it is known, or why it is refused
abbrev pub SaidAs : ℕ → Result Said FileRefusal → Option Entry → Type 0
SaidAs least (Ok s) o = Gives least s o
SaidAs least (Err why) o = line_refusal least o ≡ refusal_number why

-- the first line that is refused, and why
abbrev pub JudgedAs : List ℕ → Found RefusedLine → Type 0
JudgedAs text None = (refusal 0 (trees text) ≡ 0) × (refused_line 0 (trees text) ≡ None)
JudgedAs text (Some r) = (refusal 0 (trees text) ≡ refusal_number r.why) × (refused_line 0 (trees text) ≡ Some r.line)

-- the lines of an accepted file, or why it is refused
abbrev pub AcceptedAs : List ℕ → Result Lines FileRefusal → Type 0
AcceptedAs text (Ok all) = all.rest.now ≡ text
AcceptedAs text (Err why) = refusal 0 (trees text) ≡ refusal_number why

-- the lines of the rest give the numbers from m on as those of the text do
pub record Remains (text rest : List ℕ) (m : ℕ) : Type 0 where
  pub same : (n : ℕ) → m ≤ n → given (entries_of rest) n ≡ given (entries_of text) n

-- what a text gives a number, and the rest that the numbers behind it are looked for in
pub record GivenFrom (text : List ℕ) (n : ℕ) (value : ℤ) (rest : List ℕ) : Type 0 where
  pub value_is : value ≡ given (entries_of text) n
  pub remains : Remains text rest (n + 1)
