-- Lines of document 01 and of its limits, read by computation: the tree, or that there is none. `found` and `decided` say that the reader's tree is the
-- line's one derivation, and `missed` that there is none where it finds none.
-- Assumes nothing.
use mathlib.Core.Path.{◌≡◌, refl}
use mathlib.Core.Bool.{Bool, true, false, not, ◌&&◌}
use mathlib.Core.List.{List, [], ◌∷◌, ◌++◌}
use mathlib.Core.Option.{Option, none, some}
use Prim.Native.Nat.{ℕ}
use Prim.Native.String.{String}
use lib.ListN.{replicate}
use Rattle.grammar.specs.Bytes.{byte, bytes}
use Rattle.grammar.specs.Grammar.{unsigned, plus, minus, num, whole, point, Value, number, parameter, grouped, expr, done, more, Item, word, setting, comment, slash, backslash, unmarked, plain, conditional, unlabelled, label, Line, line}
use Rattle.grammar.specs.Derivation.{strip, inside}
use Rattle.grammar.specs.declared.Op.TheVariants.{Add, Sub, Mul}
use Rattle.grammar.proofs.Read.{parse, value_of, rest_of, expr_of, items_of}

-- the tree that a line as typed is read to
abbrev tree : List ℕ → Option Line
tree s = parse (strip s)

-- a line of items alone
abbrev items : List Item → Option Line
items is = some (line unmarked unlabelled is)

-- whole numbers without a sign
abbrev digits : String → Value
digits ds = number (num unsigned (bytes ds) whole)

-- source 000: "g0x +0. 12 34y 7" is G0 X+0.1234 Y7
blanks_in_numbers : tree (bytes "g0x +0. 12 34y 7")
    ≡ items (word (byte "G") (digits "0") ∷ word (byte "X") (number (num plus (bytes "0") (point (bytes "1234")))) ∷ word (byte "Y") (digits "7") ∷ [])
unfolding strip value_of items_of
blanks_in_numbers = refl

an_expression : tree (bytes "X[2+3*4]") ≡ items (word (byte "X") (grouped (expr (digits "2") (more Add (digits "3") (more Mul (digits "4") done)))) ∷ [])
unfolding strip value_of items_of
an_expression = refl

two_settings : tree (bytes "#3=15 #3=6") ≡ items (setting (digits "3") (digits "15") ∷ setting (digits "3") (digits "6") ∷ [])
unfolding strip value_of items_of
two_settings = refl

a_setting_by_entry : tree (bytes "##1=5") ≡ items (setting (parameter (digits "1")) (digits "5") ∷ [])
unfolding strip value_of items_of
a_setting_by_entry = refl

a_word_by_entry : tree (bytes "X#3") ≡ items (word (byte "X") (parameter (digits "3")) ∷ [])
unfolding strip value_of items_of
a_word_by_entry = refl

an_empty_comment : tree (bytes "()") ≡ items (comment [] ∷ [])
unfolding strip value_of items_of
an_empty_comment = refl

-- blanks and small letters of a comment stay
a_comment_kept : tree (bytes "/ n 1 0 (Cut it)") ≡ some (line (plain slash) (label (bytes "10")) (comment (bytes "Cut it") ∷ []))
unfolding strip inside value_of items_of
a_comment_kept = refl

-- a condition stands directly after its stroke, and blanks in it are dropped
a_condition : tree (bytes "\\ [ 1 ] n5") ≡ some (line (conditional backslash (expr (digits "1") done)) (label (bytes "5")) [])
unfolding strip value_of rest_of expr_of items_of
a_condition = refl

a_second_sign : tree (bytes "X[1--2]") ≡ items (word (byte "X") (grouped (expr (digits "1") (more Sub (number (num minus (bytes "2") whole)) done))) ∷ [])
unfolding strip value_of items_of
a_second_sign = refl

nothing_at_all : tree [] ≡ items []
unfolding strip value_of items_of
nothing_at_all = refl

-- it has a derivation, or none
abbrev derived : Option Line → Bool
derived none = false
derived (some t) = true

abbrev right : List ℕ → Bool
right s = derived (tree s)

abbrev wrong : List ℕ → Bool
wrong s = not (right s)

-- every one of a list of texts is so
abbrev every : (List ℕ → Bool) → List String → Bool
every p [] = true
every p (s ∷ ss) = p (bytes s) && every p ss

-- numbers, signs, labels and settings at their limits
right_lines : every right ("N0" ∷ "N00000" ∷ "x5." ∷ "x.5" ∷ "x+.5" ∷ "x-0" ∷ "#-1=2" ∷ "###[1+1]=abs[2]" ∷ "X[7 M O D 3]" ∷ "(a)G1(b)X1(c)" ∷ "\tg1" ∷ "\\" ∷ "\\N1" ∷ "/[1]" ∷ "/[#1-2*[3]]N5G0" ∷ []) ≡ true
unfolding strip value_of rest_of expr_of items_of
right_lines = refl

wrong_lines : every wrong
    ("(never closed" ∷ "(a(b)" ∷ "a)" ∷ "N123456" ∷ "N" ∷ "N-1" ∷ "N1N2" ∷ "//" ∷ "(c)N1" ∷ "(c)/"
    ∷ "X-#1" ∷ "X-[1]" ∷ "X[-#1]" ∷ "X." ∷ "X1.2.3" ∷ "X--1" ∷ "X1e5" ∷ "XABS1" ∷ "#1=2=3" ∷ "X[1=1]" ∷ "G(c)1" ∷ "X[1(c)]" ∷ "A1" ∷ "X"
    ∷ "[1]" ∷ "/(c)[1]" ∷ "/\\" ∷ "\\\\" ∷ "/[1][2]" ∷ "/[1]/" ∷ "/1" ∷ "/#1" ∷ "/[" ∷ "\\[]" ∷ "N1/[1]" ∷ "/N1[1]" ∷ []) ≡ true
unfolding strip inside value_of rest_of expr_of items_of
wrong_lines = refl

-- 120 brackets within each other
a_deep_nest : right (byte "X" ∷ (replicate 120 (byte "[") ++ (byte "1" ∷ replicate 120 (byte "]")))) ≡ true
unfolding strip value_of items_of
a_deep_nest = refl

-- 256 bytes: an X with 255 digits
a_long_line : right (byte "X" ∷ replicate 255 (byte "7")) ≡ true
unfolding strip value_of items_of
a_long_line = refl
