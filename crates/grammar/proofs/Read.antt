-- A functional reader of the grammar, with fuel: the proofs' tool, no part of the rules. Where it fails it says what was left: the first byte at which it could not go on.
use mathlib.Core.Bool.{Bool, false, ◌||◌, cond}
use mathlib.Core.List.{List, [], ◌∷◌, ◌++◌}
use mathlib.Core.Option.{Option, none, some}
use Prim.Native.Nat.{ℕ, zero, suc}
use lib.Dec.{leb, eqb}
use lib.ListN.{length, drop}
use Rattle.grammar.specs.Bytes.{byte, bytes}
use Rattle.grammar.specs.Grammar.{Sign, unsigned, plus, minus}
use Rattle.grammar.specs.Grammar.{Fraction, whole, point, Number, num, Value, number, parameter, applied, grouped, Expr, expr, Rest, done, more}
use Rattle.grammar.specs.Grammar.{spell_func, spell_op, digit, fraction_digits, letter, remark}
use Rattle.grammar.specs.Grammar.{Item, word, setting, comment, Stroke, slash, backslash, Mark, unmarked, plain, conditional, Label, label, unlabelled, Line, line}
use Rattle.grammar.specs.declared.Op.{Op}
use Rattle.grammar.specs.declared.Op.TheVariants.{Add, Sub, Mul, Div, Mod, And, Or, Xor}
use Rattle.grammar.specs.declared.Func.{Func}
use Rattle.grammar.specs.declared.Func.TheVariants.{Abs, Fix, Fup, Round}

pub data Read (A : Type 0) : Type 0 where
  fail : List ℕ → Read A
  got : A → List ℕ → Read A

module _ {A : Type 0} where
  -- the bytes w, then the answer a
  abbrev pub eat : List ℕ → A → List ℕ → Read A
  eat [] a s = got a s
  eat (x ∷ w) a [] = fail []
  eat (x ∷ w) a (y ∷ s) = cond (eqb x y) (eat w a s) (fail (y ∷ s))

module _ {A B : Type 0} where
  abbrev pub bind : Read A → (A → List ℕ → Read B) → Read B
  bind (fail q) k = fail q
  bind (got a r) k = k a r

  abbrev pub map_r : (A → B) → Read A → Read B
  map_r g (fail q) = fail q
  map_r g (got a r) = got (g a) r

abbrev pub take_while : (ℕ → Bool) → List ℕ → List ℕ
take_while p [] = []
take_while p (b ∷ s) = cond (p b) (b ∷ take_while p s) []

abbrev pub drop_while : (ℕ → Bool) → List ℕ → List ℕ
drop_while p [] = []
drop_while p (b ∷ s) = cond (p b) (drop_while p s) (b ∷ s)

abbrev pub read_sign : List ℕ → Read Sign
read_sign [] = got unsigned []
read_sign (b ∷ s) = cond (eqb (byte "+") b) (got plus s) (cond (eqb (byte "-") b) (got minus s) (got unsigned (b ∷ s)))

abbrev pub read_fraction : List ℕ → Read Fraction
read_fraction [] = got whole []
read_fraction (b ∷ s) = cond (eqb (byte ".") b) (got (point (take_while digit s)) (drop_while digit s)) (got whole (b ∷ s))

abbrev pub finish : Sign → List ℕ → Fraction → List ℕ → Read Number
finish sg ds f r = cond (leb 1 (length (ds ++ fraction_digits f))) (got (num sg ds f) r) (fail r)

abbrev pub read_number : List ℕ → Read Number
read_number s = bind (read_sign s) (λ sg r. bind (read_fraction (drop_while digit r)) (λ f q. finish sg (take_while digit r) f q))

-- a number begins with a digit, a sign or the point, and nothing else does
abbrev pub numeric : ℕ → Bool
numeric b = digit b || (eqb (byte "+") b || (eqb (byte "-") b || eqb (byte ".") b))

abbrev pub opens_number : List ℕ → Bool
opens_number [] = false
opens_number (b ∷ s) = numeric b

pub data Head : Type 0 where
  hash bare : Head
  call : Func → Head

abbrev pub spell_head : Head → List ℕ
spell_head hash = bytes "#"
spell_head bare = bytes "["
spell_head (call g) = spell_func g ++ (bytes "[")

pub data Tail : Type 0 where
  close : Tail
  oper : Op → Tail

abbrev pub spell_tail : Tail → List ℕ
spell_tail close = bytes "]"
spell_tail (oper o) = spell_op o

-- FIX and FUP after their F
abbrev pub read_f : List ℕ → Read Head
read_f [] = fail []
read_f (b ∷ s) = cond (eqb (byte "I") b) (eat (bytes "X[") (call Fix) s) (cond (eqb (byte "U") b) (eat (bytes "P[") (call Fup) s) (fail (b ∷ s)))

abbrev pub head_by : ℕ → List ℕ → Read Head
head_by b s =
    cond (eqb (byte "#") b) (got hash s)
    (cond (eqb (byte "[") b) (got bare s)
    (cond (eqb (byte "A") b) (eat (bytes "BS[") (call Abs) s)
    (cond (eqb (byte "F") b) (read_f s)
    (cond (eqb (byte "R") b) (eat (bytes "OUND[") (call Round) s)
    (fail (b ∷ s))))))

abbrev pub read_head : List ℕ → Read Head
read_head [] = fail []
read_head (b ∷ s) = head_by b s

abbrev pub tail_by : ℕ → List ℕ → Read Tail
tail_by b s =
    cond (eqb (byte "]") b) (got close s)
    (cond (eqb (byte "+") b) (got (oper Add) s)
    (cond (eqb (byte "-") b) (got (oper Sub) s)
    (cond (eqb (byte "*") b) (got (oper Mul) s)
    (cond (eqb (byte "/") b) (got (oper Div) s)
    (cond (eqb (byte "M") b) (eat (bytes "OD") (oper Mod) s)
    (cond (eqb (byte "A") b) (eat (bytes "ND") (oper And) s)
    (cond (eqb (byte "O") b) (eat (bytes "R") (oper Or) s)
    (cond (eqb (byte "X") b) (eat (bytes "OR") (oper Xor) s)
    (fail (b ∷ s))))))))))

abbrev pub read_tail : List ℕ → Read Tail
read_tail [] = fail []
read_tail (b ∷ s) = tail_by b s

-- an expression after its bracket
abbrev pub read_expr : (List ℕ → Read Value) → (List ℕ → Read Rest) → List ℕ → Read Expr
read_expr rv rr s = bind (rv s) (λ v q. map_r (expr v) (rr q))

-- what follows a value's head, and what follows a rest's
abbrev pub read_after : (List ℕ → Read Value) → (List ℕ → Read Rest) → Head → List ℕ → Read Value
read_after rv rr hash r = map_r parameter (rv r)
read_after rv rr bare r = map_r grouped (read_expr rv rr r)
read_after rv rr (call g) r = map_r (applied g) (read_expr rv rr r)

abbrev pub read_more : (List ℕ → Read Value) → (List ℕ → Read Rest) → Tail → List ℕ → Read Rest
read_more rv rr close r = got done r
read_more rv rr (oper o) r = bind (rv r) (λ v q. map_r (more o v) (rr q))

abbrev mutual
  pub read_value : ℕ → List ℕ → Read Value
  read_value zero s = fail s
  read_value (suc f) s = cond (opens_number s) (map_r number (read_number s)) (bind (read_head s) (read_after (λ q. read_value f q) (λ q. read_rest f q)))

  pub read_rest : ℕ → List ℕ → Read Rest
  read_rest zero s = fail s
  read_rest (suc f) s = bind (read_tail s) (read_more (λ q. read_value f q) (λ q. read_rest f q))

-- with as much fuel as the bytes need
unfoldable pub value_of : List ℕ → Read Value
value_of s = read_value (suc (length s)) s

unfoldable pub rest_of : List ℕ → Read Rest
rest_of s = read_rest (suc (length s)) s

-- a setting after its '#', and a comment after its '('
abbrev pub read_setting : List ℕ → Read Item
read_setting s = bind (value_of s) (λ v r. bind (eat {A = Unit {0}} (bytes "=") tt r) (λ _ q. map_r (setting v) (value_of q)))

abbrev pub read_comment : List ℕ → Read Item
read_comment s = eat (bytes ")") (comment (take_while remark s)) (drop_while remark s)

abbrev pub read_item : List ℕ → Read Item
read_item [] = fail []
read_item (b ∷ s) = cond (letter b) (map_r (word b) (value_of s)) (cond (eqb (byte "#") b) (read_setting s) (cond (eqb (byte "(") b) (read_comment s) (fail (b ∷ s))))

abbrev pub read_items : ℕ → List ℕ → Read (List Item)
read_items zero s = fail s
read_items (suc f) [] = got [] []
read_items (suc f) (b ∷ s) = bind (read_item (b ∷ s)) (λ i r. map_r (λ l. i ∷ l) (read_items f r))

unfoldable pub items_of : List ℕ → Read (List Item)
items_of s = read_items (suc (length s)) s

-- one to five digits after N; a sixth is where it fails
abbrev pub labelled : List ℕ → List ℕ → Read Label
labelled ds r = cond (leb 1 (length ds)) (cond (leb (length ds) 5) (got (label ds) r) (fail (drop 5 (ds ++ r)))) (fail r)

abbrev pub read_label : List ℕ → Read Label
read_label [] = got unlabelled []
read_label (b ∷ s) = cond (eqb (byte "N") b) (labelled (take_while digit s) (drop_while digit s)) (got unlabelled (b ∷ s))

-- a condition after its bracket; and what follows a stroke
unfoldable pub expr_of : List ℕ → Read Expr
expr_of s = read_expr value_of rest_of s

abbrev pub read_condition : Stroke → List ℕ → Read Mark
read_condition k [] = got (plain k) []
read_condition k (b ∷ s) = cond (eqb (byte "[") b) (map_r (conditional k) (expr_of s)) (got (plain k) (b ∷ s))

abbrev pub read_mark : List ℕ → Read Mark
read_mark [] = got unmarked []
read_mark (b ∷ s) = cond (eqb (byte "/") b) (read_condition slash s) (cond (eqb (byte "\\") b) (read_condition backslash s) (got unmarked (b ∷ s)))

abbrev pub read_line : List ℕ → Read Line
read_line s = bind (read_mark s) (λ m r. bind (read_label r) (λ n q. map_r (line m n) (items_of q)))

abbrev pub answer : Read Line → Option Line
answer (fail q) = none
answer (got t []) = some t
answer (got t (b ∷ r)) = none

-- the tree of a prepared line
abbrev pub parse : List ℕ → Option Line
parse s = answer (read_line s)
