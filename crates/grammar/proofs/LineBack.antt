-- What a line's tree writes is read back.
use mathlib.Core.Path.{◌≡◌, refl, ap, ◌∙◌}
use mathlib.Core.Bool.{false, not}
use mathlib.Core.List.{List, [], ◌∷◌, ◌++◌, append_assoc}
use Prim.Native.Nat.{ℕ, zero, suc, ◌+◌, ◌≤◌, ◌<◌}
use native.Mathlib.Omega.{arith}
use lib.Dec.{T, leb, eqb, eqb→eq, leb→le, le→leb, not_T, T_not}
use lib.ListN.{length, length-append}
use Rattle.grammar.specs.Grammar.{Value, write_value, Expr, expr, write_expr, Rest, write_rest, digit, letter, remark, ValueOk, ExprOk, RestOk}
use Rattle.grammar.specs.Bytes.{byte, bytes}
use Rattle.grammar.specs.Grammar.{Item, word, setting, comment, Stroke, slash, backslash, Mark, unmarked, plain, conditional, Label, label, unlabelled, Line, line}
use Rattle.grammar.specs.Grammar.{write_item, write_items, spell_stroke, write_mark, write_label, write, ItemOk, ItemsOk, LabelOk, MarkOk, LineOk}
use Rattle.grammar.proofs.Read.{got, bind, map_r, value_of, rest_of, items_of, expr_of, read_condition, read_mark}
use Rattle.grammar.proofs.Read.{read_item, read_items, read_label, read_line}
use Rattle.grammar.proofs.Back.{Stops, numeral, take_back, drop_back, differs, value_back, rest_back, rest_stops, inner, stops_digit}
use Rattle.laws.proofs.Bools.{and_right, or_cases, T-eq, below}

-- a word's letter is neither a digit nor the point
numeral_low : (b : ℕ) → T (numeral b) → b < 58
numeral_low b = or_cases (digit b) (eqb (byte ".") b) (λ h. omega (arith, leb→le b 57 (and_right (leb 48 b) (leb b 57) h))) (λ h. omega (arith, eqb→eq (byte ".") b h))

letter_stops : (b : ℕ) → T (letter b) → T (not (numeral b))
letter_stops b t = not_T (numeral b) (λ h. T_not (letter b) (below (λ k. not (letter k)) 58 tt b (numeral_low b h)) t)

items_stop : (l : List Item) → ItemsOk l → Stops numeral (write_items l)
items_stop [] ok = tt
items_stop (word b v ∷ l) ok = letter_stops b ok.0.0
items_stop (setting v w ∷ l) ok = tt
items_stop (comment bs ∷ l) ok = tt

-- no item begins with k
items_miss : (k : ℕ) (l : List Item) → ItemsOk l → T (not (letter k)) → eqb k (byte "#") ≡ false → eqb k (byte "(") ≡ false → (b : ℕ) (s : List ℕ) → write_items l ≡ b ∷ s → eqb k b ≡ false
items_miss k [] ok n e g b s h = absurd (let z : ◌≡◌ {A = ℕ} 0 1 = cc in omega arith)
items_miss k (word c v ∷ l) ok n e g b s h = let w : c ≡ b = cc in rw w at (differs letter k c ok.0.0 n)
items_miss k (setting v w ∷ l) ok n e g b s h = let q : byte "#" ≡ b = cc in rw q at e
items_miss k (comment bs ∷ l) ok n e g b s h = let q : byte "(" ≡ b = cc in rw q at g

-- a value by itself
pub value_of_back : (v : Value) (r : List ℕ) → ValueOk v → Stops numeral r → value_of (write_value v ++ r) ≡ got v r
unfolding value_of
value_of_back v r ok h = value_back v (suc (length (write_value v ++ r))) r ok h (omega (arith, length-append (write_value v) r))

item_back : (i : Item) (r : List ℕ) → ItemOk i → Stops numeral r → read_item (write_item i ++ r) ≡ got i r
item_back (word b v) r ok h = rw (T-eq (letter b) ok.0, value_of_back v r ok.1 h)
item_back (setting v w) r ok h =
    rw (append_assoc (write_value v) (byte "=" ∷ write_value w) r, value_of_back v (byte "=" ∷ (write_value w ++ r)) ok.0 tt, value_of_back w r ok.1 h)
item_back (comment bs) r ok h = rw (append_assoc bs (bytes ")") r, take_back remark bs (byte ")" ∷ r) ok tt, drop_back remark bs (byte ")" ∷ r) ok tt)

items_step : (i : Item) (f : ℕ) (r : List ℕ) → read_items (suc f) (write_item i ++ r) ≡ bind (read_item (write_item i ++ r)) (λ j q. map_r (λ l. j ∷ l) (read_items f q))
items_step (word b v) f r = refl
items_step (setting v w) f r = refl
items_step (comment bs) f r = refl

pub item_writes : (i : Item) → 1 ≤ length (write_item i)
item_writes (word b v) = omega arith
item_writes (setting v w) = omega arith
item_writes (comment bs) = omega arith

pub items_back : (l : List Item) (f : ℕ) → ItemsOk l → length (write_items l) < f → read_items f (write_items l) ≡ got l []
items_back l zero ok h = absurd (omega arith)
items_back [] (suc f) ok h = refl
items_back (i ∷ l) (suc f) ok h =
    let k : length (write_item i) + length (write_items l) < suc f = rw length-append at h in
    items_step i f (write_items l)
    ∙ rw (item_back i (write_items l) ok.0 (items_stop l ok.1), items_back l f ok.1 (omega (arith, item_writes i)))

-- what follows a label is no digit
label_back : (n : Label) (l : List Item) → LabelOk n → ItemsOk l → read_label (write_label n ++ write_items l) ≡ got n (write_items l)
label_back unlabelled l ok oks = go (write_items l) refl
  where
    go : (s : List ℕ) → write_items l ≡ s → read_label s ≡ got unlabelled s
    go [] e = refl
    go (b ∷ s) e = rw (items_miss (byte "N") l oks tt refl refl b s e)
label_back (label ds) l ok oks =
    rw (
      take_back digit ds (write_items l) ok.0 (stops_digit (write_items l) (items_stop l oks)),
      drop_back digit ds (write_items l) ok.0 (stops_digit (write_items l) (items_stop l oks)),
      T-eq (leb 1 (length ds)) (le→leb 1 (length ds) ok.1),
      T-eq (leb (length ds) 5) (le→leb (length ds) 5 ok.2),
    )

-- an expression after its bracket
rest_of_back : (q : Rest) (r : List ℕ) → RestOk q → rest_of (write_rest q ++ r) ≡ got q r
unfolding rest_of
rest_of_back q r ok = rest_back q (suc (length (write_rest q ++ r))) r ok (omega (arith, length-append (write_rest q) r))

pub expr_of_back : (e : Expr) (r : List ℕ) → ExprOk e → expr_of (inner e ++ r) ≡ got e r
unfolding expr_of
expr_of_back (expr v q) r ok = rw (append_assoc (write_value v) (write_rest q) r, value_of_back v (write_rest q ++ r) ok.0 (rest_stops q r), rest_of_back q r ok.1)

-- what follows a mark, N or an item, begins with none of the bytes that a mark has
pub after_mark : (k : ℕ) (n : Label) (l : List Item) → ItemsOk l → T (not (letter k)) → eqb k (byte "#") ≡ false → eqb k (byte "(") ≡ false → eqb k (byte "N") ≡ false →
    (b : ℕ) (s : List ℕ) → write_label n ++ write_items l ≡ b ∷ s → eqb k b ≡ false
after_mark k unlabelled l oks t e g m b s h = items_miss k l oks t e g b s h
after_mark k (label ds) l oks t e g m b s h = let q : byte "N" ≡ b = cc in rw q at m

step_condition : (k : Stroke) (s : List ℕ) → read_mark (spell_stroke k ++ s) ≡ read_condition k s
step_condition slash s = refl
step_condition backslash s = refl

opened : (k : Stroke) (e : Expr) (r : List ℕ) → read_condition k (write_expr e ++ r) ≡ map_r (conditional k) (expr_of (inner e ++ r))
opened k (expr v q) r = refl

mark_back : (m : Mark) (n : Label) (l : List Item) → MarkOk m → ItemsOk l → read_mark (write_mark m ++ (write_label n ++ write_items l)) ≡ got m (write_label n ++ write_items l)
mark_back (conditional k e) n l ok oks =
    rw (append_assoc (spell_stroke k) (write_expr e) (write_label n ++ write_items l))
    (step_condition k (write_expr e ++ (write_label n ++ write_items l)) ∙ opened k e (write_label n ++ write_items l) ∙ ap (map_r (conditional k)) (expr_of_back e (write_label n ++ write_items l) ok))
mark_back (plain k) n l ok oks = step_condition k (write_label n ++ write_items l) ∙ go (write_label n ++ write_items l) refl
  where
    go : (s : List ℕ) → write_label n ++ write_items l ≡ s → read_condition k s ≡ got (plain k) s
    go [] e = refl
    go (b ∷ s) e = rw (after_mark (byte "[") n l oks tt refl refl refl b s e)
mark_back unmarked n l ok oks = go (write_label n ++ write_items l) refl
  where
    go : (s : List ℕ) → write_label n ++ write_items l ≡ s → read_mark s ≡ got unmarked s
    go [] e = refl
    go (b ∷ s) e = rw (after_mark (byte "/") n l oks tt refl refl refl b s e, after_mark (byte "\\") n l oks tt refl refl refl b s e)

pub line_back : (t : Line) → LineOk t → read_line (write t) ≡ got t []
unfolding items_of
line_back (line m n l) ok = rw (mark_back m n l ok.0 ok.2, label_back n l ok.1 ok.2, items_back l (suc (length (write_items l))) ok.2 (omega arith))
