-- "That number never exceeds the line's bytes that are neither blank nor in a comment": the work of a derivation and the bytes of the line it derives.
-- Assumes nothing.
use mathlib.Core.Path.{◌≡◌, refl, ap}
use mathlib.Core.Bool.{Bool, true, false, cond, not}
use mathlib.Core.List.{List, [], ◌∷◌, ◌++◌, append_assoc}
use Prim.Native.Nat.{ℕ, suc, ◌+◌, ◌≤◌}
use native.Mathlib.Omega.{arith}
use lib.Dec.{T, eqb}
use lib.ListN.{length, length-append}
use Rattle.laws.proofs.Bools.{and_left, and_right, T-eq, not_eq}
use Rattle.grammar.specs.Bytes.{byte, all}
use Rattle.grammar.specs.Grammar.{Value, number, parameter, applied, grouped, Expr, expr, Rest, done, more}
use Rattle.grammar.specs.Grammar.{Item, word, setting, comment, Mark, unmarked, plain, conditional, Line, line, remark}
use Rattle.grammar.specs.Grammar.{spell_func, spell_op, spell_stroke, write_mark, write_value, write_expr, write_rest, write_item, write_items, write_label, write}
use Rattle.grammar.specs.Grammar.{ValueOk, ExprOk, RestOk, ItemsOk, MarkOk, LineOk}
use Rattle.grammar.specs.Derivation.{blank, raise, strip, inside, Derives}
use Rattle.grammar.specs.Work.{value_work, expr_work, rest_work, items_work, mark_work, work, bare_bytes, bare_after}
use Rattle.grammar.proofs.Back.{spells}
use Rattle.grammar.proofs.Settled.{bare, settled, all_append, no_closing, raised, value_settled, letter_settled, label_settled, mark_settled}
use Rattle.grammar.proofs.Lengths.{value_bytes}

-- ---- runs of bytes that count, and comments, which do not

bare_run : (x y : List ℕ) → T (all settled x) → bare_bytes (x ++ y) ≡ length x + bare_bytes y
unfolding bare_bytes
bare_run [] y t = omega arith
bare_run (b ∷ x) y t =
    let h = and_left (bare b) (eqb (raise b) b) (and_left (settled b) (all settled x) t) in
    rw (not_eq (blank b) (and_left (not (blank b)) (not (eqb b 40)) h), not_eq (eqb b 40) (and_right (not (blank b)) (not (eqb b 40)) h), bare_run x y (and_right (settled b) (all settled x) t))
    (omega arith)

comment_run : (bs y : List ℕ) → T (all remark bs) → bare_after (bs ++ (byte ")" ∷ y)) ≡ bare_bytes y
unfolding bare_after
comment_run [] y t = refl
comment_run (b ∷ bs) y t = rw (no_closing b (and_left (remark b) (all remark bs) t)) (comment_run bs y (and_right (remark b) (all remark bs) t))

-- ---- the work of a value is at most what it writes

mutual
  pub value_work_holds : (v : Value) → ValueOk v → value_work v ≤ length (write_value v)
  value_work_holds (number n) o = value_bytes (number n) o
  value_work_holds (parameter v) o = omega (arith, value_work_holds v o)
  value_work_holds (applied f e) o = omega (arith, expr_work_holds e o, length-append (spell_func f) (write_expr e))
  value_work_holds (grouped e) o = omega (arith, expr_work_holds e o)

  -- its two brackets are no work
  pub expr_work_holds : (e : Expr) → ExprOk e → expr_work e + 2 ≤ length (write_expr e)
  expr_work_holds (expr v r) o = omega (arith, value_work_holds v o.0, rest_work_holds r o.1, length-append (write_value v) (write_rest r))

  rest_work_holds : (r : Rest) → RestOk r → rest_work r + 1 ≤ length (write_rest r)
  rest_work_holds done o = omega arith
  rest_work_holds (more k v r) o =
      omega (arith, value_work_holds v o.0, rest_work_holds r o.1, spells k, length-append (spell_op k) (write_value v ++ write_rest r), length-append (write_value v) (write_rest r))

-- ---- and so is the work of a line, comments left out

items_work_holds : (is : List Item) → ItemsOk is → items_work is ≤ bare_bytes (write_items is)
unfolding bare_bytes
items_work_holds [] o = omega arith
items_work_holds (word b v ∷ is) o =
    let run : bare_bytes ((b ∷ write_value v) ++ write_items is) ≡ suc (length (write_value v)) + bare_bytes (write_items is) =
    bare_run (b ∷ write_value v) (write_items is) (all_append settled (b ∷ []) (write_value v) (rw (T-eq (settled b) (letter_settled b o.0.0)) tt) (value_settled v o.0.1)) in
    omega (arith, run, items_work_holds is o.1, value_work_holds v o.0.1)
items_work_holds (setting v w ∷ is) o =
    let run = bare_run (write_item (setting v w)) (write_items is) (all_append settled (write_value v) (byte "=" ∷ write_value w) (value_settled v o.0.0) (value_settled w o.0.1)) in
    omega (arith, run, items_work_holds is o.1, value_work_holds v o.0.0, value_work_holds w o.0.1, length-append (write_value v) (byte "=" ∷ write_value w))
items_work_holds (comment bs ∷ is) o =
    let run : bare_after ((bs ++ (byte ")" ∷ [])) ++ write_items is) ≡ bare_bytes (write_items is) = rw append_assoc (comment_run bs (write_items is) o.0) in
    omega (arith, run, items_work_holds is o.1)

pub mark_work_holds : (m : Mark) → MarkOk m → mark_work m ≤ length (write_mark m)
mark_work_holds unmarked o = omega arith
mark_work_holds (plain k) o = omega arith
mark_work_holds (conditional k e) o = omega (arith, expr_work_holds e o, length-append (spell_stroke k) (write_expr e))

line_work : (t : Line) → LineOk t → work t ≤ bare_bytes (write t)
line_work (line m n is) o =
    omega (
      arith,
      mark_work_holds m o.0,
      items_work_holds is o.2,
      bare_run (write_mark m) (write_label n ++ write_items is) (mark_settled m o.0),
      bare_run (write_label n) (write_items is) (label_settled n o.1),
    )

-- ---- preparing a line leaves those bytes in it

mutual
  unfolding strip bare_bytes

  strip_bare : (s : List ℕ) → bare_bytes (strip s) ≡ bare_bytes s
  strip_bare [] = refl
  strip_bare (b ∷ s) = go (blank b) (eqb b 40) refl refl (strip_bare s) (inside_bare s)
    where
      go : (c d : Bool) → blank b ≡ c → eqb b 40 ≡ d → bare_bytes (strip s) ≡ bare_bytes s → bare_after (inside s) ≡ bare_after s →
          bare_bytes (cond c (strip s) (raise b ∷ cond d (inside s) (strip s))) ≡ cond c (bare_bytes s) (cond d (bare_after s) (suc (bare_bytes s)))
      go true d e f h k = h
      go false true e f h k = rw ((raised b).0, (raised b).1, e, f) k
      go false false e f h k = rw ((raised b).0, (raised b).1, e, f) (ap suc h)

  inside_bare : (s : List ℕ) → bare_after (inside s) ≡ bare_after s
  inside_bare [] = refl
  inside_bare (b ∷ s) = go (eqb b 41) refl (strip_bare s) (inside_bare s)
    where
      go : (c : Bool) → eqb b 41 ≡ c → bare_bytes (strip s) ≡ bare_bytes s → bare_after (inside s) ≡ bare_after s → bare_after (b ∷ cond c (strip s) (inside s)) ≡ cond c (bare_bytes s) (bare_after s)
      go true e h k = rw e h
      go false e h k = rw e k

-- the work of a derivation never exceeds the line's bytes that are neither blank nor in a comment
pub work_bytes : {t : Line} {s : List ℕ} → Derives t s → work t ≤ bare_bytes s
work_bytes {t} {s} d = omega (arith, line_work t d.ok, ap bare_bytes d.writes, strip_bare s)
