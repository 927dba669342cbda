-- A text taken apart from its front: its first line, the run of bytes of a class, and a point; and from its end: zeros.
-- Assumes nothing.
use mathlib.Core.Path.{◌≡◌, refl, sym, ap, ◌∙◌}
use mathlib.Core.Bool.{Bool, cond}
use mathlib.Core.List.{List, [], ◌∷◌, ◌++◌}
use Prim.Native.Nat.{ℕ, suc, ◌-◌, ◌≤◌, ◌<◌}
use native.Mathlib.Omega.{arith}
use lib.ListN.{length, get_or, take, drop, length-drop}
use lib.Seq.{take_at, drop_at, take-suc, take-length}
use Rattle.std.specs.List.{take_while as front_while}
use Rattle.std.proofs.lemmas.List.Sums.{take_while-cons}
use Rattle.grammar.specs.Bytes.{byte}
use Rattle.grammar.specs.Grammar.{Fraction, point, fraction_digits, digit}
use Rattle.grammar.proofs.Read.{got, take_while, drop_while, read_fraction}
use Rattle.grammar.proofs.Sound.{while_good}
use Rattle.texts.specs.Places.{line_at, Spans}
use Rattle.texts.specs.declared.Span.{Span}
use Rattle.texts.proofs.Spanning.{spans, spans_line}
use Rattle.parameters.specs.Places.{trimmed}
use Rattle.parameters.specs.Told.{FirstLine}
use Rattle.parameters.proofs.Puts.{trim_zero, trim_keep}

pub none_left : {A : Type 0} (xs : List A) → length xs ≡ 0 → xs ≡ []
none_left [] h = refl
none_left (x ∷ xs) h = absurd (omega arith)

-- ---- a run of bytes of a class
module _ (p : ℕ → Bool) where
  same_while : (s : List ℕ) → front_while p s ≡ take_while p s
  same_while [] = refl
  same_while (b ∷ s) = take_while-cons p b s ∙ ap (λ (t : List ℕ). cond (p b) (b ∷ t) []) (same_while s)

  -- its length cuts it off
  module _ (s : List ℕ) {n : ℕ} (e : n ≡ length (front_while p s)) where
    long : n ≡ length (take_while p s)
    long = e ∙ ap length (same_while s)

    pub run_front : take n s ≡ take_while p s
    run_front = rw long (ap (take (length (take_while p s))) (while_good p s) ∙ take_at (take_while p s) (drop_while p s) (length (take_while p s)) refl)

    pub run_behind : drop n s ≡ drop_while p s
    run_behind = rw long (ap (drop (length (take_while p s))) (while_good p s) ∙ drop_at (take_while p s) (drop_while p s) (length (take_while p s)) refl)

-- ---- a point and what stands behind it

-- all but the first byte
abbrev pub tail : List ℕ → List ℕ
tail t = take (length t - 1) (drop 1 t)

dotted : (t : List ℕ) → 1 ≤ length t → get_or t 0 0 ≡ byte "." → read_fraction t ≡ got (point (take_while digit (tail t))) (drop_while digit (tail t))
dotted [] h e = absurd (omega arith)
dotted (b ∷ t) h e =
    let n : suc (length t) - 1 ≡ length t = omega arith in
    rw (e, n, take-length t) refl

module _ (t : List ℕ) (h : 1 ≤ length t) where
  module _ (e : get_or t 0 0 ≡ byte ".") {front behind : List ℕ} (a : front ≡ take_while digit (tail t)) (b : behind ≡ drop_while digit (tail t)) where
    split : read_fraction t ≡ got (point front) behind
    split = dotted t h e ∙ rw (a, b)

    pub point_alone : length behind ≡ 0 → (f : Fraction) × (read_fraction t ≡ got f []) × (front ≡ fraction_digits f)
    point_alone z = (point front, split ∙ ap (got (point front)) (none_left behind z), refl)

    pub point_trailed : (length behind ≡ 0 → ⊥) → (f : Fraction) × (r : List ℕ) × (read_fraction t ≡ got f r) × (1 ≤ length r)
    point_trailed z = (point front, behind, split, omega (arith, z))

-- ---- zeros at the end
last_of : (s : List ℕ) → 1 ≤ length s → s ≡ take (length s - 1) s ++ get_or s (length s - 1) 0 ∷ []
last_of s h =
    let n : suc (length s - 1) ≡ length s = omega arith in
    sym (take-length s) ∙ ap (λ (k : ℕ). take k s) (sym n) ∙ take-suc s (length s - 1) 0 (omega arith)

pub trim_on : (s : List ℕ) → 1 ≤ length s → get_or s (length s - 1) 0 ≡ byte "0" → trimmed (take (length s - 1) s) ≡ trimmed s
trim_on s h e = sym (ap trimmed (last_of s h) ∙ trim_zero (take (length s - 1) s) (get_or s (length s - 1) 0) e)

pub trim_stop : (s : List ℕ) → 1 ≤ length s → (get_or s (length s - 1) 0 ≡ byte "0" → ⊥) → s ≡ trimmed s
trim_stop s h e = last_of s h ∙ sym (ap trimmed (last_of s h) ∙ trim_keep (take (length s - 1) s) (get_or s (length s - 1) 0) e)

-- ---- the first line
module _ (text : List ℕ) {r : Span} (e : r ≡ line_at text 0) (h : 0 < length text) where
  pub spanned : Spans text 0 r
  spanned = rw e (spans text 0 h)

  pub first_line : FirstLine text (take r.end text) (take (length text - r.next) (drop r.next text))
  first_line =
      let z : r.end - 0 ≡ r.end = omega arith in
      let n : length text - r.next ≡ length (drop r.next text) = sym (length-drop r.next text) in
      rw (n, take-length (drop r.next text))
      record {
        cut = rw z at (rw (sym e) at (spans_line text 0 h));
        shorter = omega (arith, spanned.onward, spanned.within, length-drop r.next text);
      }
