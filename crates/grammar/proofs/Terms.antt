-- An expression worked out in one pass (`Pass`), over any arithmetic and however the state is kept. One way to keep it (`Levels`) is one term in hand, and a low
-- operator with its left side that waits for it: it comes to what the rules' two levels come to (the terms, then their sum).
-- Assumes nothing.
use mathlib.Core.Path.{◌≡◌, refl, ◌∙◌}
use mathlib.Core.Bool.{Bool, true, false}
use mathlib.Core.List.{List, [], ◌∷◌}
use Rattle.grammar.specs.Working.{Arithmetic, high, Pair, pair, terms, total, in_order}
use Rattle.grammar.specs.declared.Op.{Op}

-- from a state on, operator after operator, to the end of the expression
abbrev pub onward : {W S : Type 0} → (S → Op → W → S) → (S → W) → S → List (Pair W) → W
onward pushed closing st [] = closing st
onward pushed closing st (pair o b ∷ l) = onward pushed closing (pushed st o b) l

-- a way to keep the state of an expression: at its first value, after an operator and its right side, and at its end
pub record Pass {W E : Type 0} (A : Arithmetic W E) (S : Type 0) : Type 0 where
  pub fresh : W → S
  pub pushed : S → Op → W → S
  pub closing : S → W
  -- one pass is the two levels
  pub ordered : (a : W) (l : List (Pair W)) → onward pushed closing (fresh a) l ≡ in_order A a l

abbrev pub one_pass : {W E S : Type 0} {A : Arithmetic W E} → Pass A S → S → List (Pair W) → W
one_pass P st l = onward P.pushed P.closing st l

-- a state of two levels
pub record Levels {W E : Type 0} (A : Arithmetic W E) (S : Type 0) : Type 0 where
  pub fresh : W → S
  pub pushed : S → Op → W → S
  -- the term in hand, and what waits for it, worked out with its right side
  pub term : S → W
  pub settle : S → W → W
  pub fresh_term : (a : W) → term (fresh a) ≡ a
  pub fresh_settle : (a x : W) → settle (fresh a) x ≡ x
  pub high_term : (st : S) (o : Op) (b : W) → high o ≡ true → term (pushed st o b) ≡ A.work o (term st) b
  pub high_settle : (st : S) (o : Op) (b x : W) → high o ≡ true → settle (pushed st o b) x ≡ settle st x
  pub low_term : (st : S) (o : Op) (b : W) → high o ≡ false → term (pushed st o b) ≡ b
  pub low_settle : (st : S) (o : Op) (b x : W) → high o ≡ false → settle (pushed st o b) x ≡ A.work o (settle st (term st)) x

module _ {W E S : Type 0} {A : Arithmetic W E} (P : Levels A S) where
  -- at the end of an expression
  abbrev pub settled : S → W
  settled st = P.settle st (P.term st)

  -- what the two levels make of a state and the operators after it
  abbrev rest : W → (W → W) → List (Pair W) → W
  rest t settled l = total A (settled (terms A t l).first) (terms A t l).others

  one_total : (l : List (Pair W)) (st : S) → onward P.pushed settled st l ≡ rest (P.term st) (P.settle st) l
  one_total [] st = refl
  one_total (pair o b ∷ l) st = one_total l (P.pushed st o b) ∙ go (high o) refl
    where
      levels : (t : W) → P.term (P.pushed st o b) ≡ t →
          rest (P.term (P.pushed st o b)) (P.settle (P.pushed st o b)) l ≡ total A (P.settle (P.pushed st o b) (terms A t l).first) (terms A t l).others
      levels t e = rw e

      go : (c : Bool) → high o ≡ c → rest (P.term (P.pushed st o b)) (P.settle (P.pushed st o b)) l ≡ rest (P.term st) (P.settle st) (pair o b ∷ l)
      go true e =
          levels (A.work o (P.term st) b) (P.high_term st o b e)
          ∙ rw (P.high_settle st o b (terms A (A.work o (P.term st) b) l).first e, e)
      go false e = levels b (P.low_term st o b e) ∙ rw (P.low_settle st o b (terms A b l).first e, e)

  -- one pass is the two levels
  pub one_in_order : (a : W) (l : List (Pair W)) → onward P.pushed settled (P.fresh a) l ≡ in_order A a l
  one_in_order a l = one_total l (P.fresh a) ∙ rw (P.fresh_term a, P.fresh_settle a (terms A a l).first)

  abbrev pub by_levels : Pass A S
  by_levels = record { fresh = P.fresh; pushed = P.pushed; closing = settled; ordered = one_in_order }
