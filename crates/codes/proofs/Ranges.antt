-- A decision over ranges of codes is a listing of them.
-- Assumes nothing.
use mathlib.Core.Path.{◌≡◌, refl, ap, ap₂, ◌∙◌}
use mathlib.Core.Bool.{Bool, true, false, cond, ◌&&◌, ◌||◌}
use mathlib.Core.List.{List, [], ◌∷◌, ◌++◌, map}
use Prim.Native.Nat.{ℕ, zero, suc, ◌+◌}
use native.Mathlib.Omega.{arith}
use lib.Dec.{eqb, leb, ltb}
use borrow.Author.Tests.{eqb-true, eqb-false, leb-true, leb-false, le-leb, lt-leb, lt-ltb, le-ltb}
use Rattle.grammar.specs.Bytes.{among}
use Rattle.rules.specs.Codes.{Group, listed_in, not_served}
use Rattle.rules.specs.Codes.Group.{◌holds◌}

-- so many codes, from the first on
infix 30 ◌codesFrom◌
pub data Range : Type 0 where
  ◌codesFrom◌ : ℕ → ℕ → Range

-- a modal group by its ranges
infix 25 ◌spans◌
pub data Spans : Type 0 where
  ◌spans◌ : ℕ → List Range → Spans

abbrev counted : ℕ → ℕ → List ℕ
counted zero first = []
counted (suc n) first = first ∷ counted n (suc first)

abbrev listed : List Range → List ℕ
listed [] = []
listed ((n codesFrom first) ∷ rs) = counted n first ++ listed rs

abbrev pub listing : Spans → Group
listing (g spans rs) = g holds listed rs

-- the decision
abbrev pub within : ℕ → List Range → Bool
within code [] = false
within code ((n codesFrom first) ∷ rs) = (leb first code && ltb code (first + n)) || within code rs

abbrev pub filed_in : List Spans → ℕ → ℕ
filed_in [] code = not_served
filed_in ((g spans rs) ∷ gs) code = cond (within code rs) g (filed_in gs code)

-- a range with its first code taken off
shorter : (code first n : ℕ) → (eqb code first ≡ false) → (leb (suc first) code && ltb code (suc first + n)) ≡ (leb first code && ltb code (first + suc n))
shorter code first n e = by (leb first code) refl
  where
    by : (from : Bool) → leb first code ≡ from → (leb (suc first) code && ltb code (suc first + n)) ≡ (from && ltb code (first + suc n))
    by true p =
        rw (le-leb (suc first) code (omega (arith, leb-true first code p, eqb-false code first e)))
        (ap (ltb code) (omega arith))
    by false p = rw (lt-leb (suc first) code (omega (arith, leb-false first code p))) refl

in_range_holds : (n first code : ℕ) (rest : List ℕ) → among code (counted n first ++ rest) ≡ ((leb first code && ltb code (first + n)) || among code rest)
in_range_holds zero first code rest = by (leb first code) refl
  where
    by : (from : Bool) → leb first code ≡ from → among code rest ≡ ((from && ltb code (first + zero)) || among code rest)
    by true p = rw (le-ltb code (first + zero) (omega (arith, leb-true first code p))) refl
    by false p = refl
in_range_holds (suc n) first code rest = by (eqb code first) refl (in_range_holds n (suc first) code rest)
  where
    by : (same : Bool) → eqb code first ≡ same → among code (counted n (suc first) ++ rest) ≡ ((leb (suc first) code && ltb code (suc first + n)) || among code rest)
        → (same || among code (counted n (suc first) ++ rest)) ≡ ((leb first code && ltb code (first + suc n)) || among code rest)
    by true e later =
        rw (le-leb first code (omega (arith, eqb-true code first e)), lt-ltb code (first + suc n) (omega (arith, eqb-true code first e))) refl
    by false e later = later ∙ ap (λ (b : Bool). b || among code rest) (shorter code first n e)

in_ranges : (code : ℕ) (rs : List Range) → among code (listed rs) ≡ within code rs
in_ranges code [] = refl
in_ranges code ((n codesFrom first) ∷ rs) =
    in_range_holds n first code (listed rs) ∙ ap (λ (b : Bool). (leb first code && ltb code (first + n)) || b) (in_ranges code rs)

-- so a listing by ranges files a code as the decision does
pub by_ranges : (gs : List Spans) (code : ℕ) → listed_in (map listing gs) code ≡ filed_in gs code
by_ranges [] code = refl
by_ranges ((g spans rs) ∷ gs) code = ap₂ (λ (b : Bool) (other : ℕ). cond b g other) (in_ranges code rs) (by_ranges gs code)
