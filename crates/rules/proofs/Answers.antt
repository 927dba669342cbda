-- An answer and document 01's numbers: `number_of` and `count_of` tell which answer it is, and every number of an ordered list of them is one that an answer carries.
-- Assumes nothing.
use mathlib.Core.Path.{◌≡◌, refl, sym, subst}
use mathlib.Core.Bool.{Bool, true, false, cond, not, ◌&&◌, ◌||◌}
use mathlib.Core.List.{List, [], ◌∷◌}
use Prim.Native.Nat.{ℕ}
use lib.Dec.{T, eqb, eqb→eq}
use Rattle.laws.proofs.Bools.{and_left, and_right}
use Rattle.rules.specs.Named.{refusal_number, first_numbered, all_but_last, refusal_of}
use Rattle.rules.specs.Refusals.{Case, ◌when◌, first}
use Rattle.rules.specs.Promise.{answer_of, number_of, count_of}
use Rattle.rules.specs.declared.Answer.{Answer}
use Rattle.rules.specs.declared.Answer.TheVariants.{Accepted, Refused, Skipped}
use Rattle.rules.specs.declared.Refusal.{Refusal}
use Rattle.rules.specs.declared.Refusal.TheVariants.{Disorder, LongLine, WrongForm, FineNumber, OutOfRange, ZeroDivisor, NoParameter, NotServed, Doubled, MissingOrIdle, WrongWord, WrongMode, TooFar, BadArc, NoRoom, TooDeep}

-- ---- the numbers that an answer can carry

-- the number of one of some refusals, or of the last
abbrev pub numbered : List Refusal → ℕ → Bool
numbered [] n = eqb n 16
numbered (r ∷ rs) n = eqb n (refusal_number r) || numbered rs n

-- that of acceptance, of a skip, or of a refusal
abbrev pub carriable : ℕ → Bool
carriable n = eqb n 0 || (eqb n 100 || numbered all_but_last n)

first_numbered_holds : (rs : List Refusal) (n : ℕ) → T (numbered rs n) → refusal_number (first_numbered rs n) ≡ n
first_numbered_holds [] n t = sym (eqb→eq n 16 t)
first_numbered_holds (r ∷ rs) n t = go (eqb n (refusal_number r)) refl t (λ u. first_numbered_holds rs n u)
  where
    go : (x : Bool) → eqb n (refusal_number r) ≡ x → T (x || numbered rs n) → (T (numbered rs n) → refusal_number (first_numbered rs n) ≡ n) → refusal_number (cond x r (first_numbered rs n)) ≡ n
    go true e t f = sym (eqb→eq n (refusal_number r) (subst T (sym e) tt))
    go false e t f = f t

-- a refusal is the one of its number
pub refusal_of_holds : (why : Refusal) → why ≡ refusal_of (refusal_number why)
refusal_of_holds Disorder = refl
refusal_of_holds LongLine = refl
refusal_of_holds WrongForm = refl
refusal_of_holds FineNumber = refl
refusal_of_holds OutOfRange = refl
refusal_of_holds ZeroDivisor = refl
refusal_of_holds NoParameter = refl
refusal_of_holds NotServed = refl
refusal_of_holds Doubled = refl
refusal_of_holds MissingOrIdle = refl
refusal_of_holds WrongWord = refl
refusal_of_holds WrongMode = refl
refusal_of_holds TooFar = refl
refusal_of_holds BadArc = refl
refusal_of_holds NoRoom = refl
refusal_of_holds TooDeep = refl

module _ (n k : ℕ) where
  abbrev of : Bool → Bool → Answer
  of zero? skip? = cond zero? (Accepted k) (cond skip? Skipped (Refused (refusal_of n)))

  -- the answer of a number carries it
  pub number_of_holds : T (carriable n) → number_of (answer_of n k) ≡ n
  number_of_holds = go (eqb n 0) (eqb n 100) refl refl
    where
      go : (x y : Bool) → eqb n 0 ≡ x → eqb n 100 ≡ y → T (x || (y || numbered all_but_last n)) → number_of (of x y) ≡ n
      go true y p q t = sym (eqb→eq n 0 (subst T (sym p) tt))
      go false true p q t = sym (eqb→eq n 100 (subst T (sym q) tt))
      go false false p q t = first_numbered_holds all_but_last n t

  pub count_of_holds : count_of (answer_of n k) ≡ cond (eqb n 0) k 0
  count_of_holds = go (eqb n 0) (eqb n 100)
    where
      go : (x y : Bool) → count_of (of x y) ≡ cond x k 0
      go true y = refl
      go false true = refl
      go false false = refl

-- every answer is the one of its number and its count
pub answer_of_holds : (a : Answer) → a ≡ answer_of (number_of a) (count_of a)
answer_of_holds (Accepted n) = refl
answer_of_holds (Refused Disorder) = refl
answer_of_holds (Refused LongLine) = refl
answer_of_holds (Refused WrongForm) = refl
answer_of_holds (Refused FineNumber) = refl
answer_of_holds (Refused OutOfRange) = refl
answer_of_holds (Refused ZeroDivisor) = refl
answer_of_holds (Refused NoParameter) = refl
answer_of_holds (Refused NotServed) = refl
answer_of_holds (Refused Doubled) = refl
answer_of_holds (Refused MissingOrIdle) = refl
answer_of_holds (Refused WrongWord) = refl
answer_of_holds (Refused WrongMode) = refl
answer_of_holds (Refused TooFar) = refl
answer_of_holds (Refused BadArc) = refl
answer_of_holds (Refused NoRoom) = refl
answer_of_holds (Refused TooDeep) = refl
answer_of_holds Skipped = refl

-- ---- and so can the first of an ordered list of them
abbrev pub all_carriable : List Case → Bool
all_carriable [] = true
all_carriable ((n when c) ∷ cs) = carriable n && all_carriable cs

pub first_carriable : (cs : List Case) → T (all_carriable cs) → T (carriable (first cs))
first_carriable [] t = tt
first_carriable ((n when true) ∷ cs) t = and_left (carriable n) (all_carriable cs) t
first_carriable ((n when false) ∷ cs) t = first_carriable cs (and_right (carriable n) (all_carriable cs) t)
