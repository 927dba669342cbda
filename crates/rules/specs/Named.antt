-- Document 01's number of each refusal, and the refusal of each number.
-- Assumes nothing.
use Rattle.std.specs.Prelude.{Bool, cond, List, [], ◌∷◌, ℕ, eqb}
use Rattle.rules.specs.declared.Refusal.{Refusal}
use Rattle.rules.specs.declared.Refusal.TheVariants.{Disorder, LongLine, WrongForm, FineNumber, OutOfRange, ZeroDivisor, NoParameter, NotServed, Doubled, MissingOrIdle, WrongWord, WrongMode, TooFar, BadArc, NoRoom, TooDeep}

-- "Numbers a refused line carries"
abbrev pub refusal_number : Refusal → ℕ
refusal_number Disorder = 1
refusal_number LongLine = 2
refusal_number WrongForm = 3
refusal_number FineNumber = 4
refusal_number OutOfRange = 5
refusal_number ZeroDivisor = 6
refusal_number NoParameter = 7
refusal_number NotServed = 8
refusal_number Doubled = 9
refusal_number MissingOrIdle = 10
refusal_number WrongWord = 11
refusal_number WrongMode = 12
refusal_number TooFar = 13
refusal_number BadArc = 14
refusal_number NoRoom = 15
refusal_number TooDeep = 16

-- the first of some refusals that has that number; where none has, the last of them all
abbrev pub first_numbered : List Refusal → ℕ → Refusal
first_numbered [] n = TooDeep
first_numbered (r ∷ rs) n = cond (eqb n (refusal_number r)) r (first_numbered rs n)

-- all but the last
abbrev pub all_but_last : List Refusal
all_but_last =
    Disorder ∷ LongLine ∷ WrongForm ∷ FineNumber ∷ OutOfRange ∷ ZeroDivisor ∷ NoParameter ∷ NotServed ∷ Doubled
    ∷ MissingOrIdle ∷ WrongWord ∷ WrongMode ∷ TooFar ∷ BadArc ∷ NoRoom ∷ []

-- the refusal that carries a number, 1 to 16; no other number is asked for
abbrev pub refusal_of : ℕ → Refusal
refusal_of n = first_numbered all_but_last n
