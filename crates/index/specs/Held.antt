-- The entries of an index, as they are held in memory and asked for a number, and what a call leaves of an index.
-- Assumes nothing.
use Rattle.std.specs.Prelude.{Bool, false, cond, List, [], ◌∷◌, ◌++◌, ℕ, zero, suc, ◌+◌, ◌-◌, ◌*◌, ◌/◌, eqb, ltb, length, take, drop, get_or, Option, None, Some, Result, Ok, Err}
use Rattle.index.specs.Index.{Place, place, Entry, Refusal, TooManyNumbers, Indexed, index_most}

-- ---- in memory: "three numbers each, the N number, its first line and that line's first byte"

-- the entries that numbers hold: one or two numbers at the end are none
abbrev pub held : List ℕ → List Entry
held [] = []
held (n ∷ []) = []
held (n ∷ k ∷ []) = []
held (n ∷ k ∷ at ∷ l) = record { number = n; place = place k at } ∷ held l

-- the first entries of a space: so many, or all that it has
abbrev pub kept : List ℕ → ℕ → List Entry
kept space count = held (take (3 * count) space)

-- and the numbers that hold entries
abbrev pub flat : List Entry → List ℕ
flat [] = []
flat (e ∷ es) = e.number ∷ e.place.line ∷ e.place.start ∷ flat es

-- ---- entry by entry

abbrev pub blank : Entry
blank = record { number = 0; place = place 0 0 }

abbrev pub nth : List Entry → ℕ → Entry
nth es i = get_or es i blank

-- how many entries come before the first whose number is n or more
abbrev pub before : ℕ → List Entry → ℕ
before n [] = 0
before n (e ∷ es) = cond (ltb e.number n) (suc (before n es)) 0

-- ---- asking, whatever the entries are

-- whether entry i is one of them and has the number n
abbrev pub present : List Entry → ℕ → ℕ → Bool
present es i n = cond (ltb i (length es)) (eqb (nth es i).number n) false

-- as the searches of std tell it: entry i, where it has the number; or that the number's would be put in there
abbrev pub spot : List Entry → ℕ → ℕ → Result ℕ ℕ
spot es i n = cond (present es i n) (Ok i) (Err i)

-- where a search that halves ends, between low and high, in at most so many steps
abbrev pub halved : ℕ → List Entry → ℕ → ℕ → ℕ → ℕ
halved zero es n low high = low
halved (suc f) es n low high =
    cond (ltb low high)
    (cond (ltb (nth es (low + (high - low) / 2)).number n) (halved f es n (low + (high - low) / 2 + 1) high) (halved f es n low (low + (high - low) / 2)))
    low

unfoldable pub searched : List Entry → ℕ → ℕ
searched es n = halved (length es) es n 0 (length es)

-- what asking for n gives: where the entries rise, that is its place or that it has none (`sought_is`)
abbrev pub found_at : List Entry → ℕ → ℕ → Option Place
found_at es i n = cond (present es i n) (Some (nth es i).place) None

unfoldable pub sought : List Entry → ℕ → Option Place
sought es n = found_at es (searched es n) n

-- ---- what a call leaves

-- the answer, and what text and index hold
pub record After : Type 0 where
  pub answer : Result ℕ Refusal
  pub text : List ℕ
  pub index : List ℕ

abbrev pub after : Result ℕ Refusal → List ℕ → List ℕ → After
after a text index = record { answer = a; text = text; index = index }

-- the entries from the front on; what lies past them stays as it was
abbrev pub over : List Entry → List ℕ → List ℕ
over es old = flat es ++ drop (length (flat es)) old

-- a refusal leaves the index as it was
abbrev pub ended : Option Refusal → List ℕ → List Entry → List ℕ → After
ended None text es old = after (Ok (length es)) text (over es old)
ended (Some e) text es old = after (Err e) text old

abbrev pub afterwards : Indexed → List ℕ → After
afterwards x old = ended x.refusal x.text x.entries old

-- ---- entries handed over, unless they are more than an index may have

abbrev pub answer_of : List Entry → Result ℕ Refusal
answer_of es = cond (ltb index_most (length es)) (Err TooManyNumbers) (Ok (length es))

abbrev pub handed : List Entry → List ℕ → List ℕ
handed es old = cond (ltb index_most (length es)) old (over es old)
