-- What each parameter number stands for, how fine its value is, and which values it may have.
-- Assumes nothing.
use Rattle.std.specs.Prelude.{Bool, true, false, cond, not, ◌&&◌, ◌||◌, List, [], ◌∷◌, ◌++◌, ℕ, suc, ◌+◌, ◌-◌, ◌*◌, ◌/◌, ◌%◌, eqb, leb, ltb, length, replicate, ℤ, nat_abs}
use Rattle.grammar.specs.Bytes.{byte}
use Rattle.grammar.specs.Grammar.{Number, num, fraction_digits}
use Rattle.rules.specs.Numbers.{minus, signed, within, in_range}
use Rattle.rules.specs.Meaning.{decimal, negative}
use Rattle.rules.specs.Steps.{origin_place}
use Rattle.parameters.specs.declared.places.Place.{Place}
use Rattle.parameters.specs.declared.places.Place.TheVariants.{Entry as entry, Offset as offset, Origin as origin, System as system, Passed as passed}

abbrev pub lies : ℕ → ℕ → ℕ → Bool
lies low high n = leb low n && leb n high

-- "5221 to 5223, then every 20": the number that lies so far behind 5221
abbrev pub origin_at : ℕ → Place
origin_at d = cond (ltb (d % 20) 3) (origin (origin_place (suc (d / 20)) (d % 20))) passed

-- "1 to 4999", "5211 to 5213 as the G92 offset and 5221 to 5223, then every 20 up to 5381 to 5383, as origins", "5220 as the system";
-- "Other numbers to 5399 are passed over"
unfoldable pub stands_for : ℕ → Place
stands_for n =
    cond (lies 1 4999 n) (entry n)
    (cond (lies 5211 5213 n) (offset (n - 5211))
    (cond (eqb n 5220) system
    (cond (lies 5221 5383 n) (origin_at (n - 5221))
    passed)))

-- and back: the numbers of the places of the offset and of the origins
abbrev pub offset_number : ℕ → ℕ
offset_number i = 5211 + i

abbrev pub origin_number : ℕ → ℕ
origin_number i = 5221 + (20 * (i / 3) + i % 3)

-- of lengths whose first has a number: three axes to each twenty
abbrev pub number_from : ℕ → ℕ → ℕ
number_from first i = first + (20 * (i / 3) + i % 3)

-- "with up to four decimals", "in mm with up to five decimals" (a count is the fifth of them); a system is whole
abbrev pub decimals : Place → ℕ
decimals (entry n) = 4
decimals (offset i) = 5
decimals (origin i) = 5
decimals system = 0
decimals passed = 0

-- document 01's ranges: "Values reach ±99,999.9999", "origins and offsets ±1,000,000,000 counts"; "the system 1 to 9"
abbrev pub allowed : Place → ℤ → Bool
allowed (entry n) z = in_range z
allowed (offset i) z = within 1000000000 z
allowed (origin i) z = within 1000000000 z
allowed system z = not (minus z) && lies 1 9 (nat_abs z)
allowed passed z = true

-- ---- a number's value, by its decimals

-- "zeros at the end not counted"
abbrev pub before : ℕ → List ℕ → List ℕ
before d [] = cond (eqb d (byte "0")) [] (d ∷ [])
before d (e ∷ es) = d ∷ e ∷ es

abbrev pub trimmed : List ℕ → List ℕ
trimmed [] = []
trimmed (d ∷ ds) = before d (trimmed ds)

-- the digits after the point that count
abbrev pub fine : Number → List ℕ
fine (num s ds f) = trimmed (fraction_digits f)

-- digits with zeros behind, k in all
abbrev pub filled : ℕ → List ℕ → List ℕ
filled k ds = ds ++ replicate (k - length ds) (byte "0")

-- a number with at most k decimals as so many units of the k-th: the digits before the point and k behind it, as one whole number
unfoldable pub value_in : ℕ → Number → ℤ
value_in k (num s ds f) = signed (negative s) (decimal 0 (ds ++ filled k (trimmed (fraction_digits f))))

-- 23: "a value out of range or too fine"; what is passed over is not judged
abbrev pub judged : Place → Bool
judged passed = false
judged (entry n) = true
judged (offset i) = true
judged (origin i) = true
judged system = true

unfoldable pub unfit : Place → Number → Bool
unfit p x = judged p && (ltb (decimals p) (length (fine x)) || not (allowed p (value_in (decimals p) x)))
