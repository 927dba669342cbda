-- Digits that stand a byte each in one number.
-- Assumes nothing.
use mathlib.Core.Path.{◌≡◌, refl, ap, ap₂, ◌∙◌}
use mathlib.Core.List.{List, [], ◌∷◌, ◌++◌}
use Prim.Native.Nat.{ℕ, zero, suc, ◌+◌, ◌-◌, ◌*◌, ◌/◌, ◌%◌, ◌≤◌, ◌<◌}
use native.Mathlib.Omega.{arith}
use native.Mathlib.Decide.{dec_lt}
use borrow.Author.Tests.{lt-ltb, le-ltb}
use lib.Bits.{bit_and, and_block, and_mask, and_high}
use Rattle.rules.specs.Frames.{hex_digit, hex}
use Rattle.frames.specs.Text.{packed}

-- the bytes of a number, the last k of them
unfoldable pub bytes_of : ℕ → ℕ → List ℕ
bytes_of zero n = []
bytes_of (suc k) n = bytes_of k (n / 256) ++ n % 256 ∷ []

-- a digit without a test: 6 more than a letter's number carries
by_carry : (d : ℕ) → d < 16 → d + 48 + (d + 6) / 16 * 7 ≡ hex_digit d
by_carry d h = which (dec_lt d 10)
  where
    which : Dec (d < 10) → d + 48 + (d + 6) / 16 * 7 ≡ hex_digit d
    which (yes e) = simp (lt-ltb d 10 e) (omega arith)
    which (no e) = simp (le-ltb d 10 (omega arith)) (omega arith)

-- a one in each byte, the digits' numbers, and which of them are letters
ones : ℕ → ℕ
ones zero = 0
ones (suc k) = ones k * 256 + 1

nibbles : ℕ → ℕ → ℕ
nibbles zero n = 0
nibbles (suc k) n = nibbles k (n / 16) * 256 + n % 16

letters : ℕ → ℕ → ℕ
letters zero n = 0
letters (suc k) n = letters k (n / 16) * 256 + (n % 16 + 6) / 16

carried : (k n : ℕ) → bit_and (nibbles k n + 6 * ones k) (16 * ones k) ≡ letters k n * 16
unfolding ones nibbles letters
carried zero n = refl
carried (suc k) n =
    let a = nibbles k (n / 16) + 6 * ones k in
    let d = n % 16 + 6 in
    let e : nibbles (suc k) n + 6 * ones (suc k) ≡ a * 256 + d = omega arith in
    let f : 16 * ones (suc k) ≡ 16 * ones k * 256 + 16 = omega arith in
    let g : bit_and (a * 256 + d) (16 * ones k * 256 + 16) ≡ bit_and a (16 * ones k) * 256 + bit_and d 16 = and_block 8 a (16 * ones k) d 16 (omega arith) (omega arith) in
    let one : bit_and d 16 ≡ d / 16 % 2 * 16 = and_high d 1 4 in
    let ih = carried k (n / 16) in
    ap₂ bit_and e f ∙ g ∙ omega arith

packed_sum : (k n : ℕ) → nibbles k n + 48 * ones k + letters k n * 7 ≡ packed k n
unfolding packed ones nibbles letters
packed_sum zero n = refl
packed_sum (suc k) n =
    let ih = packed_sum k (n / 16) in
    omega (arith, by_carry (n % 16) (omega arith))

small : (k n : ℕ) → (nibbles k n ≤ 15 * ones k) × (letters k n ≤ ones k)
unfolding ones nibbles letters
small zero n = (omega arith, omega arith)
small (suc k) n =
    let ih = small k (n / 16) in
    (omega arith, omega arith)

-- ---- the digits moved apart, as the code does it
abbrev pair : ℕ → ℕ
pair y = y / 16 * 256 + y % 16

two_more : (k n : ℕ) → nibbles (suc (suc k)) n ≡ nibbles k (n / 256) * 65536 + pair (n % 256)
unfolding nibbles
two_more k n =
    let e : n / 16 / 16 ≡ n / 256 = omega arith in
    ap (λ (x : ℕ). (nibbles k x * 256 + n / 16 % 16) * 256 + n % 16) e ∙ omega arith

abbrev four : (a b c d : ℕ) → ℕ
four a b c d = ((a * 65536 + b) * 65536 + c) * 65536 + d

none : (n : ℕ) → nibbles 0 n ≡ 0
unfolding nibbles
none n = refl

eight_ones : ones 8 ≡ 72340172838076673
unfolding ones
eight_ones = refl

eight : (n : ℕ) → four (pair (n / 256 / 256 / 256 % 256)) (pair (n / 256 / 256 % 256)) (pair (n / 256 % 256)) (pair (n % 256)) ≡ nibbles 8 n
eight n = omega (arith, two_more 6 n, two_more 4 (n / 256), two_more 2 (n / 256 / 256), two_more 0 (n / 256 / 256 / 256), none (n / 256 / 256 / 256 / 256))

low_digit : (hi lo m : ℕ) → lo < 65536 → bit_and (hi * 65536 + lo) (m * 65536 + 15) ≡ bit_and hi m * 65536 + lo % 16
low_digit hi lo m h = and_block 16 hi m lo 15 h (omega arith) ∙ ap (λ (x : ℕ). bit_and hi m * 65536 + x) (and_mask lo 4)

low_four : (a b c d : ℕ) → b < 65536 → c < 65536 → d < 65536 → bit_and (four a b c d) 4222189076152335 ≡ four (a % 16) (b % 16) (c % 16) (d % 16)
low_four a b c d hb hc hd =
    let ab = a * 65536 + b in
    let x : bit_and a 15 ≡ a % 16 = and_mask a 4 in
    let y : bit_and ab 983055 ≡ bit_and a 15 * 65536 + b % 16 = low_digit a b 15 hb in
    let z : bit_and (ab * 65536 + c) 64425492495 ≡ bit_and ab 983055 * 65536 + c % 16 = low_digit ab c 983055 hc in
    let w : bit_and (four a b c d) 4222189076152335 ≡ bit_and (ab * 65536 + c) 64425492495 * 65536 + d % 16 = low_digit (ab * 65536 + c) d 64425492495 hd in
    cc

low_two : (a b : ℕ) → b < 4294967296 → bit_and (a * 4294967296 + b) 1095216660735 ≡ a % 256 * 4294967296 + b % 256
low_two a b h = and_block 32 a 255 b 255 h (omega arith) ∙ ap₂ (λ (x y : ℕ). x * 4294967296 + y) (and_mask a 8) (and_mask b 8)

move_two : (a b low : ℕ) → low ≡ a % 256 * 4294967296 + b % 256
    → low + (a * 4294967296 + b - low) * 256 ≡ four (a / 256) (a % 256) (b / 256) (b % 256)
move_two a b low e = omega arith

move_four : (a b c d low : ℕ) → low ≡ four (a % 16) (b % 16) (c % 16) (d % 16)
    → low + (four a b c d - low) * 16 ≡ four (pair a) (pair b) (pair c) (pair d)
move_four a b c d low e = omega arith

low_quarter : (m : ℕ) → m % 65536 % 256 ≡ m % 256
low_quarter m = omega arith

high_quarter : (m : ℕ) → m % 65536 / 256 ≡ m / 256 % 256
high_quarter m = omega arith

module _ (n : ℕ) where
  abbrev last : ℕ
  last = n % 4294967296

  abbrev halves : ℕ
  halves = last % 65536 + (last - last % 65536) * 65536

  abbrev low_quarters : ℕ
  low_quarters = bit_and halves 1095216660735

  abbrev quarters : ℕ
  quarters = low_quarters + (halves - low_quarters) * 256

  abbrev low_digits : ℕ
  low_digits = bit_and quarters 4222189076152335

  abbrev digits : ℕ
  digits = low_digits + (quarters - low_digits) * 16

  halves_are : halves ≡ last / 65536 * 4294967296 + last % 65536
  halves_are = omega arith

  pub low_quarters_are : low_quarters ≡ last / 65536 % 256 * 4294967296 + last % 65536 % 256
  low_quarters_are =
      ap (λ (x : ℕ). bit_and x 1095216660735) halves_are ∙ low_two (last / 65536) (last % 65536) (omega arith)

  moved : quarters ≡ four (last / 65536 / 256) (last / 65536 % 256) (last % 65536 / 256) (last % 65536 % 256)
  moved =
      ap (λ (x : ℕ). low_quarters + (x - low_quarters) * 256) halves_are ∙ move_two (last / 65536) (last % 65536) low_quarters low_quarters_are

  pub quarters_are : quarters ≡ four (n / 256 / 256 / 256 % 256) (n / 256 / 256 % 256) (n / 256 % 256) (n % 256)
  quarters_are =
      let low : last % 65536 ≡ n % 65536 = omega arith in
      let top : last / 65536 ≡ n / 256 / 256 % 65536 = omega arith in
      let d = ap (λ (x : ℕ). x % 256) low ∙ low_quarter n in
      let c = ap (λ (x : ℕ). x / 256) low ∙ high_quarter n in
      let b = ap (λ (x : ℕ). x % 256) top ∙ low_quarter (n / 256 / 256) in
      let a = ap (λ (x : ℕ). x / 256) top ∙ high_quarter (n / 256 / 256) in
      cc moved

  pub low_digits_are : low_digits ≡ four (n / 256 / 256 / 256 % 256 % 16) (n / 256 / 256 % 256 % 16) (n / 256 % 256 % 16) (n % 256 % 16)
  low_digits_are = ap (λ (x : ℕ). bit_and x 4222189076152335) quarters_are ∙ low_four _ _ _ _ (omega arith) (omega arith) (omega arith)

  digits_are : digits ≡ nibbles 8 n
  digits_are =
      ap (λ (x : ℕ). low_digits + (x - low_digits) * 16) quarters_are ∙ move_four _ _ _ _ low_digits low_digits_are ∙ eight n

  pub quarters_small : quarters < 72057594037927936
  quarters_small = omega (arith, quarters_are)

  pub digits_small : digits ≤ 1085102592571150095
  digits_small = omega (arith, digits_are, (small 8 n).0, eight_ones)

  letters_are : bit_and (digits + 434041037028460038) 1157442765409226768 / 16 ≡ letters 8 n
  letters_are =
      let f : 6 * ones 8 ≡ 434041037028460038 = omega (arith, eight_ones) in
      let g : 16 * ones 8 ≡ 1157442765409226768 = omega (arith, eight_ones) in
      let e : bit_and (digits + 434041037028460038) 1157442765409226768 ≡ letters 8 n * 16 = cc (digits_are, carried 8 n) in
      omega (arith, e)

  pub letters_small : bit_and (digits + 434041037028460038) 1157442765409226768 / 16 ≤ 72340172838076673
  letters_small = omega (arith, letters_are, (small 8 n).1, eight_ones)

  pub packed_is : digits + 3472328296227680304 + bit_and (digits + 434041037028460038) 1157442765409226768 / 16 * 7 ≡ packed 8 n
  packed_is = omega (arith, digits_are, letters_are, packed_sum 8 n, eight_ones)

-- ---- the bytes of the digits are the digits
digit_small : (d : ℕ) → d < 16 → hex_digit d < 256
digit_small d h = omega (arith, by_carry d h)

pub bytes_packed : (k j n : ℕ) → k ≤ j → bytes_of k (packed j n) ≡ hex k n
unfolding packed bytes_of
bytes_packed zero j n h = refl
bytes_packed (suc k) zero n h = absurd (omega arith)
bytes_packed (suc k) (suc j) n h =
    let s = digit_small (n % 16) (omega arith) in
    let q : packed (suc j) n / 256 ≡ packed j (n / 16) = omega arith in
    let r : packed (suc j) n % 256 ≡ hex_digit (n % 16) = omega arith in
    ap₂ (λ (x y : ℕ). bytes_of k x ++ y ∷ []) q r ∙ ap (λ (t : List ℕ). t ++ hex_digit (n % 16) ∷ []) (bytes_packed k j (n / 16) (omega arith))
