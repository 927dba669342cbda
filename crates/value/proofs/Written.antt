-- A number as it is written, as far as its digits tell its value: up to four decimals by the place of the last, five by one division to the nearest
-- (`five_decimals`), and with more those after the fifth change nothing (`after_fifth`, `cut_to_five`). All of it rests on `few_decimals` and `by_fifth_digit`.
-- Assumes nothing.
use mathlib.Core.Path.{◌≡◌, sym, ap, ◌∙◌}
use mathlib.Core.Bool.{Bool, true, false}
use Prim.Native.Nat.{ℕ, zero, suc, ◌+◌, ◌-◌, ◌*◌, ◌/◌, ◌%◌, ◌^◌, ◌≤◌, ◌<◌}
use native.Mathlib.Omega.{arith}
use native.Mathlib.Nat as N
use lib.Dec.{lit<}
use lib.IntN.{pos}
use Rattle.std.proofs.lemmas.Nat.{pow-add}
use Rattle.rules.specs.Numbers.{signed, nearest}
use Rattle.rules.specs.Meaning.{ranged, written}
use Rattle.std.specs.Prelude.{Err}
use Rattle.rules.specs.declared.Refusal.TheVariants.{OutOfRange}
use Rattle.rules.proofs.Nearest.{nearest_by}
use Rattle.rules.proofs.Fifth.{few_decimals, by_fifth_digit}
use Rattle.value.specs.Guarded.{nearest_size}
use Rattle.value.proofs.Ranges.{signed_out}

-- ---- up to four decimals
-- what the last of k decimals counts, from one ten-thousandth to one unit
pub place_one : (k : ℕ) → 4 ≤ k → 10 ^ (4 - k) ≡ 1
place_one k h = let e : 4 - k ≡ 0 = omega arith in rw e

pub place_low : (k : ℕ) → 0 < 10 ^ (4 - k)
place_low zero = omega arith
place_low (suc zero) = omega arith
place_low (suc (suc zero)) = omega arith
place_low (suc (suc (suc zero))) = omega arith
place_low (suc (suc (suc (suc k)))) = rw (place_one (suc (suc (suc (suc k)))) (omega arith)) (omega arith)

pub place_high : (k : ℕ) → 10 ^ (4 - k) ≤ 10000
place_high zero = omega arith
place_high (suc zero) = omega arith
place_high (suc (suc zero)) = omega arith
place_high (suc (suc (suc zero))) = omega arith
place_high (suc (suc (suc (suc k)))) = rw (place_one (suc (suc (suc (suc k)))) (omega arith)) (omega arith)

module _ (s : Bool) where
  -- digits past the range are out of it wherever the point stands
  pub too_large : (n k : ℕ) → k ≤ 4 → 999999999 < n → written s n k ≡ Err OutOfRange
  too_large n k h l = few_decimals s n k h ∙ signed_out s (N.lt_of_lt_of_le l (rw (N.mul-one n) at (N.mul-le-mul (N.le_refl n) (place_low k))))

  -- ---- five
  pub five_decimals : (n : ℕ) → written s n 5 ≡ ranged (signed s (nearest_size n 10))
  unfolding written
  five_decimals n = ap ranged (by_size s ∙ ap (signed s) by_tens)
    where
      by_tens : nearest_size (n * 10000) 100000 ≡ nearest_size n 10
      by_tens = omega arith

      by_size : (s : Bool) → nearest (signed s (n * 10000)) (pos 100000) ≡ signed s (nearest_size (n * 10000) 100000)
      by_size true = nearest_by true (n * 10000) (pos 100000)
      by_size false = nearest_by false (n * 10000) (pos 100000)

  -- ---- more
  -- n with five decimals, then k digits that write r
  pub after_fifth : (n k r : ℕ) → r < 10 ^ k → written s (n * 10 ^ k + r) (5 + k) ≡ written s n 5
  after_fifth n k r l =
      let h : n % 10 ≤ 9 = omega arith in
      let e : n / 10 * 10 + n % 10 ≡ n = N.div-add-mod' n 10 in
      let five : (n / 10 * 10 + n % 10) * 10 ^ 0 + 0 ≡ n = omega arith in
      (rw e at (by_fifth_digit s (n / 10) (n % 10) k r h l)) ∙ sym (rw five at (by_fifth_digit s (n / 10) (n % 10) 0 0 h (lit< tt)))

  pub cut_to_five : (n d : ℕ) → 5 ≤ d → written s n d ≡ written s (n / 10 ^ (d - 5)) 5
  cut_to_five n d h =
      let e : 5 + (d - 5) ≡ d = omega arith in
      rw (e, N.div-add-mod' n (10 ^ (d - 5))) at (after_fifth (n / 10 ^ (d - 5)) (d - 5) (n % 10 ^ (d - 5)) (N.mod-lt n (N.one-le-pow (d - 5) 10 (lit< tt))))

-- the digits less the last, one decimal fewer
pub one_fewer : (n k : ℕ) → 5 ≤ k → n / 10 ^ (k - 5) / 10 ≡ n / 10 ^ (k + 1 - 5)
one_fewer n k h =
    let e : k + 1 - 5 ≡ suc (k - 5) = omega arith in
    N.div-div-eq-div-mul n (10 ^ (k - 5)) 10 ∙ rw (e, N.pow-suc 10 (k - 5))

-- where nothing is left, nothing is left of fewer digits
pub none_left : (n k d : ℕ) → 5 ≤ k → k ≤ d → 0 ≡ n / 10 ^ (k - 5) → 0 ≡ n / 10 ^ (d - 5)
none_left n k d l h e =
    let far : d - 5 ≡ (k - 5) + (d - k) = omega arith in
    rw (far, pow-add 10 (k - 5) (d - k), sym (N.div-div-eq-div-mul n (10 ^ (k - 5)) (10 ^ (d - k))), sym e) (sym (N.zero-div (10 ^ (d - k))))
