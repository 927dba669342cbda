-- What a written number comes to, as a reader can work it out digit by digit: up to four decimals as they stand (`few_decimals`), and with more by the fifth alone
-- (`by_fifth_digit`).
-- Assumes nothing.
use mathlib.Core.Path.{◌≡◌, refl, ap, ◌∙◌}
use mathlib.Core.Bool.{Bool, true, false, cond}
use Prim.Native.Nat.{ℕ, zero, suc, ◌+◌, ◌-◌, ◌*◌, ◌/◌, ◌^◌, ◌≤◌, ◌<◌}
use native.Mathlib.Nat as N
use native.Mathlib.Omega.{arith}
use lib.Dec.{ltb}
use lib.IntN.{pos}
use borrow.Author.Tests.{ltb-true, ltb-false}
use Rattle.rules.specs.Numbers.{signed, nearest}
use Rattle.rules.specs.Meaning.{ranged, written}
use Rattle.rules.proofs.Nearest.{nearest_by}

-- by sign and size
by_size : (s : Bool) (m d : ℕ) → nearest (signed s m) (pos d) ≡ signed s ((2 * m + d) / (2 * d))
by_size true m d = nearest_by true m (pos d)
by_size false m d = nearest_by false m (pos d)

pub few_decimals : (s : Bool) (n d : ℕ) → d ≤ 4 → written s n d ≡ ranged (signed s (n * 10 ^ (4 - d)))
unfolding written
few_decimals s n d h = ap ranged (by_size s (n * 10000) (10 ^ d) ∙ ap (signed s) (size d h))
  where
    size : (d : ℕ) → d ≤ 4 → (2 * (n * 10000) + 10 ^ d) / (2 * 10 ^ d) ≡ n * 10 ^ (4 - d)
    size zero h = omega arith
    size (suc zero) h = omega arith
    size (suc (suc zero)) h = omega arith
    size (suc (suc (suc zero))) h = omega arith
    size (suc (suc (suc (suc zero)))) h = omega arith
    size (suc (suc (suc (suc (suc d))))) h = absurd (omega arith)

five_more : (k : ℕ) → 10 ^ (5 + k) ≡ 100000 * 10 ^ k
five_more k =
    let e : 5 + k ≡ suc (suc (suc (suc (suc k)))) = omega arith in
    rw (e, N.pow-succ' 10 (suc (suc (suc (suc k)))), N.pow-succ' 10 (suc (suc (suc k))), N.pow-succ' 10 (suc (suc k)), N.pow-succ' 10 (suc k), N.pow-succ' 10 k) (omega arith)

-- n with four decimals, then the fifth digit f, then k more that write r
pub by_fifth_digit : (s : Bool) (n f k r : ℕ) → f ≤ 9 → r < 10 ^ k → written s ((n * 10 + f) * 10 ^ k + r) (5 + k) ≡ ranged (signed s (n + cond (ltb f 5) 0 1))
unfolding written
by_fifth_digit s n f k r h l = ap ranged (by_size s (((n * 10 + f) * 10 ^ k + r) * 10000) (10 ^ (5 + k)) ∙ ap (signed s) (rw (five_more k) (size (10 ^ k) l (ltb f 5) refl)))
  where
    size : (K : ℕ) → r < K → (c : Bool) → ltb f 5 ≡ c → (2 * (((n * 10 + f) * K + r) * 10000) + 100000 * K) / (2 * (100000 * K)) ≡ n + cond c 0 1
    size K l true e = let m : f * K ≤ 4 * K = N.mul-le-mul (let p = ltb-true f 5 e in omega arith) (N.le_refl K) in N.div-eq_of_lt-le (2 * (100000 * K)) (omega arith) (omega arith)
    size K l false e =
        let m : 5 * K ≤ f * K = N.mul-le-mul (ltb-false f 5 e) (N.le_refl K) in
        let u : f * K ≤ 9 * K = N.mul-le-mul h (N.le_refl K) in
        N.div-eq_of_lt-le (2 * (100000 * K)) (omega arith) (omega arith)
