-- Numbers: the sign, the digits held at a bound past every range, and what they make.
-- Assumes nothing.
use mathlib.Core.Path.{◌≡◌, refl, sym, ap, ◌∙◌}
use mathlib.Core.Bool.{Bool, true, false, ◌||◌}
use mathlib.Core.List.{List, [], ◌∷◌, ◌++◌, append-nil}
use Prim.Native.Nat.{ℕ, ◌+◌, ◌-◌, ◌*◌, ◌^◌, ◌≤◌, ◌<◌, min}
use native.Mathlib.Omega.{arith}
use native.Mathlib.Decide.{dec_le}
use native.Mathlib.Nat.{lt_of_not-le, le-mul_of_pos_right, one-le-pow}
use borrow.Author.Tests.{ne_eqb, le-leb, lt-leb}
use lib.Dec.{eqb, lit<}
use lib.IntN.{pos, neg_ℤ, nat_abs}
use lib.ListN.{length, take, drop, get_or, length-drop, length-append, drop_of_length-le}
use lib.Seq.{drop-drop, drop_at, length-take-le, get_or-take}
use Rattle.laws.proofs.Ints.{abs_neg}
use Rattle.grammar.specs.Grammar.{Sign, digit, Fraction, whole, point, fraction_digits, Number, num}
use Rattle.grammar.proofs.Read.{Read, got, bind, take_while, drop_while, read_fraction, finish, read_number}
use Rattle.grammar.proofs.Sound.{while_good}
use Rattle.grammar.proofs.Place.{place, map_p, number_p}
use Rattle.rules.specs.Numbers.{signed}
use Rattle.rules.specs.Meaning.{Worked, ranged, decimal, negative, written, number_of}
use Rattle.rules.proofs.Fifth.{few_decimals}
use Rattle.value.specs.Guarded.{nearest_size}
use Rattle.value.proofs.Written.{five_decimals}
use Rattle.reader.specs.Places.{valued, SignAt, DigitsAt, with_digit, pointed}
use Rattle.std.specs.Prelude.{Err}
use Rattle.rules.specs.declared.Refusal.TheVariants.{OutOfRange}
use Rattle.reader.proofs.Evaluating.{with_place}
use Rattle.reader.specs.declared.numbers.Signed.{Signed}
use Rattle.reader.specs.declared.numbers.Digits.{Digits}
use Rattle.reader.proofs.Spellings.{back, first_of_holds}
use Rattle.reader.proofs.Decimals.{first_five, take_on, decimal_append}

-- ---- digits, held at a bound past every range
grows : (v : ℕ) (ds : List ℕ) → v ≤ decimal v ds
unfolding decimal
grows v [] = omega arith
grows v (d ∷ ds) = let h = grows (v * 10 + (d - 48)) ds in omega arith

-- holding the number does not change what is held in the end
held : (v : ℕ) (ds : List ℕ) → min 10000000000 (decimal (min 10000000000 v) ds) ≡ min 10000000000 (decimal v ds)
held v ds = elim (dec_le v 10000000000) [
  | yes h ↦ (let e : min 10000000000 v ≡ v = omega arith in rw e)
  | no h ↦
      (let g = grows v ds in
      let k = grows (min 10000000000 v) ds in
      let j : 10000000000 < v = lt_of_not-le h in
      omega arith)
]

-- past the range
ranged_out : (g : Bool) (n : ℕ) → 999999999 < n → ranged (signed g n) ≡ Err OutOfRange
unfolding ranged
ranged_out true n h = rw (lt-leb (nat_abs (neg_ℤ (pos n))) 999999999 (rw (abs_neg (pos n)) h))
ranged_out false n h = rw (lt-leb n 999999999 h)

-- a number of ten thousand million or more is out of range with up to five decimals
past_range : (g : Bool) (m k : ℕ) → k ≤ 5 → 10000000000 ≤ m → written g m k ≡ Err OutOfRange
past_range g m k h l = elim (dec_le k 4) [
  | yes f ↦ few_decimals g m k f ∙ ranged_out g (m * 10 ^ (4 - k)) (let a : m ≤ m * 10 ^ (4 - k) = le-mul_of_pos_right m (one-le-pow (4 - k) 10 (lit< tt)) in omega arith)
  | no f ↦ (let e : k ≡ 5 = omega (arith, lt_of_not-le f) in rw e (five_decimals g m ∙ ranged_out g (nearest_size m 10) (omega arith)))
]

-- a number held there is as far out of range as the number
held_written : (g : Bool) (m k : ℕ) → k ≤ 5 → written g (min 10000000000 m) k ≡ written g m k
held_written g m k l = elim (dec_le m 10000000000) [
  | yes h ↦ (let e : min 10000000000 m ≡ m = omega arith in rw e)
  | no h ↦ (let j : 10000000000 < m = lt_of_not-le h in past_range g (min 10000000000 m) k l (omega arith) ∙ sym (past_range g m k l (omega arith)))
]

-- the digits from at on were passed up to i
pub record Passed (s : List ℕ) (at v n i : ℕ) : Type 0 where
  pub low : n ≤ 10000000000
  pub from : at ≤ i
  pub within : i ≤ length s
  pub same : min 10000000000 (decimal n (take_while digit (drop i s))) ≡ min 10000000000 (decimal v (take_while digit (drop at s)))
  pub past : i + length (take_while digit (drop i s)) ≡ at + length (take_while digit (drop at s))

module _ (s : List ℕ) (at v : ℕ) where
  module _ {n i : ℕ} (q : Passed s at v n i) where
    ended : take_while digit (drop i s) ≡ [] → DigitsAt s at v (record { number = n; next = i })
    unfolding decimal
    ended e = record {
      writes = (let h = q.low in let z : n ≡ min 10000000000 n = omega arith in z) ∙ (rw e at q.same);
      past = omega (arith, q.past, ap length e);
    }

    pub end_past : length s ≤ i → DigitsAt s at v (record { number = n; next = i })
    end_past h = ended (rw (drop_of_length-le s h))

    module _ (h : i < length s) where
      pub end_other : digit (get_or s i 0) ≡ false → DigitsAt s at v (record { number = n; next = i })
      end_other e = ended (rw (first_of_holds s i h, e))

      pub one_more : digit (get_or s i 0) ≡ true → {m : ℕ} → m ≡ with_digit n (get_or s i 0) → Passed s at v m (i + 1)
      unfolding decimal
      one_more b {m} e =
          let d : take_while digit (drop i s) ≡ get_or s i 0 ∷ take_while digit (drop (i + 1) s) = rw (first_of_holds s i h, b) in
          record {
            low = omega arith;
            from = omega (arith, q.from);
            within = omega arith;
            same = rw e (held (n * 10 + (get_or s i 0 - 48)) (take_while digit (drop (i + 1) s)) ∙ sym (ap (λ (x : List ℕ). min 10000000000 (decimal n x)) d) ∙ q.same);
            past = omega (arith, q.past, ap length d);
          }

-- ---- a part of the line that ends before its end
module _ (s : List ℕ) (end : ℕ) (l : end ≤ length s) (at v : ℕ) {n i : ℕ} (q : Passed (take end s) at v n i) where
  in_part : i < end → i < length (take end s)
  in_part h = rw (length-take-le end s l) h

  pub part_past : end ≤ i → DigitsAt (take end s) at v (record { number = n; next = end })
  part_past h =
      let w : i ≤ end = rw (length-take-le end s l) at q.within in
      let z : i ≡ end = omega arith in
      rw z at (end_past (take end s) at v q (rw (length-take-le end s l) h))

  pub part_other : i < end → digit (get_or s i 0) ≡ false → DigitsAt (take end s) at v (record { number = n; next = i })
  part_other h e = end_other (take end s) at v q (in_part h) (rw (get_or-take end s i 0 h) e)

  pub part_more : i < end → digit (get_or s i 0) ≡ true → {m : ℕ} → m ≡ with_digit n (get_or s i 0) → Passed (take end s) at v m (i + 1)
  part_more h b e = one_more (take end s) at v q (in_part h) (rw (get_or-take end s i 0 h) b) (rw (get_or-take end s i 0 h) e)

-- ---- a number made of its parts
pub drop_digits : (s : List ℕ) (at : ℕ) → drop_while digit (drop at s) ≡ drop (at + length (take_while digit (drop at s))) s
drop_digits s at =
    sym (sym (drop-drop (length (take_while digit (drop at s))) at s) ∙ ap (drop (length (take_while digit (drop at s)))) (while_good digit (drop at s))
    ∙ drop_at (take_while digit (drop at s)) (drop_while digit (drop at s)) (length (take_while digit (drop at s))) refl)

pub run_on : (s : List ℕ) (at v : ℕ) {r : Digits} → at ≤ length s → DigitsAt s at v r → (at ≤ r.next) × (r.next ≤ length s)
run_on s at v l q =
    let k : length (take_while digit (drop at s)) + length (drop_while digit (drop at s)) ≡ length s - at = sym (sym (length-drop at s) ∙ ap length (while_good digit (drop at s)) ∙ length-append (take_while digit (drop at s)) (drop_while digit (drop at s))) in
    omega (arith, q.past)

pub run_low : (s : List ℕ) (at v : ℕ) {r : Digits} → DigitsAt s at v r → r.number ≤ 10000000000
run_low s at v q = let h = q.writes in omega arith

pub point_on : (s : List ℕ) (at : ℕ) → at ≤ length s → pointed (drop at s) ≡ true → at + 1 ≤ length s
point_on s at l e = go (drop at s) refl e
  where
    go : (d : List ℕ) → drop at s ≡ d → pointed d ≡ true → at + 1 ≤ length s
    go [] h k = absurd (let z : ◌≡◌ {A = ℕ} 0 1 = cc in omega arith)
    go (b ∷ d) h k = omega (arith, ap length h, length-drop at s)

fraction_none : (d : List ℕ) → pointed d ≡ false → read_fraction d ≡ got whole d
fraction_none [] e = refl
fraction_none (b ∷ d) e = rw e

fraction_some : (d : List ℕ) → pointed d ≡ true → read_fraction d ≡ got (point (take_while digit (drop 1 d))) (drop_while digit (drop 1 d))
fraction_some [] e = absurd (let z : ◌≡◌ {A = ℕ} 0 1 = cc in omega arith)
fraction_some (b ∷ d) e = rw e

module _ (s : List ℕ) (g : Sign) (ds : List ℕ) (f : Fraction) (p : ℕ) (l : p ≤ length s) where
  made : 1 ≤ length ds + length (fraction_digits f) → valued (map_p number_of (place s (finish g ds f (drop p s)))) ≡ with_place (number_of (num g ds f)) p
  made h = rw (le-leb 1 (length (ds ++ fraction_digits f)) (omega (arith, length-append ds (fraction_digits f)))) (ap (λ (x : ℕ). with_place (number_of (num g ds f)) x) (back s p l))

  unmade : length ds + length (fraction_digits f) ≡ 0 → valued (map_p number_of (place s (finish g ds f (drop p s)))) ≡ Err p
  unmade h = rw (lt-leb 1 (length (ds ++ fraction_digits f)) (omega (arith, length-append ds (fraction_digits f)))) (ap Err (back s p l))

module _ (s : List ℕ) (at : ℕ) {g : Signed} {a : Digits} (p : SignAt s at g) (q : DigitsAt s g.next 0 a) where
  ds : List ℕ
  ds = take_while digit (drop g.next s)

  form : read_number (drop at s) ≡ bind (read_fraction (drop a.next s)) (λ f r. finish p.sign ds f r)
  unfolding ds
  form = rw (p.is, drop_digits s g.next, ← q.past)

  on : (g.next ≤ a.next) × (a.next ≤ length s)
  on = run_on s g.next 0 p.within q

  module _ (n : pointed (drop a.next s) ≡ false) where
    plain : read_number (drop at s) ≡ finish p.sign ds whole (drop a.next s)
    plain = form ∙ rw (fraction_none (drop a.next s) n)

    pub none_at_all : a.next ≡ g.next → Err a.next ≡ valued (map_p number_of (number_p s at))
    unfolding number_p ds
    none_at_all e = sym (ap (λ (x : Read Number). valued (map_p number_of (place s x))) plain ∙ unmade s p.sign ds whole a.next on.1 (omega (arith, q.past)))

    pub whole_number : (a.next ≡ g.next → ⊥) → {v : Worked} → v ≡ written g.negative a.number 0 → with_place v a.next ≡ valued (map_p number_of (number_p s at))
    unfolding number_p ds number_of
    whole_number e {v} w =
        ap (λ (x : Worked). with_place x a.next) (w ∙ rw (p.minus, q.writes) (held_written (negative p.sign) (decimal 0 ds) 0 (omega arith) ∙ rw (append-nil ds)))
        ∙ sym (ap (λ (x : Read Number). valued (map_p number_of (place s x))) plain ∙ made s p.sign ds whole a.next on.1 (omega (arith, q.past, on)))

  module _ (n : pointed (drop a.next s) ≡ true) {b : Digits} (r : DigitsAt s (a.next + 1) a.number b) where
    es : List ℕ
    es = take_while digit (drop (a.next + 1) s)

    dotted : read_number (drop at s) ≡ finish p.sign ds (point es) (drop b.next s)
    unfolding es
    dotted = form ∙ rw (fraction_some (drop a.next s) n, drop-drop 1 a.next s, drop_digits s (a.next + 1), ← r.past)

    far : (a.next + 1 ≤ b.next) × (b.next ≤ length s)
    far = run_on s (a.next + 1) a.number (point_on s a.next on.1 n) r

    pub point_alone : b.next ≡ g.next + 1 → Err b.next ≡ valued (map_p number_of (number_p s at))
    unfolding number_p ds es
    point_alone e =
        sym (ap (λ (x : Read Number). valued (map_p number_of (place s x))) dotted ∙ unmade s p.sign ds (point es) b.next far.1 (omega (arith, q.past, r.past, on, far)))

    module _ (h : b.next ≡ g.next + 1 → ⊥) where
      given : {v : Worked} → v ≡ number_of (num p.sign ds (point es)) → with_place v b.next ≡ valued (map_p number_of (number_p s at))
      unfolding number_p ds es
      given {v} w =
          ap (λ (x : Worked). with_place x b.next) w
          ∙ sym (ap (λ (x : Read Number). valued (map_p number_of (place s x))) dotted ∙ made s p.sign ds (point es) b.next far.1 (omega (arith, q.past, r.past, on, far)))

      -- up to four decimals: all of them
      pub decimal_number : b.next - (a.next + 1) ≤ 4 → {v : Worked} → v ≡ written g.negative b.number (b.next - (a.next + 1)) → with_place v b.next ≡ valued (map_p number_of (number_p s at))
      unfolding number_of ds es
      decimal_number few w =
          let k : b.next - (a.next + 1) ≡ length es = omega (arith, r.past) in
          given
          (w ∙ rw (p.minus, k, r.writes, q.writes)
          (rw (held (decimal 0 ds) es) (held_written (negative p.sign) (decimal (decimal 0 ds) es) (length es) (omega arith) ∙ rw (decimal_append 0 ds es))))

      -- more: the first five, after the digits before the point, read anew
      pub fine_number : 4 < b.next - (a.next + 1) → {w f : Digits} → DigitsAt s g.next 0 w → DigitsAt (take (a.next + 1 + 5) s) (a.next + 1) w.number f → {v : Worked} → v ≡ written g.negative f.number 5 →
          with_place v b.next ≡ valued (map_p number_of (number_p s at))
      unfolding number_of ds es
      fine_number many {w} {f} u t e =
          let five = take_while digit (take 5 (drop (a.next + 1) s)) in
          let c : take_while digit (drop (a.next + 1) (take (a.next + 1 + 5) s)) ≡ five = ap (take_while digit) (take_on (a.next + 1) 5 s) in
          given
          (e ∙ rw (p.minus, t.writes, c, u.writes)
          (rw (held (decimal 0 ds) five)
          (held_written (negative p.sign) (decimal (decimal 0 ds) five) 5 (omega arith)
          ∙ first_five (negative p.sign) (decimal 0 ds) (drop (a.next + 1) s) (omega (arith, r.past))
          ∙ rw (decimal_append 0 ds es))))

-- ---- bytes
module _ (b : ℕ) (x : b ≡ 43 → ⊥) (y : b ≡ 45 → ⊥) (z : b ≡ 46 → ⊥) where
  sure : (c : Bool) → c || (eqb 43 b || (eqb 45 b || eqb 46 b)) ≡ c
  sure true = refl
  sure false = rw (ne_eqb 43 b (λ e. x (sym e)), ne_eqb 45 b (λ e. y (sym e)), ne_eqb 46 b (λ e. z (sym e)))
