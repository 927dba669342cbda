-- Digits and what they write, held at a bound past every range, and whether a value is allowed that is held so.
-- Assumes nothing.
use mathlib.Core.Path.{◌≡◌, refl, sym, ap, ◌∙◌}
use mathlib.Core.Bool.{Bool, true, false, cond, ◌&&◌}
use mathlib.Core.List.{List, [], ◌∷◌, ◌++◌}
use Prim.Native.Nat.{ℕ, zero, suc, ◌+◌, ◌-◌, ◌*◌, ◌≤◌, ◌<◌, min}
use native.Mathlib.Omega.{arith}
use native.Mathlib.Decide.{dec_le}
use native.Mathlib.Nat.{lt_of_not-le}
use lib.Dec.{leb, ltb}
use lib.IntN.{ℤ}
use lib.ListN.{length, replicate}
use Rattle.std.specs.Prelude.{Ok, Err}
use Rattle.std.specs.List.{fold}
use borrow.Author.Tests.{le-leb, lt-leb, lt-ltb, le-ltb, leb-true}
use Rattle.grammar.specs.Bytes.{byte}
use Rattle.grammar.specs.Grammar.{Number, num}
use Rattle.rules.specs.Numbers.{signed, within}
use Rattle.rules.specs.Meaning.{decimal, negative}
use Rattle.parameters.specs.Places.{fine, filled, decimals, allowed, judged, value_in}
use Rattle.parameters.specs.Told.{sign_in, whole_in, PartsOf, valued_by}
use Rattle.parameters.specs.declared.places.Place.{Place}
use Rattle.parameters.specs.declared.places.Place.TheVariants.{Entry as entry, Offset as offset, Origin as origin, System as system, Passed as passed}
use Rattle.parameters.specs.declared.lines.Parts.{Parts}
use Rattle.parameters.specs.declared.refusal.FileRefusal.TheVariants.{ValueUnfit}
use Rattle.parameters.proofs.Digits.{decimal_append}
use Rattle.parameters.proofs.Puts.{size_of}

-- ---- digits, held
grows : (v : ℕ) (ds : List ℕ) → v ≤ decimal v ds
unfolding decimal
grows v [] = omega arith
grows v (d ∷ ds) = let h = grows (v * 10 + (d - 48)) ds in omega arith

-- holding the number does not change what is held in the end
pub held_first : (v : ℕ) (ds : List ℕ) → min 10000000000 (decimal (min 10000000000 v) ds) ≡ min 10000000000 (decimal v ds)
held_first v ds = elim (dec_le v 10000000000) [
  | yes h ↦ (let e : min 10000000000 v ≡ v = omega arith in rw e)
  | no h ↦
      (let g = grows v ds in
      let k = grows (min 10000000000 v) ds in
      let j : 10000000000 < v = lt_of_not-le h in
      omega arith)
]

-- a digit more, held
abbrev pub on : ℕ → ℕ → ℕ
on n d = min 10000000000 (n * 10 + (d - byte "0"))

pub worth_fold : (v : ℕ) (ds : List ℕ) → v ≤ 10000000000 → fold on v ds ≡ min 10000000000 (decimal v ds)
unfolding decimal
worth_fold v [] h = omega arith
worth_fold v (d ∷ ds) h = worth_fold (on v d) ds (omega arith) ∙ held_first (v * 10 + (d - 48)) ds

-- zeros behind a number
abbrev pub zeros : ℕ → List ℕ
zeros k = replicate k (byte "0")

pub record Zeros-to (v many n i : ℕ) : Type 0 where
  pub low : n ≤ 10000000000
  pub few : i ≤ many
  pub same : min 10000000000 (decimal n (zeros (many - i))) ≡ min 10000000000 (decimal v (zeros many))

pub zeros_on : (v many : ℕ) {n m i : ℕ} → Zeros-to v many n i → i < many → m ≡ on n 48 → Zeros-to v many m (i + 1)
unfolding decimal
zeros_on v many {n} {m} {i} q h e =
    let z : many - i ≡ suc (many - (i + 1)) = omega arith in
    record {
      low = omega arith;
      few = omega arith;
      same = rw e (held_first (n * 10 + (48 - 48)) (zeros (many - (i + 1))) ∙ sym (ap (λ (k : ℕ). min 10000000000 (decimal n (zeros k))) z) ∙ q.same);
    }

pub zeros_all : (v many : ℕ) {n i : ℕ} → Zeros-to v many n i → many ≤ i → n ≡ min 10000000000 (decimal v (zeros many))
unfolding decimal
zeros_all v many {n} {i} q h =
    let e : many - i ≡ 0 = omega arith in
    (let k = q.low in let z : n ≡ min 10000000000 n = omega arith in z) ∙ (rw e at q.same)

-- all of a number's digits
pub size_all : {a b r : ℕ} (ds fs : List ℕ) (k j : ℕ) → a ≡ min 10000000000 (decimal 0 ds) → b ≡ min 10000000000 (decimal a fs) → j ≡ k - length fs → r ≡ min 10000000000 (decimal b (zeros j))
    → r ≡ min 10000000000 (decimal 0 (ds ++ filled k fs))
size_all {a} {b} {r} ds fs k j p q g h =
    h ∙ rw (q, p, g)
    (held_first (decimal (min 10000000000 (decimal 0 ds)) fs) (zeros (k - length fs))
    ∙ ap (λ (x : ℕ). min 10000000000 x) (sym (decimal_append (min 10000000000 (decimal 0 ds)) fs (zeros (k - length fs))))
    ∙ held_first (decimal 0 ds) (filled k fs)
    ∙ ap (λ (x : ℕ). min 10000000000 x) (sym (decimal_append 0 ds (filled k fs))))

-- ---- whether it is allowed
held_low : (m k : ℕ) → k < 10000000000 → leb (min 10000000000 m) k ≡ leb m k
held_low m k h = elim (dec_le m k) [
  | yes e ↦ (le-leb (min 10000000000 m) k (omega arith) ∙ sym (le-leb m k e))
  | no e ↦ (let j : k < m = lt_of_not-le e in lt-leb (min 10000000000 m) k (omega arith) ∙ sym (lt-leb m k j))
]

pub system_minus : (n : ℕ) → false ≡ allowed system (signed true n)
system_minus zero = refl
system_minus (suc n) = refl

held_system : (b : Bool) (m : ℕ) → allowed system (signed b (min 10000000000 m)) ≡ allowed system (signed b m)
held_system true m = sym (system_minus (min 10000000000 m)) ∙ system_minus m
held_system false m = rw (held_low m 9 (omega arith)) (elim (dec_le 1 m) [
  | yes e ↦ rw (le-leb 1 (min 10000000000 m) (omega arith), le-leb 1 m e)
  | no e ↦ (let j : m < 1 = lt_of_not-le e in rw (lt-leb 1 (min 10000000000 m) (omega arith), lt-leb 1 m j))
])

pub held_allowed : (p : Place) (b : Bool) (m : ℕ) → allowed p (signed b (min 10000000000 m)) ≡ allowed p (signed b m)
held_allowed (entry n) b m = rw (size_of b (min 10000000000 m), size_of b m) (held_low m 999999999 (omega arith))
held_allowed (offset i) b m = rw (size_of b (min 10000000000 m), size_of b m) (held_low m 1000000000 (omega arith))
held_allowed (origin i) b m = rw (size_of b (min 10000000000 m), size_of b m) (held_low m 1000000000 (omega arith))
held_allowed system b m = held_system b m
held_allowed passed b m = refl

pub allowed_size : (k : ℕ) (b : Bool) (n : ℕ) → leb n k ≡ within k (signed b n)
allowed_size k b n = rw (size_of b n)

-- an allowed value was not held
abbrev pub Judged : Place → Type 0
Judged (entry n) = Unit {0}
Judged (offset i) = Unit {0}
Judged (origin i) = Unit {0}
Judged system = Unit {0}
Judged passed = ⊥

exact : (p : Place) → Judged p → (b : Bool) (m : ℕ) → allowed p (signed b (min 10000000000 m)) ≡ true → min 10000000000 m ≡ m
exact (entry n) j b m e = omega (arith, leb-true (min 10000000000 m) 999999999 (allowed_size 999999999 b (min 10000000000 m) ∙ e))
exact (offset i) j b m e = omega (arith, leb-true (min 10000000000 m) 1000000000 (allowed_size 1000000000 b (min 10000000000 m) ∙ e))
exact (origin i) j b m e = omega (arith, leb-true (min 10000000000 m) 1000000000 (allowed_size 1000000000 b (min 10000000000 m) ∙ e))
exact system j true m e = absurd (let z : ◌≡◌ {A = ℕ} 0 1 = ap (λ (x : Bool). cond x 1 0) (system_minus (min 10000000000 m) ∙ e) in omega arith)
exact system j false m e = omega (arith, leb-true (min 10000000000 m) 9 (both (leb 1 (min 10000000000 m)) (leb (min 10000000000 m) 9) e))
  where
    both : (a b : Bool) → (a && b) ≡ true → b ≡ true
    both true b e = e
    both false b e = absurd (let z : ◌≡◌ {A = ℕ} 0 1 = ap (λ (x : Bool). cond x 1 0) e in omega arith)
exact passed j b m e = absurd j

-- ---- the value of a number at a place
size_is : (k : ℕ) (x : Number) → value_in k x ≡ signed (negative (sign_in x)) (decimal 0 (whole_in x ++ filled k (fine x)))
unfolding value_in
size_is k (num s ds f) = refl

module _ (p : Parts) (x : Number) (q : PartsOf p x) (place : Place) where
  pub value_fine : {k : ℕ} → k ≡ decimals place → k < length p.decimals.now → Err ValueUnfit ≡ valued_by place x
  value_fine e h = rw (lt-ltb (decimals place) (length (fine x)) (omega (arith, ap length q.decimals)))

  module _ {k size : ℕ} (e : k ≡ decimals place) (h : length p.decimals.now ≤ k) (m : size ≡ min 10000000000 (decimal 0 (p.whole.now ++ filled k p.decimals.now))) where
    abbrev whole : ℕ
    whole = decimal 0 (whole_in x ++ filled (decimals place) (fine x))

    size_whole : size ≡ min 10000000000 whole
    size_whole = m ∙ rw (q.digits, q.decimals, e)

    allowed_same : allowed place (signed p.negative size) ≡ allowed place (value_in (decimals place) x)
    allowed_same = rw (size_whole, q.minus, size_is (decimals place) x) (held_allowed place (negative (sign_in x)) whole)

    few : ltb (decimals place) (length (fine x)) ≡ false
    few = le-ltb (decimals place) (length (fine x)) (omega (arith, ap length q.decimals))

    pub value_far : allowed place (signed p.negative size) ≡ false → Err ValueUnfit ≡ valued_by place x
    value_far a = rw (few, ← allowed_same, a)

    pub value_good : {z : ℤ} → Judged place → allowed place (signed p.negative size) ≡ true → z ≡ signed p.negative size → Ok z ≡ valued_by place x
    value_good {z} j a s =
        let g : min 10000000000 whole ≡ whole = exact place j p.negative whole (rw size_whole at a) in
        let v : z ≡ value_in (decimals place) x = s ∙ rw (size_whole, g, q.minus) (sym (size_is (decimals place) x)) in
        rw (few, ← allowed_same, a) (ap Ok v)

pub is_judged : (p : Place) → judged p ≡ true → Judged p
is_judged (entry n) e = tt
is_judged (offset i) e = tt
is_judged (origin i) e = tt
is_judged system e = tt
is_judged passed e = absurd (let z : ◌≡◌ {A = ℕ} 0 1 = ap (λ (x : Bool). cond x 1 0) e in omega arith)
