-- Settings applied one after the other: what is left to apply from a place on.
-- Assumes nothing.
use mathlib.Core.Path.{◌≡◌, refl, ap, ◌∙◌, sym}
use mathlib.Core.List.{List, [], ◌∷◌}
use Prim.Native.Nat.{ℕ, zero, suc, ◌+◌, ◌-◌, ◌≤◌, ◌<◌}
use native.Mathlib.Numerals.{add-one}
use native.Mathlib.Omega.{arith}
use lib.IntN.{ℤ, pos}
use lib.ListN.{length, take, drop, get_or, set, drop_of_length-le}
use lib.Seq.{drop-cons, take-nil}
use Rattle.rules.specs.Meaning.{Setting}
use Rattle.rules.specs.Promise.{apply}
use Rattle.control.specs.Worked.{settings_of}

module _ (numbers : List ℕ) (amounts : List ℤ) (count : ℕ) where
  -- the settings from place i on
  abbrev pub onward : ℕ → List Setting
  onward i = settings_of (take (count - i) (drop i numbers)) (take (count - i) (drop i amounts))

  pub onward_all : onward 0 ≡ settings_of (take count numbers) (take count amounts)
  onward_all = let k : count - 0 ≡ count = omega arith in rw k

  no_amounts : (ns : List ℕ) → settings_of ns [] ≡ []
  no_amounts [] = refl
  no_amounts (n ∷ ns) = refl

  onward_more : (i : ℕ) → i < count → i < length numbers → i < length amounts → onward i ≡ record { number = get_or numbers i 0; value = get_or amounts i (pos 0) } ∷ onward (i + 1)
  onward_more i c n a =
      let k : count - i ≡ suc (count - (i + 1)) = omega arith in
      rw (drop-cons numbers i 0 n, drop-cons amounts i (pos 0) a, k, add-one i)

  -- one setting applied
  pub onward_applied : (i : ℕ) → i < count → i < length numbers → i < length amounts → (table : List ℤ) {table' : List ℤ} → table' ≡ set table (get_or numbers i 0) (get_or amounts i (pos 0)) →
      apply (onward i) table ≡ apply (onward (i + 1)) table'
  onward_applied i c n a table e = ap (λ (ss : List Setting). apply ss table) (onward_more i c n a) ∙ ap (apply (onward (i + 1))) (sym e)

  pub onward_done : (i : ℕ) → count ≤ i → onward i ≡ []
  onward_done i h = let k : count - i ≡ 0 = omega arith in rw k

  pub onward_no_number : (i : ℕ) → length numbers ≤ i → onward i ≡ []
  onward_no_number i h = rw (drop_of_length-le numbers h, take-nil {A = ℕ} (count - i))

  pub onward_no_amount : (i : ℕ) → length amounts ≤ i → onward i ≡ []
  onward_no_amount i h = rw (drop_of_length-le amounts h, take-nil {A = ℤ} (count - i)) (no_amounts (take (count - i) (drop i numbers)))

-- a store past the end changes nothing
pub set_past : (l : List ℤ) (n : ℕ) (z : ℤ) → length l ≤ n → set l n z ≡ l
set_past [] n z h = refl
set_past (x ∷ l) zero z h = absurd (omega arith)
set_past (x ∷ l) (suc n) z h = ap (λ (k : List ℤ). x ∷ k) (set_past l n z (omega arith))
