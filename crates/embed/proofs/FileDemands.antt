-- What the promise of reading a parameter file comes to on plain numbers: a refused file leaves every number as it was, and two results that it allows are equal.
-- Assumes nothing.
use mathlib.Core.Path.{◌≡◌, refl, ap, sym, ◌∙◌}
use mathlib.Core.Bool.{Bool, true, false}
use mathlib.Core.List.{List}
use Prim.Native.Nat.{ℕ}
use lib.IntN.{ℤ}
use Rattle.parameters.proofs.Loading.{loads_one, read_refused}
use Rattle.embed.specs.Packing.{packed, unpacked, holdable}
use Rattle.embed.specs.Files.{Left, left, LoadedPlain}
use Rattle.embed.proofs.Repacked.{repacked}

module _ (text : List ℕ) (rec table : List ℤ) where
  -- "A refused file changes neither", and neither do numbers that no record holds
  pub file_untouched : {after : Left} → LoadedPlain text rec table after → (after.number ≡ 0 → ⊥) → (after.rec ≡ rec) × (after.table ≡ table)
  file_untouched {after} p h = go (holdable rec) refl
    where
      go : (b : Bool) → holdable rec ≡ b → (after.rec ≡ rec) × (after.table ≡ table)
      go false e = (ap (λ (l : Left). l.rec) (p.not_held e), ap (λ (l : Left). l.table) (p.not_held e))
      go true e =
          let w = p.held e in
          let same = read_refused text (unpacked rec) table w.0 w.1 (λ n. h (ap (λ (l : Left). l.number) w.2 ∙ n)) in
          (ap (λ (l : Left). l.rec) w.2 ∙ ap packed same.0 ∙ repacked rec e, ap (λ (l : Left). l.table) w.2 ∙ same.1)

  -- two results that the promise allows are equal
  pub one_reading : {after other : Left} → LoadedPlain text rec table after → LoadedPlain text rec table other → after ≡ other
  one_reading {after} {other} p q = go (holdable rec) refl
    where
      go : (b : Bool) → holdable rec ≡ b → after ≡ other
      go false e = p.not_held e ∙ sym (q.not_held e)
      go true e =
          let v = p.held e in
          let w = q.held e in
          v.2 ∙ ap left (loads_one text (unpacked rec) table v.0 w.0 v.1 w.1) ∙ sym w.2
