-- What the promise on plain numbers comes to: a line that is not accepted leaves every number as it was, and two results that it allows are equal.
-- Assumes nothing.
use mathlib.Core.Path.{◌≡◌, refl, ap, sym, subst, ◌∙◌}
use mathlib.Core.Bool.{Bool, true, false}
use mathlib.Core.List.{List}
use Prim.Native.Nat.{ℕ}
use lib.IntN.{ℤ}
use Rattle.rules.proofs.Demands.{unchanged, only}
use Rattle.embed.specs.Packing.{Plain, Embedded, packed, unpacked, holdable, plain}
use Rattle.embed.proofs.Repacked.{repacked}

-- nothing is changed: count 0, work 0, and record, table and output hold what they held
pub record Untouched (rec table out : List ℤ) (left : Plain) : Type 0 where
  pub no_command : left.answer.count ≡ 0
  pub no_work : left.answer.work ≡ 0
  pub same_record : left.rec ≡ rec
  pub same_table : left.table ≡ table
  pub same_out : left.out ≡ out

module _ (line : List ℕ) (switch : Bool) (rec table out : List ℤ) where
  -- a refused or skipped line changes nothing, and so do numbers that no record holds
  pub untouched : {left : Plain} → Embedded line switch rec table out left → (left.answer.number ≡ 0 → ⊥) → Untouched rec table out left
  untouched {left} p h = go (holdable rec) refl
    where
      go : (b : Bool) → holdable rec ≡ b → Untouched rec table out left
      go false e = subst (Untouched rec table out) (sym (p.not_held e)) (record { no_command = refl; no_work = refl; same_record = refl; same_table = refl; same_out = refl })
      go true e =
          let w = p.held e in
          let same = unchanged line switch (unpacked rec) table out w.1 (λ n. h (ap (λ (l : Plain). l.answer.number) w.2 ∙ n)) in
          subst (Untouched rec table out) (sym w.2) (record {
            no_command = same.no_command;
            no_work = same.no_work;
            same_record = ap packed same.same_record ∙ repacked rec e;
            same_table = same.same_table;
            same_out = same.same_out;
          })

  -- two results that the promise allows are equal
  pub one_result : {left other : Plain} → Embedded line switch rec table out left → Embedded line switch rec table out other → left ≡ other
  one_result {left} {other} p q = go (holdable rec) refl
    where
      go : (b : Bool) → holdable rec ≡ b → left ≡ other
      go false e = p.not_held e ∙ sym (q.not_held e)
      go true e =
          let v = p.held e in
          let w = q.held e in
          v.2 ∙ ap plain (only line switch (unpacked rec) table out v.1 w.1) ∙ sym w.2
