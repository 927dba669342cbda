-- Reading: what is left is told, and told once, for every text; a refused file changes neither record nor table.
-- Assumes nothing.
use mathlib.Core.Path.{◌≡◌, refl, sym, ap, ◌∙◌}
use mathlib.Core.List.{List, [], ◌∷◌, map}
use mathlib.Core.Option.{Option}
use Prim.Native.Nat.{ℕ, zero, suc}
use lib.IntN.{ℤ}
use Rattle.rules.specs.Frames.{lines}
use Rattle.rules.specs.declared.Record.{Record}
use Rattle.parameters.specs.File.{Entry, Tells}
use Rattle.parameters.specs.Reading.{Loaded, derived, load_refusal, by_number, loaded, Loads}
use Rattle.parameters.specs.Parse.{parse}
use Rattle.parameters.proofs.Model.{parse_tells, tells_one}

pub map_tells : (tree : List ℕ → Option Entry) → Tells tree → (ls : List (List ℕ)) → map tree ls ≡ map parse ls
map_tells tree t [] = refl
map_tells tree t (l ∷ ls) = rw (tells_one tree t l, map_tells tree t ls)

-- there is always something that the promise allows
pub loads_some : (text : List ℕ) (r : Record) (table : List ℤ) → Loads text r table (loaded parse text r table)
unfolding loaded
loads_some text r table tree t = rw (map_tells tree t (lines text))

-- and nothing else
module _ (text : List ℕ) (r : Record) (table : List ℤ) where
  pub loads_is : (after : Loaded) → Loads text r table after → after ≡ loaded parse text r table
  loads_is after l = l parse parse_tells

  pub loads_one : (after after' : Loaded) → Loads text r table after → Loads text r table after' → after ≡ after'
  loads_one after after' l l' = loads_is after l ∙ sym (loads_is after' l')

  -- "A refused file changes neither"
  pub read_refused : (after : Loaded) → Loads text r table after → ¬ (after.number ≡ 0) → (after.rec ≡ r) × (after.table ≡ table)
  unfolding loaded
  read_refused after l h = go (load_refusal (map parse (lines text)) r table) (loads_is after l)
    where
      go : (n : ℕ) → after ≡ by_number n (derived (map parse (lines text))) r table → (after.rec ≡ r) × (after.table ≡ table)
      go zero e = absurd (h (ap (λ (x : Loaded). x.number) e))
      go (suc n) e = (ap (λ (x : Loaded). x.rec) e, ap (λ (x : Loaded). x.table) e)
