-- Demand 3, said of the grammar alone: a derivation is unique, and whether there is one is decided.
use mathlib.Core.Path.{◌≡◌, refl, ap, ◌∙◌, sym}
use mathlib.Core.List.{List, [], ◌∷◌, append-nil}
use mathlib.Core.Option.{Option, none, some}
use mathlib.Core.Logic.{◌⊎◌, inl, inr}
use Prim.Native.Nat.{ℕ}
use native.Mathlib.Omega.{arith}
use Rattle.grammar.specs.Grammar.{Line, write, LineOk}
use Rattle.grammar.specs.Derivation.{strip, Derives}
use Rattle.grammar.proofs.Read.{Read, fail, got, read_line, answer, parse}
use Rattle.grammar.specs.Working.{Arithmetic, Took, line_entries}
use Rattle.grammar.proofs.Read.{map_r}
use Rattle.grammar.proofs.Terms.{Pass}
use Rattle.grammar.proofs.OnePass.{calc_line, line_same}
use Rattle.grammar.proofs.LineBack.{line_back}
use Rattle.grammar.proofs.Sound.{Good, line_good, front_of}

-- the model reader finds the derivation
pub found : {t : Line} {s : List ℕ} → Derives t s → parse (strip s) ≡ some t
found {t} d = rw (d.writes, line_back t d.ok)

-- no line has two derivations
pub unique : {t t' : Line} {s : List ℕ} → Derives t s → Derives t' s → t ≡ t'
unique d d' = cc (found d, found d')

-- what the model reader finds is one
pub sound : {t : Line} {s : List ℕ} → parse (strip s) ≡ some t → Derives t s
sound {t} {s} e = go (read_line (strip s)) refl e
  where
    go : (m : Read Line) → read_line (strip s) ≡ m → answer m ≡ some t → Derives t s
    go (fail z) p q = absurd (let z : ◌≡◌ {A = ℕ} 0 1 = cc in omega arith)
    go (got u (b ∷ r)) p q = absurd (let z : ◌≡◌ {A = ℕ} 0 1 = cc in omega arith)
    go (got u []) p q =
        let g : Good write LineOk (strip s) (got u []) = rw p at (line_good (strip s)) in
        let f = front_of g in
        let same : u ≡ t = cc in
        record { ok = rw same at f.1; writes = f.0 ∙ append-nil (write u) ∙ ap write same }

-- for every line a derivation exists, and is found, or none does
pub decided : (s : List ℕ) → ((t : Line) × Derives t s) ⊎ ((t : Line) → ¬ Derives t s)
decided s = go (parse (strip s)) refl
  where
    go : (o : Option Line) → parse (strip s) ≡ o → ((t : Line) × Derives t s) ⊎ ((t : Line) → ¬ Derives t s)
    go none e = inr (λ t d. let z : ◌≡◌ {A = ℕ} 0 1 = cc (found d) in omega arith)
    go (some t) e = inl (t, sound e)

-- and finds nothing where there is none
pub missed : {s : List ℕ} → ((t : Line) → ¬ Derives t s) → parse (strip s) ≡ none
missed {s} h = go (parse (strip s)) refl
  where
    go : (o : Option Line) → parse (strip s) ≡ o → o ≡ none
    go none e = refl
    go (some t) e = absurd (h t (sound e))

-- the one pass returns the entries of the derivation, and where there is none it does not come to the end
pub reads : {W E S : Type 0} {A : Arithmetic W E} (P : Pass A S) {t : Line} {s : List ℕ} → Derives t s → calc_line P (strip s) ≡ got (line_entries A t) []
reads P {t} {s} d = line_same P (strip s) ∙ rw (d.writes, line_back t d.ok)

pub reads_only : {W E S : Type 0} {A : Arithmetic W E} (P : Pass A S) {s : List ℕ} {x : (Took E)} → calc_line P (strip s) ≡ got x [] → (t : Line) × Derives t s × (x ≡ line_entries A t)
reads_only {W} {E} {S} {A} P {s} {x} e = go (read_line (strip s)) refl (sym (line_same P (strip s)) ∙ e)
  where
    go : (m : Read Line) → read_line (strip s) ≡ m → map_r (line_entries A) m ≡ got x [] → (t : Line) × Derives t s × (x ≡ line_entries A t)
    go (fail z) p q = absurd (let z : ◌≡◌ {A = ℕ} 0 1 = cc in omega arith)
    go (got u (b ∷ r)) p q = absurd (let z : ◌≡◌ {A = ℕ} 0 1 = cc in omega arith)
    go (got u []) p q = (u, sound (ap answer p), cc)
