-- Lines of wrong form with the place at which each breaks, by computation.
-- Assumes nothing.
use mathlib.Core.Path.{◌≡◌, refl, subst}
use mathlib.Core.List.{List, [], ◌∷◌}
use mathlib.Core.Option.{Option, none, some}
use Prim.Native.Nat.{ℕ}
use Prim.Native.String.{String}
use native.Mathlib.Omega.{arith}
use Rattle.grammar.specs.Bytes.{bytes}
use Rattle.grammar.specs.Grammar.{Line}
use Rattle.grammar.specs.Derivation.{strip, inside, Derives, Place, Form, derived, breaks_at}
use Rattle.grammar.proofs.Read.{parse, value_of, rest_of, expr_of, items_of}
use Rattle.grammar.proofs.Derivations.{found}
use Rattle.grammar.proofs.Stuck.{stuck, stuck_at, breaks}
use Rattle.grammar.proofs.ByForm.{form_of}

-- what the model reader finds to break at n has no derivation, and n is its place
pub breaks_at_holds : (s : List ℕ) (n : ℕ) → form_of s ≡ breaks_at n → ((t : Line) → ¬ Derives t s) × Place s n
breaks_at_holds s n e = go (parse (strip s)) refl
  where
    go : (o : Option Line) → parse (strip s) ≡ o → ((t : Line) → ¬ Derives t s) × Place s n
    go (some t) p = absurd (let k : form_of s ≡ derived t = rw p in let z : ◌≡◌ {A = ℕ} 0 1 = cc in omega arith)
    go none p =
        let no : (t : Line) → ¬ Derives t s = λ t d. let z : ◌≡◌ {A = ℕ} 0 1 = cc (found d) in omega arith in
        let k : form_of s ≡ breaks_at (stuck_at s) = rw p in
        let same : stuck_at s ≡ n = cc in
        (no, subst (Place s) same (breaks s no))

infix 25 ◌at◌
pub data Broken : Type 0 where
  ◌at◌ : String → ℕ → Broken

abbrev pub Breaks : List Broken → Type 0
Breaks [] = Unit {0}
Breaks ((s at n) ∷ ls) = (((t : Line) → ¬ Derives t (bytes s)) × Place (bytes s) n) × Breaks ls

abbrev forms : List Broken → List (Form Line)
forms [] = []
forms ((s at n) ∷ ls) = form_of (bytes s) ∷ forms ls

abbrev said : List Broken → List (Form Line)
said [] = []
said ((s at n) ∷ ls) = breaks_at n ∷ said ls

all_break : (ls : List Broken) → forms ls ≡ said ls → Breaks ls
all_break [] e = tt
all_break ((s at n) ∷ ls) e = (breaks_at_holds (bytes s) n (cc), all_break ls (let k : forms ls ≡ said ls = cc in k))

-- blanks and comments count; a line that only ends too early gives its whole length
abbrev pub broken_lines : List Broken
broken_lines =
    (")" at 0)
    ∷ ("X Y1" at 2)
    ∷ ("X 1 . 2 . 3" at 8)
    ∷ ("N123456" at 6)
    ∷ (" (a b) x [ 1 X Y " at 15)
    ∷ ("(a(" at 2)
    ∷ ("(never closed  " at 15)
    ∷ ("g1 (c) g(d)1" at 8)
    ∷ ("X" at 1)
    ∷ ("x  " at 3)
    ∷ ("#1 = " at 5)
    ∷ ("/\\" at 1)
    ∷ ("/ [ 1" at 5)
    ∷ ("/(c)[1]" at 4)
    ∷ ("\\ [1] [2]" at 6)
    ∷ ("X1 A" at 3)
    ∷ ("Xab+" at 3)
    ∷ []

pub places : Breaks broken_lines
unfolding strip inside value_of rest_of expr_of items_of stuck
places = all_break broken_lines refl
