-- The index gathered line by line is the one that is built: a number is entered once, by its first line.
-- Assumes nothing.
use mathlib.Core.Path.{◌≡◌, refl, sym, ap, ap₂, ◌∙◌}
use mathlib.Core.Bool.{Bool, true, false, cond}
use mathlib.Core.List.{List, [], ◌∷◌}
use Rattle.std.specs.Prelude.{Option, None, Some}
use Rattle.std.specs.Option.{option_eq}
use Prim.Native.Nat.{ℕ, suc, ◌+◌, ◌≤◌}
use native.Mathlib.Omega.{arith}
use native.Mathlib.Numerals.{add-one}
use lib.Dec.{eqb}
use Rattle.std.proofs.lemmas.Bool.Decides.{nat_tests}
use lib.ListN.{length}
use Rattle.grammar.specs.Grammar.{Line}
use Rattle.grammar.specs.Derivation.{Form}
use Rattle.texts.specs.Ends.{Piece, pieces}
use Rattle.texts.proofs.Rightness.{model}
use Rattle.index.specs.Index.{borne, bears, Place, place, size, first_from, place_of, Entry, RisingFrom, find, put, built}
use Rattle.index.specs.Update.{added, gathered_from}
use Rattle.index.proofs.Walking.{Onward, onward_begun, onward_next}
use Rattle.index.proofs.Entries.{put_rises, put_same, put_other}
use Rattle.index.proofs.Built.{built_is, only_index}
use Rattle.index.proofs.Halving.{seek_find}

-- the first of two places that is there
abbrev or_else : Option Place → Option Place → Option Place
or_else None q = q
or_else (Some p) q = Some p

or_none : (o : Option Place) → or_else o None ≡ o
or_none None = refl
or_none (Some p) = refl

or_three : (o p q : Option Place) → or_else (or_else o p) q ≡ or_else o (or_else p q)
or_three None p q = refl
or_three (Some x) p q = refl

-- ---- one line more

pub added_rises : (o : Option ℕ) (k at : ℕ) (es : List Entry) → RisingFrom 0 es → RisingFrom 0 (added o k at es)
added_rises None k at es r = r
added_rises (Some n) k at es r = grind (arith, nat_tests, put_rises 0 n (Some (place k at)) es)

-- what the line adds
abbrev adds : Option ℕ → ℕ → ℕ → ℕ → Option Place
adds o n k at = cond (bears o n) (Some (place k at)) None

added_finds : (o : Option ℕ) (n k at : ℕ) (es : List Entry) → RisingFrom 0 es → find n (added o k at es) ≡ or_else (find n es) (adds o n k at)
added_finds None n k at es r = sym (or_none (find n es))
added_finds (Some m) n k at es r = grind (arith, nat_tests, seek_find 0 m es r, put_same 0 m (Some (place k at)) es r, put_other n m (Some (place k at)) es, or_none (find n es))

put_long : (n : ℕ) (p : Place) (es : List Entry) → length es ≤ length (put n (Some p) es)
put_long n p [] = omega arith
put_long n p (e ∷ es) = grind (arith, nat_tests, put_long n p es)

added_long : (o : Option ℕ) (k at : ℕ) (es : List Entry) → length es ≤ length (added o k at es)
added_long None k at es = omega arith
added_long (Some n) k at es = grind (arith, nat_tests, put_long n (place k at) es)

-- ---- all lines

module _ (tree : List ℕ → Form Line) where
  gather_rises : (es : List Entry) (k at : ℕ) (ps : List Piece) → RisingFrom 0 es → RisingFrom 0 (gathered_from tree es k at ps)
  gather_rises es k at [] r = r
  gather_rises es k at (p ∷ ps) r = gather_rises (added (borne tree p.line) k at es) (suc k) (at + size p) ps (added_rises (borne tree p.line) k at es r)

  gather_finds : (n : ℕ) (es : List Entry) (k at : ℕ) (ps : List Piece) → RisingFrom 0 es → find n (gathered_from tree es k at ps) ≡ or_else (find n es) (first_from tree n k at ps)
  gather_finds n es k at [] r = sym (or_none (find n es))
  gather_finds n es k at (p ∷ ps) r =
      gather_finds n (added (borne tree p.line) k at es) (suc k) (at + size p) ps (added_rises (borne tree p.line) k at es r)
      ∙ ap (λ (x : Option Place). or_else x (first_from tree n (suc k) (at + size p) ps)) (added_finds (borne tree p.line) n k at es r)
      ∙ or_three (find n es) (adds (borne tree p.line) n k at) (first_from tree n (suc k) (at + size p) ps)
      ∙ ap (or_else (find n es)) (go (bears (borne tree p.line) n))
    where
      go : (t : Bool) → or_else (cond t (Some (place k at)) None) (first_from tree n (suc k) (at + size p) ps) ≡ cond t (Some (place k at)) (first_from tree n (suc k) (at + size p) ps)
      go true = refl
      go false = refl

  -- no entry is lost
  pub gather_long : (es : List Entry) (k at : ℕ) (ps : List Piece) → length es ≤ length (gathered_from tree es k at ps)
  gather_long es k at [] = omega arith
  gather_long es k at (p ∷ ps) =
      omega (arith, added_long (borne tree p.line) k at es, gather_long (added (borne tree p.line) k at es) (suc k) (at + size p) ps)

  pub gathered_is : (text : List ℕ) → gathered_from tree [] 1 0 (pieces text) ≡ built tree text
  unfolding place_of
  gathered_is text =
      only_index tree (record { rising = gather_rises [] 1 0 (pieces text) tt; answers = λ n. gather_finds n [] 1 0 (pieces text) tt }) (built_is tree text)

-- ---- line by line

-- as the code tests it
pub bears_eq : (o : Option ℕ) (n : ℕ) → option_eq eqb o (Some n) ≡ bears o n
bears_eq None n = refl
bears_eq (Some m) n = refl

-- the line bears the number, or the search goes on
module _ (n k at : ℕ) (p : Piece) (rest : List Piece) {o : Option ℕ} (e : o ≡ borne model p.line) {t : Bool} (b : t ≡ bears o n) where
  one_on : first_from model n k at (p ∷ rest) ≡ cond t (Some (place k at)) (first_from model n (k + 1) (at + size p) rest)
  one_on =
      ap₂ (λ (x : Bool) (y : ℕ). cond x (Some (place k at)) (first_from model n y (at + size p) rest)) (sym (b ∙ ap (λ (x : Option ℕ). bears x n) e)) (sym (add-one k))

  pub first_here : t ≡ true → Some (place k at) ≡ first_from model n k at (p ∷ rest)
  first_here u = sym (one_on ∙ ap (λ (x : Bool). cond x (Some (place k at)) (first_from model n (k + 1) (at + size p) rest)) u)

  pub first_on : t ≡ false → first_from model n (k + 1) (at + size p) rest ≡ first_from model n k at (p ∷ rest)
  first_on u = sym (one_on ∙ ap (λ (x : Bool). cond x (Some (place k at)) (first_from model n (k + 1) (at + size p) rest)) u)

-- the lines from a place on, and the entries so far, make the index
pub record OnTo (text : List ℕ) (es : List Entry) (k at : ℕ) (rest : List Piece) : Type 0 where
  pub makes : gathered_from model es k at rest ≡ built model text
  pub rising : RisingFrom 0 es
  pub onward : Onward text k at rest

pub none_gathered : (text : List ℕ) → OnTo text [] 1 0 (pieces text)
none_gathered text = record { makes = gathered_is model text; rising = tt; onward = onward_begun text }

pub one_gathered : (text : List ℕ) {es : List Entry} {k at : ℕ} {p : Piece} {rest : List Piece} {o : Option ℕ} → o ≡ borne model p.line → OnTo text es k at (p ∷ rest) → OnTo text (added o k at es) (k + 1) (at + size p) rest
one_gathered text {es} {k} {at} {p} {rest} {o} e q = record {
  makes = ap₂ (λ (x : Option ℕ) (y : ℕ). gathered_from model (added x k at es) y (at + size p) rest) e (add-one k) ∙ q.makes;
  rising = added_rises o k at es q.rising;
  onward = onward_next q.onward;
}

pub few_gathered : (text : List ℕ) {es : List Entry} {k at : ℕ} {rest : List Piece} → OnTo text es k at rest → length es ≤ length (built model text)
few_gathered text {es} {k} {at} {rest} q = omega (arith, gather_long model es k at rest, ap length q.makes)
