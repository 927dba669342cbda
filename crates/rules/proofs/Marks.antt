-- The unread skip and the derivation agree: a derived line is skipped unread exactly where its mark is a plain one and the switch says so; a line with a
-- condition never is.
-- Assumes nothing.
use mathlib.Core.Path.{◌≡◌, refl, ap, ◌∙◌, sym}
use mathlib.Core.Bool.{Bool, true, false, cond, not, ◌&&◌, ◌||◌}
use mathlib.Core.List.{List, [], ◌∷◌, ◌++◌}
use Prim.Native.Nat.{ℕ, ◌-◌}
use native.Mathlib.Omega.{arith}
use lib.Dec.{T, leb, eqb, eqb→eq, eqb_refl, leb→le}
use Rattle.laws.proofs.Bools.{and_left, and_right, or_cases, T-eq, not_eq, all_below, below}
use Rattle.grammar.specs.Bytes.{byte}
use Rattle.grammar.specs.Grammar.{expr, slash, backslash, Mark, unmarked, plain, conditional, Label, Line, line, Item, write_items, write_label, write, ItemsOk, LineOk}
use Rattle.grammar.specs.Derivation.{blank, raise, strip, inside, Derives}
use Rattle.grammar.proofs.LineBack.{after_mark}
use Rattle.rules.specs.Promise.{opens, plain_mark, unread}

-- a byte that is no letter is neither raised nor reached by raising
abbrev unraised : ℕ → ℕ → Bool
unraised k j = not (leb 97 j) || not (eqb j k) && not (eqb (j - 32) k)

raise_keeps : (k : ℕ) → T (all_below (unraised k) 123) → (b : ℕ) → eqb (raise b) k ≡ eqb b k
raise_keeps k t b = go (leb 97 b && leb b 122) refl
  where
    go : (c : Bool) → (leb 97 b && leb b 122) ≡ c → eqb (cond c (b - 32) b) k ≡ eqb b k
    go false e = refl
    go true e =
        let h : T (leb 97 b && leb b 122) = rw e tt in
        let u : T (not (eqb b k) && not (eqb (b - 32) k)) =
        or_cases (not (leb 97 b)) (not (eqb b k) && not (eqb (b - 32) k)) (λ f. absurd (rw (T-eq (leb 97 b) (and_left (leb 97 b) (leb b 122) h)) at f)) (λ f. f)
        (below (unraised k) 123 t b (omega (arith, leb→le b 122 (and_right (leb 97 b) (leb b 122) h)))) in
        not_eq (eqb (b - 32) k) (and_right (not (eqb b k)) (not (eqb (b - 32) k)) u) ∙ sym (not_eq (eqb b k) (and_left (not (eqb b k)) (not (eqb (b - 32) k)) u))

-- ---- of the prepared bytes

abbrev opens_by : List ℕ → Bool
opens_by [] = false
opens_by (b ∷ q) = eqb b (byte "[")

abbrev plain_by : ℕ → List ℕ → Bool
plain_by k [] = false
plain_by k (b ∷ q) = eqb b k && not (opens_by q)

opens_strip : (s : List ℕ) → opens s ≡ opens_by (strip s)
unfolding opens strip
opens_strip [] = refl
opens_strip (b ∷ s) = go (blank b) (opens_strip s)
  where
    go : (c : Bool) → opens s ≡ opens_by (strip s) → cond c (opens s) (eqb b 91) ≡ opens_by (cond c (strip s) (raise b ∷ cond (eqb b 40) (inside s) (strip s)))
    go true h = h
    go false h = sym (raise_keeps 91 tt b)

plain_strip : (k : ℕ) → T (all_below (unraised k) 123) → eqb k 40 ≡ false → (s : List ℕ) → plain_mark k s ≡ plain_by k (strip s)
unfolding plain_mark strip
plain_strip k t o [] = refl
plain_strip k t o (b ∷ s) = go (blank b) (plain_strip k t o s)
  where
    here : (c : Bool) → eqb b k ≡ c → (c && not (opens s)) ≡ (c && not (opens_by (cond (eqb b 40) (inside s) (strip s))))
    here false e = refl
    here true e = let same : b ≡ k = eqb→eq b k (rw e tt) in rw (same, o) (ap not (opens_strip s))

    go : (c : Bool) → plain_mark k s ≡ plain_by k (strip s) → cond c (plain_mark k s) (eqb b k && not (opens s)) ≡ plain_by k (cond c (strip s) (raise b ∷ cond (eqb b 40) (inside s) (strip s)))
    go true h = h
    go false h = rw (raise_keeps k t b) (here (eqb b k) refl)

-- ---- of a tree

-- whether the line is skipped unread, by its mark
abbrev pub skipped_by : Bool → Mark → Bool
skipped_by switch unmarked = false
skipped_by switch (plain slash) = switch
skipped_by switch (plain backslash) = not switch
skipped_by switch (conditional k e) = false

abbrev pub mark_of : Line → Mark
mark_of (line m n is) = m

by_switch : Bool → List ℕ → Bool
by_switch switch s = cond switch (plain_by (byte "/") s) (plain_by (byte "\\") s)

other : (k b : ℕ) → eqb k b ≡ false → eqb b k ≡ false
other k b e = go (eqb b k) refl
  where
    go : (c : Bool) → eqb b k ≡ c → c ≡ false
    go false p = refl
    go true p = absurd (let same : b ≡ k = eqb→eq b k (rw p tt) in let z : T (eqb k b) = rw same (eqb_refl k) in rw e at z)

-- what follows a mark does not open a bracket
no_bracket : (n : Label) (is : List Item) → ItemsOk is → opens_by (write_label n ++ write_items is) ≡ false
no_bracket n is o = go (write_label n ++ write_items is) refl
  where
    go : (s : List ℕ) → write_label n ++ write_items is ≡ s → opens_by s ≡ false
    go [] e = refl
    go (b ∷ s) e = other 91 b (after_mark 91 n is o tt refl refl refl b s e)

tree_mark : (switch : Bool) (t : Line) → LineOk t → by_switch switch (write t) ≡ skipped_by switch (mark_of t)
unfolding by_switch
tree_mark true (line (plain slash) n is) o = rw (no_bracket n is o.2)
tree_mark false (line (plain slash) n is) o = refl
tree_mark true (line (plain backslash) n is) o = refl
tree_mark false (line (plain backslash) n is) o = rw (no_bracket n is o.2)
tree_mark true (line (conditional slash (expr v q)) n is) o = refl
tree_mark false (line (conditional slash (expr v q)) n is) o = refl
tree_mark true (line (conditional backslash (expr v q)) n is) o = refl
tree_mark false (line (conditional backslash (expr v q)) n is) o = refl
tree_mark switch (line unmarked n is) o = go switch (write_label n ++ write_items is) refl
  where
    go : (c : Bool) (s : List ℕ) → write_label n ++ write_items is ≡ s → cond c (plain_by 47 s) (plain_by 92 s) ≡ false
    go true [] e = refl
    go false [] e = refl
    go true (b ∷ s) e = rw (other 47 b (after_mark 47 n is o.2 tt refl refl refl b s e))
    go false (b ∷ s) e = rw (other 92 b (after_mark 92 n is o.2 tt refl refl refl b s e))

-- a derived line is skipped unread exactly as its mark and the switch say
pub unread_is : (switch : Bool) {t : Line} {s : List ℕ} → Derives t s → unread switch s ≡ skipped_by switch (mark_of t)
unfolding by_switch
unread_is switch {t} {s} d = by switch ∙ ap (by_switch switch) d.writes ∙ tree_mark switch t d.ok
  where
    by : (c : Bool) → unread c s ≡ by_switch c (strip s)
    by true = plain_strip 47 tt refl s
    by false = plain_strip 92 tt refl s
