-- Blanks are passed one by one, and what a line's first byte that is no blank decides is the same before and after them.
-- Assumes nothing.
use mathlib.Core.Path.{◌≡◌, refl, sym, ap, ◌∙◌}
use mathlib.Core.Bool.{Bool, true, false, cond, not, ◌&&◌}
use mathlib.Core.List.{List, [], ◌∷◌}
use Prim.Native.Nat.{ℕ, suc, ◌+◌, ◌≤◌, ◌<◌}
use native.Mathlib.Numerals.{add-one}
use native.Mathlib.Omega.{arith}
use lib.Dec.{eqb}
use lib.ListN.{length, drop, get_or, drop_of_length-le, length-drop}
use lib.Seq.{drop-cons, drop-drop, get_or-drop}
use Rattle.grammar.specs.Bytes.{byte}
use Rattle.grammar.specs.Derivation.{blank}
use Rattle.rules.specs.Promise.{opens, plain_mark}
use Rattle.marks.specs.Blanks.{blanks, past_blanks}

module _ (line : List ℕ) (i : ℕ) where
  -- a blank is passed
  pub one_more : i < length line → blank (get_or line i 0) ≡ true → past_blanks line i ≡ past_blanks line (i + 1)
  unfolding past_blanks
  one_more h e = rw (drop-cons line i 0 h, add-one i, e) (omega arith)

  -- any other byte is where they end
  pub no_blank : i < length line → blank (get_or line i 0) ≡ false → past_blanks line i ≡ i
  unfolding past_blanks
  no_blank h e = rw (drop-cons line i 0 h, e) (omega arith)

  pub no_more : length line ≤ i → past_blanks line i ≡ i
  unfolding past_blanks
  no_more h = rw (drop_of_length-le line h) (omega arith)

-- ---- what comes after them
passed : {A : Type 0} (f : List ℕ → A) → ((b : ℕ) (s : List ℕ) → blank b ≡ true → f (b ∷ s) ≡ f s) → (s : List ℕ) → f s ≡ f (drop (blanks s) s)
passed f h [] = refl
passed f h (b ∷ s) = go (blank b) refl (passed f h s)
  where
    go : (c : Bool) → blank b ≡ c → f s ≡ f (drop (blanks s) s) → f (b ∷ s) ≡ f (drop (cond c (suc (blanks s)) 0) (b ∷ s))
    go true e r = h b s e ∙ r
    go false e r = refl

stops : (s : List ℕ) → blanks s < length s → blank (get_or s (blanks s) 0) ≡ false
stops [] h = absurd (omega arith)
stops (b ∷ s) h = go (blank b) refl h (stops s)
  where
    go : (c : Bool) → blank b ≡ c → cond c (suc (blanks s)) 0 < suc (length s) → (blanks s < length s → blank (get_or s (blanks s) 0) ≡ false) → blank (get_or (b ∷ s) (cond c (suc (blanks s)) 0) 0) ≡ false
    go true e k r = r (omega arith)
    go false e k r = e

-- what the first byte from a place on that is no blank decides, where it stands at i
module _ (line : List ℕ) (at : ℕ) {i : ℕ} (past : i ≡ past_blanks line at) where
  over : {A : Type 0} (f : List ℕ → A) → ((b : ℕ) (s : List ℕ) → blank b ≡ true → f (b ∷ s) ≡ f s) → f (drop at line) ≡ f (drop i line)
  unfolding past_blanks
  over f h = passed f h (drop at line) ∙ ap f (drop-drop (blanks (drop at line)) at line) ∙ ap (λ (n : ℕ). f (drop n line)) (sym past)

  bare : i < length line → blank (get_or line i 0) ≡ false
  unfolding past_blanks
  bare h =
      ap (λ (n : ℕ). blank (get_or line n 0)) past ∙ sym (ap blank (get_or-drop at line (blanks (drop at line)) 0))
      ∙ stops (drop at line) (omega (arith, past, length-drop at line))

  pub opens_here : i < length line → opens (drop at line) ≡ eqb (get_or line i 0) (byte "[")
  unfolding opens
  opens_here h = over opens (λ b s e. rw e) ∙ rw (drop-cons line i 0 h, bare h)

  pub opens_nowhere : length line ≤ i → opens (drop at line) ≡ false
  unfolding opens
  opens_nowhere h = over opens (λ b s e. rw e) ∙ rw (drop_of_length-le line h)

  pub mark_here : (mark : ℕ) → i < length line → plain_mark mark (drop at line) ≡ (eqb (get_or line i 0) mark && not (opens (drop (i + 1) line)))
  unfolding plain_mark
  mark_here mark h = over (plain_mark mark) (λ b s e. rw e) ∙ rw (drop-cons line i 0 h, bare h, add-one i)

  pub mark_nowhere : (mark : ℕ) → length line ≤ i → plain_mark mark (drop at line) ≡ false
  unfolding plain_mark
  mark_nowhere mark h = over (plain_mark mark) (λ b s e. rw e) ∙ rw (drop_of_length-le line h)
