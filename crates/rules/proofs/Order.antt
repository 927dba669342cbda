-- A letter is given twice exactly when there are fewer different letters than words (`twice_is`); and the summary of a line does not depend on the order of its
-- words (`block_swap`: two neighbours change places).
-- Assumes nothing.
use mathlib.Core.Path.{◌≡◌, refl, ap, ◌∙◌, sym, subst}
use mathlib.Core.Bool.{Bool, true, false, cond, not, ◌||◌}
use mathlib.Core.List.{List, [], ◌∷◌, ◌++◌}
use mathlib.Core.Logic.{◌⊎◌, inl, inr, ⊎_elim}
use Prim.Native.Nat.{ℕ, suc, ◌≤◌}
use lib.Dec.{T, eqb, ltb, eqb→eq, leb-suc-suc}
use lib.ListN.{length}
use lib.IntN.{ℤ}
use native.Mathlib.Omega.{arith}
use borrow.Author.Tests.{lt-ltb}
use Rattle.std.specs.Prelude.{Option, Some}
use Rattle.grammar.specs.Bytes.{byte, bytes, among}
use Rattle.rules.specs.Meaning.{Said}
use Rattle.rules.specs.Codes.{group_of, g_group, m_group, g_code, m_code}
use Rattle.rules.specs.Block.{twice, word, codes, of_group, block_of, g_codes, m_codes}
use Rattle.rules.specs.declared.Value.{Value}

-- the different ones of a list
abbrev pub different : List ℕ → List ℕ
different [] = []
different (x ∷ xs) = cond (among x xs) (different xs) (x ∷ different xs)

no_more : (xs : List ℕ) → length (different xs) ≤ length xs
no_more [] = omega arith
no_more (x ∷ xs) = go (among x xs) (no_more xs)
  where
    go : (b : Bool) → length (different xs) ≤ length xs → length (cond b (different xs) (x ∷ different xs)) ≤ suc (length xs)
    go true h = omega (arith, h)
    go false h = omega (arith, h)

-- "given twice exactly when there are fewer different letters than words"
pub twice_is : (xs : List ℕ) → twice xs ≡ ltb (length (different xs)) (length xs)
twice_is [] = refl
twice_is (x ∷ xs) = go (among x xs) (no_more xs) (twice_is xs)
  where
    go : (b : Bool) → length (different xs) ≤ length xs → twice xs ≡ ltb (length (different xs)) (length xs) → (b || twice xs) ≡ ltb (length (cond b (different xs) (x ∷ different xs))) (suc (length xs))
    go true h e = sym (lt-ltb (length (different xs)) (suc (length xs)) (omega (arith, h)))
    go false h e = e ∙ sym (leb-suc-suc (suc (length (different xs))) (length xs))

-- two words that change places: only G and M may have the same letter, and then their codes are of different groups
pub record Apart (v w : Said) : Type 0 where
  pub letters : v.letter ≡ w.letter → (v.letter ≡ byte "G") ⊎ (v.letter ≡ byte "M")
  pub g : v.letter ≡ byte "G" → w.letter ≡ byte "G" → group_of g_group (g_code v.value) ≡ group_of g_group (g_code w.value) → ⊥
  pub m : v.letter ≡ byte "M" → w.letter ≡ byte "M" → group_of m_group (m_code v.value) ≡ group_of m_group (m_code w.value) → ⊥

true_eq : {n k : ℕ} → eqb n k ≡ true → n ≡ k
true_eq {n} {k} e = eqb→eq n k (subst T (sym e) tt)

module _ (v w : Said) (ws : List Said) where
  word_swap : (b : ℕ) → (v.letter ≡ b → w.letter ≡ b → ⊥) → word b (v ∷ w ∷ ws) ≡ word b (w ∷ v ∷ ws)
  word_swap b d = go (eqb v.letter b) (eqb w.letter b) refl refl
    where
      of : Said → Option Value
      of u = Some (record { 0 = u.value })

      go : (x y : Bool) → eqb v.letter b ≡ x → eqb w.letter b ≡ y → cond x (of v) (cond y (of w) (word b ws)) ≡ cond y (of w) (cond x (of v) (word b ws))
      go true true p q = absurd (d (true_eq p) (true_eq q))
      go true false p q = refl
      go false true p q = refl
      go false false p q = refl

  pub word_deep : (b : ℕ) → (v.letter ≡ b → w.letter ≡ b → ⊥) → (xs : List Said) → word b (xs ++ v ∷ w ∷ ws) ≡ word b (xs ++ w ∷ v ∷ ws)
  word_deep b d [] = word_swap b d
  word_deep b d (x ∷ xs) = ap (cond (eqb x.letter b) (Some (record { 0 = x.value }))) (word_deep b d xs)

  module _ (b n : ℕ) (group : ℕ → ℕ) (code : ℤ → Option ℕ) where
    abbrev the : List Said → Option ℕ
    the l = of_group group n (codes b code l)

    first_of_holds : Bool → Option ℕ → List (Option ℕ) → Option ℕ
    first_of_holds y c l = of_group group n (cond y (c ∷ l) l)

    code_swap : (v.letter ≡ b → w.letter ≡ b → group_of group (code v.value) ≡ group_of group (code w.value) → ⊥) → the (v ∷ w ∷ ws) ≡ the (w ∷ v ∷ ws)
    code_swap d = go (eqb v.letter b) (eqb w.letter b) refl refl
      where
        l : List (Option ℕ)
        l = codes b code ws

        cv : Option ℕ
        cv = code v.value

        cw : Option ℕ
        cw = code w.value

        pick : (x y : Bool) → eqb (group_of group cv) n ≡ x → eqb (group_of group cw) n ≡ y → (group_of group cv ≡ group_of group cw → ⊥) → cond x cv (cond y cw (of_group group n l)) ≡ cond y cw (cond x cv (of_group group n l))
        pick true true p q e = absurd (e (true_eq p ∙ sym (true_eq q)))
        pick true false p q e = refl
        pick false true p q e = refl
        pick false false p q e = refl

        go : (x y : Bool) → eqb v.letter b ≡ x → eqb w.letter b ≡ y → of_group group n (cond x (cv ∷ cond y (cw ∷ l) l) (cond y (cw ∷ l) l)) ≡ of_group group n (cond y (cw ∷ cond x (cv ∷ l) l) (cond x (cv ∷ l) l))
        go true true p q = pick _ _ refl refl (d (true_eq p) (true_eq q))
        go true false p q = refl
        go false true p q = refl
        go false false p q = refl

    pub code_deep : (v.letter ≡ b → w.letter ≡ b → group_of group (code v.value) ≡ group_of group (code w.value) → ⊥) → (xs : List Said) → the (xs ++ v ∷ w ∷ ws) ≡ the (xs ++ w ∷ v ∷ ws)
    code_deep d [] = code_swap d
    code_deep d (x ∷ xs) = go (eqb x.letter b) (code_deep d xs)
      where
        go : (y : Bool) → the (xs ++ v ∷ w ∷ ws) ≡ the (xs ++ w ∷ v ∷ ws) →
            of_group group n (cond y (code x.value ∷ codes b code (xs ++ v ∷ w ∷ ws)) (codes b code (xs ++ v ∷ w ∷ ws))) ≡ of_group group n (cond y (code x.value ∷ codes b code (xs ++ w ∷ v ∷ ws)) (codes b code (xs ++ w ∷ v ∷ ws)))
        go true e = ap (cond (eqb (group_of group (code x.value)) n) (code x.value)) e
        go false e = e

-- the summary does not depend on the order of the words
pub block_swap : (xs : List Said) (v w : Said) (ws : List Said) → Apart v w → block_of (xs ++ v ∷ w ∷ ws) ≡ block_of (xs ++ w ∷ v ∷ ws)
unfolding block_of g_codes m_codes
block_swap xs v w ws a = λ i. record {
  axes = at (byte "X") tt i ∷ at (byte "Y") tt i ∷ at (byte "Z") tt i ∷ [];
  offsets = at (byte "I") tt i ∷ at (byte "J") tt i ∷ at (byte "K") tt i ∷ [];
  f = at (byte "F") tt i;
  s = at (byte "S") tt i;
  t = at (byte "T") tt i;
  l = at (byte "L") tt i;
  p = at (byte "P") tt i;
  once = gs 0 i;
  motion = gs 1 i;
  plane = gs 2 i;
  distance = gs 3 i;
  units = gs 6 i;
  system = gs 12 i;
  stop = ms 4 i;
  change = ms 6 i;
  spindle = ms 7 i;
  coolant = ms 8 i;
}
  where
    other : (b : ℕ) → T (not (among b (bytes "GM"))) → (b ≡ byte "G") ⊎ (b ≡ byte "M") → ⊥
    other b t (inl e) = subst (λ (x : ℕ). T (not (among x (bytes "GM")))) e t
    other b t (inr e) = subst (λ (x : ℕ). T (not (among x (bytes "GM")))) e t

    at : (b : ℕ) → T (not (among b (bytes "GM"))) → word b (xs ++ v ∷ w ∷ ws) ≡ word b (xs ++ w ∷ v ∷ ws)
    at b t = word_deep v w ws b (λ p q. other b t (⊎_elim (λ e. inl (sym p ∙ e)) (λ e. inr (sym p ∙ e)) (a.letters (p ∙ sym q)))) xs

    gs : (n : ℕ) → of_group g_group n (codes (byte "G") g_code (xs ++ v ∷ w ∷ ws)) ≡ of_group g_group n (codes (byte "G") g_code (xs ++ w ∷ v ∷ ws))
    gs n = code_deep v w ws (byte "G") n g_group g_code a.g xs

    ms : (n : ℕ) → of_group m_group n (codes (byte "M") m_code (xs ++ v ∷ w ∷ ws)) ≡ of_group m_group n (codes (byte "M") m_code (xs ++ w ∷ v ∷ ws))
    ms n = code_deep v w ws (byte "M") n m_group m_code a.m xs
