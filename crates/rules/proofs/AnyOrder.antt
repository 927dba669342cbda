-- "Words in any order" (request 14 of document 02): where a line is accepted, every line of at most 256 bytes that a rearrangement of its derivation derives
-- leaves the same: answer with count and work, record, table and output (`any_order`).
-- Assumes nothing.
use mathlib.Core.Path.{◌≡◌, refl, ap, ◌∙◌, sym, subst}
use mathlib.Core.Bool.{Bool, true, false, cond, not, ◌&&◌, ◌||◌}
use mathlib.Core.List.{List, [], ◌∷◌, ◌++◌, map, map-append}
use mathlib.Core.Logic.{◌⊎◌, inl, inr, ⊎_elim}
use Prim.Native.Nat.{ℕ, ◌+◌, max, ◌≤◌}
use native.Mathlib.Omega.{arith}
use lib.Dec.{T, eqb, ltb, eqb→eq, eqb_refl, T_not}
use lib.ListN.{length}
use lib.IntN.{ℤ, pos}
use borrow.Author.Tests.{le-ltb, eqb-false}
use Rattle.laws.proofs.Bools.{and_left, and_right, T-eq}
use Rattle.std.specs.Prelude.{Option, Some, None, Ok, Err}
use Rattle.grammar.specs.Bytes.{byte, bytes, among}
use Rattle.grammar.specs.Grammar.{Value, Item, word, setting, comment, Mark, unmarked, plain, conditional, Label, Line, line}
use Rattle.grammar.specs.Derivation.{Derives, derived}
use Rattle.grammar.specs.Rearranged.{words_of, settings_of, Shuffled, none, place, Rearranged, Reordered, rearranged}
use Rattle.grammar.specs.Work.{item_work, items_work, mark_work, item_depth, items_depth, mark_depth}
use Rattle.grammar.specs.Working.{Step, skip, give, stop, Took, end, stopped, took, after, value, expression, step_of, entries, mark_step, line_entries, Contents, contents}
use Rattle.rules.specs.Meaning.{Worked, Entry, word_is, setting_is, arithmetic, word_of, setting_at, setting_of, runs, condition_of, parameter_of, stopped_by, meets, Said, words, settings}
use Rattle.rules.specs.Codes.{g_group, m_group, g_code, m_code, group_of}
use Rattle.rules.specs.Block.{block_of, codes, g_codes, m_codes, other_letters, twice, sets_origin, sets_offset}
use Rattle.rules.specs.Refusals.{Case, ◌when◌, first, g_groups_of, m_groups_of, unserved, doubled, moving_code}
use Rattle.rules.specs.Promise.{After, Right, answer_to, numbers, number_of, unread}
use Rattle.rules.specs.declared.Block.{Block}
use Rattle.rules.specs.declared.Record.{Record}
use Rattle.rules.proofs.Answers.{first_carriable}
use Rattle.rules.proofs.Demands.{number_is}
use Rattle.rules.proofs.Marks.{unread_is}
use Rattle.rules.proofs.Order.{Apart, block_swap}
use Rattle.rules.proofs.Sound.{SoundTook, line_sound}

-- ---- any order is reached by neighbours that change places
data Swaps {A : Type 0} : List A → List A → Type 0 where
  as_is : {xs : List A} → Swaps xs xs
  change : (xs : List A) (v w : A) (ws : List A) {ys : List A} → Swaps (xs ++ w ∷ v ∷ ws) ys → Swaps (xs ++ v ∷ w ∷ ws) ys

module _ {A : Type 0} where
  under : (x : A) {xs ys : List A} → Swaps xs ys → Swaps (x ∷ xs) (x ∷ ys)
  under x as_is = as_is
  under x (change xs v w ws s) = change (x ∷ xs) v w ws (under x s)

  follow : {xs ys zs : List A} → Swaps xs ys → Swaps ys zs → Swaps xs zs
  follow as_is t = t
  follow (change xs v w ws s) t = change xs v w ws (follow s t)

  carry : (x : A) (left right : List A) → Swaps (x ∷ (left ++ right)) (left ++ x ∷ right)
  carry x [] right = as_is
  carry x (y ∷ left) right = change [] x y (left ++ right) (under y (carry x left right))

  by_swaps : {xs ys : List A} → Shuffled xs ys → Swaps xs ys
  by_swaps none = as_is
  by_swaps (place x left right s) = follow (under x (by_swaps s)) (carry x left right)

mapped : {A B : Type 0} (f : A → B) {xs ys : List A} → Swaps xs ys → Swaps (map f xs) (map f ys)
mapped f as_is = as_is
mapped f {ys = ys} (change xs v w ws s) =
    subst (λ l. Swaps l (map f ys)) (sym (map-append f xs (v ∷ w ∷ ws))) (change (map f xs) (f v) (f w) (map f ws) (subst (λ l. Swaps l (map f ys)) (map-append f xs (w ∷ v ∷ ws)) (mapped f s)))

-- what is joined from the parts of a list, in any order of joining, is the same
module _ {X A : Type 0} (join : A → A → A) (f : X → A) (h : List X → A) (step : (x : X) (xs : List X) → h (x ∷ xs) ≡ join (f x) (h xs)) (turn : (a b c : A) → join a (join b c) ≡ join b (join a c)) where
  joined_swap : (xs : List X) (v w : X) (ws : List X) → h (xs ++ v ∷ w ∷ ws) ≡ h (xs ++ w ∷ v ∷ ws)
  joined_swap [] v w ws = step v (w ∷ ws) ∙ ap (join (f v)) (step w ws) ∙ turn (f v) (f w) (h ws) ∙ sym (step w (v ∷ ws) ∙ ap (join (f w)) (step v ws))
  joined_swap (x ∷ xs) v w ws = step x (xs ++ v ∷ w ∷ ws) ∙ ap (join (f x)) (joined_swap xs v w ws) ∙ sym (step x (xs ++ w ∷ v ∷ ws))

  joined : {xs ys : List X} → Swaps xs ys → h xs ≡ h ys
  joined as_is = refl
  joined (change xs v w ws s) = joined_swap xs v w ws ∙ joined s

and_turn : (a b c : Bool) → (a && (b && c)) ≡ (b && (a && c))
and_turn true b c = refl
and_turn false true c = refl
and_turn false false c = refl

or_turn : (a b c : Bool) → (a || (b || c)) ≡ (b || (a || c))
or_turn true true c = refl
or_turn true false c = refl
or_turn false b c = refl

-- ---- the summary of words in any order
eqb_sym : (a b : ℕ) → eqb a b ≡ eqb b a
eqb_sym a b = go (eqb a b) (eqb b a) refl refl
  where
    go : (x y : Bool) → eqb a b ≡ x → eqb b a ≡ y → x ≡ y
    go true true p q = refl
    go false false p q = refl
    go true false p q = absurd (eqb-false b a q (sym (eqb→eq a b (subst T (sym p) tt))))
    go false true p q = absurd (eqb-false a b p (sym (eqb→eq b a (subst T (sym q) tt))))

or_right : (a b : Bool) → T b → T (a || b)
or_right true b t = tt
or_right false b t = t

-- the list that h picks: not one twice, or one twice, in any order
module _ (pick : Said → Bool) (pick_of : Said → ℕ) (h : List Said → List ℕ) (step : (w : Said) (ws : List Said) → h (w ∷ ws) ≡ cond (pick w) (pick_of w ∷ h ws) (h ws)) where
  among_step : (k : ℕ) (w : Said) (ws : List Said) → among k (h (w ∷ ws)) ≡ (pick w && eqb k (pick_of w) || among k (h ws))
  among_step k w ws = rw (step w ws) (go (pick w))
    where
      go : (c : Bool) → among k (cond c (pick_of w ∷ h ws) (h ws)) ≡ (c && eqb k (pick_of w) || among k (h ws))
      go true = refl
      go false = refl

  among_swap : (k : ℕ) (xs : List Said) (v w : Said) (ws : List Said) → among k (h (xs ++ v ∷ w ∷ ws)) ≡ among k (h (xs ++ w ∷ v ∷ ws))
  among_swap k = joined_swap ◌||◌ (λ w. pick w && eqb k (pick_of w)) (λ ws. among k (h ws)) (among_step k) or_turn

  twice_swap : (xs : List Said) (v w : Said) (ws : List Said) → twice (h (xs ++ v ∷ w ∷ ws)) ≡ twice (h (xs ++ w ∷ v ∷ ws))
  twice_swap [] v w ws = rw (step v (w ∷ ws), step w (v ∷ ws), step w ws, step v ws) (go (pick v) (pick w))
    where
      l : List ℕ
      l = h ws

      two : (a b : ℕ) → twice (a ∷ b ∷ l) ≡ twice (b ∷ a ∷ l)
      two a b = rw (eqb_sym a b) (shift (eqb b a) (among a l) (among b l) (twice l))
        where
          shift : (e x y z : Bool) → ((e || x) || (y || z)) ≡ ((e || y) || (x || z))
          shift true x y z = refl
          shift false x y z = or_turn x y z

      go : (x y : Bool) → twice (cond x (pick_of v ∷ cond y (pick_of w ∷ l) l) (cond y (pick_of w ∷ l) l)) ≡ twice (cond y (pick_of w ∷ cond x (pick_of v ∷ l) l) (cond x (pick_of v ∷ l) l))
      go true true = two (pick_of v) (pick_of w)
      go true false = refl
      go false true = refl
      go false false = refl
  twice_swap (x ∷ xs) v w ws = rw (step x (xs ++ v ∷ w ∷ ws), step x (xs ++ w ∷ v ∷ ws)) (go (pick x) (among_swap (pick_of x) xs v w ws) (twice_swap xs v w ws))
    where
      go : (c : Bool) → among (pick_of x) (h (xs ++ v ∷ w ∷ ws)) ≡ among (pick_of x) (h (xs ++ w ∷ v ∷ ws)) → twice (h (xs ++ v ∷ w ∷ ws)) ≡ twice (h (xs ++ w ∷ v ∷ ws)) →
          twice (cond c (pick_of x ∷ h (xs ++ v ∷ w ∷ ws)) (h (xs ++ v ∷ w ∷ ws))) ≡ twice (cond c (pick_of x ∷ h (xs ++ w ∷ v ∷ ws)) (h (xs ++ w ∷ v ∷ ws)))
      go true p q = rw (p, q)
      go false p q = q

  -- two that are picked and alike are one twice
  alike_twice : (xs : List Said) (v w : Said) (ws : List Said) → pick v ≡ true → pick w ≡ true → pick_of v ≡ pick_of w → T (twice (h (xs ++ v ∷ w ∷ ws)))
  alike_twice [] v w ws p q e = rw (step v (w ∷ ws), p, step w ws, q, e, T-eq (eqb (pick_of w) (pick_of w)) (eqb_refl (pick_of w))) tt
  alike_twice (x ∷ xs) v w ws p q e = rw (step x (xs ++ v ∷ w ∷ ws)) (go (pick x) (alike_twice xs v w ws p q e))
    where
      go : (c : Bool) → T (twice (h (xs ++ v ∷ w ∷ ws))) → T (twice (cond c (pick_of x ∷ h (xs ++ v ∷ w ∷ ws)) (h (xs ++ v ∷ w ∷ ws))))
      go true t = or_right (among (pick_of x) (h (xs ++ v ∷ w ∷ ws))) (twice (h (xs ++ v ∷ w ∷ ws))) t
      go false t = t

-- what is picked: the letters other than G and M, the groups of the codes after G, and of those after M
abbrev other : Said → Bool
other w = not (among w.letter (bytes "GM"))

letters_step : (w : Said) (ws : List Said) → other_letters (w ∷ ws) ≡ cond (other w) (w.letter ∷ other_letters ws) (other_letters ws)
letters_step w ws = go (among w.letter (bytes "GM"))
  where
    go : (c : Bool) → cond c (other_letters ws) (w.letter ∷ other_letters ws) ≡ cond (not c) (w.letter ∷ other_letters ws) (other_letters ws)
    go true = refl
    go false = refl

groups_step : (b : ℕ) (group : ℕ → ℕ) (code : ℤ → Option ℕ) (w : Said) (ws : List Said) →
    map (group_of group) (codes b code (w ∷ ws)) ≡ cond (eqb w.letter b) (group_of group (code w.value) ∷ map (group_of group) (codes b code ws)) (map (group_of group) (codes b code ws))
groups_step b group code w ws = go (eqb w.letter b)
  where
    go : (c : Bool) → map (group_of group) (cond c (code w.value ∷ codes b code ws) (codes b code ws)) ≡ cond c (group_of group (code w.value) ∷ map (group_of group) (codes b code ws)) (map (group_of group) (codes b code ws))
    go true = refl
    go false = refl

-- no letter and no group stands twice
record Once (ws : List Said) : Type 0 where
  letters : twice (other_letters ws) ≡ false
  g : twice (g_groups_of ws) ≡ false
  m : twice (m_groups_of ws) ≡ false

is : {n k : ℕ} → n ≡ k → eqb n k ≡ true
is {n} {k} e = T-eq (eqb n k) (subst (λ x. T (eqb n x)) e (eqb_refl n))

module _ (xs : List Said) (v w : Said) (ws : List Said) where
  letters_swap : twice (other_letters (xs ++ v ∷ w ∷ ws)) ≡ twice (other_letters (xs ++ w ∷ v ∷ ws))
  letters_swap = twice_swap other (λ u. u.letter) other_letters letters_step xs v w ws

  module _ (b : ℕ) (group : ℕ → ℕ) (code : ℤ → Option ℕ) where
    abbrev groups : List Said → List ℕ
    groups l = map (group_of group) (codes b code l)

    groups_swap : twice (groups (xs ++ v ∷ w ∷ ws)) ≡ twice (groups (xs ++ w ∷ v ∷ ws))
    groups_swap = twice_swap (λ u. eqb u.letter b) (λ u. group_of group (code u.value)) groups (groups_step b group code) xs v w ws

    group_swap : (k : ℕ) → among k (groups (xs ++ v ∷ w ∷ ws)) ≡ among k (groups (xs ++ w ∷ v ∷ ws))
    group_swap k = among_swap (λ u. eqb u.letter b) (λ u. group_of group (code u.value)) groups (groups_step b group code) k xs v w ws

    groups_apart : twice (groups (xs ++ v ∷ w ∷ ws)) ≡ false → v.letter ≡ b → w.letter ≡ b → group_of group (code v.value) ≡ group_of group (code w.value) → ⊥
    groups_apart f p q e = subst T f (alike_twice (λ u. eqb u.letter b) (λ u. group_of group (code u.value)) groups (groups_step b group code) xs v w ws (is p) (is q) e)

  unserved_swap : unserved (xs ++ v ∷ w ∷ ws) ≡ unserved (xs ++ w ∷ v ∷ ws)
  unfolding unserved g_codes m_codes
  unserved_swap = rw (group_swap (byte "G") g_group g_code _, group_swap (byte "M") m_group m_code _)

  doubled_swap : (b : Block) → doubled (xs ++ v ∷ w ∷ ws) b ≡ doubled (xs ++ w ∷ v ∷ ws) b
  unfolding doubled g_codes m_codes
  doubled_swap b = rw (letters_swap, groups_swap (byte "G") g_group g_code, groups_swap (byte "M") m_group m_code)

  once_swap : Once (xs ++ v ∷ w ∷ ws) → Once (xs ++ w ∷ v ∷ ws)
  unfolding g_codes m_codes
  once_swap o = record { letters = sym letters_swap ∙ o.letters; g = sym (groups_swap (byte "G") g_group g_code) ∙ o.g; m = sym (groups_swap (byte "M") m_group m_code) ∙ o.m }

  once_apart : Once (xs ++ v ∷ w ∷ ws) → Apart v w
  unfolding g_codes m_codes
  once_apart o = record { letters = go (other v) refl; g = groups_apart (byte "G") g_group g_code o.g; m = groups_apart (byte "M") m_group m_code o.m }
    where
      in_gm : (l : ℕ) → not (among l (bytes "GM")) ≡ false → (l ≡ byte "G") ⊎ (l ≡ byte "M")
      in_gm l e = pick (eqb l (byte "G")) (eqb l (byte "M")) refl refl e
        where
          pick : (x y : Bool) → eqb l (byte "G") ≡ x → eqb l (byte "M") ≡ y → not (x || (y || false)) ≡ false → (l ≡ byte "G") ⊎ (l ≡ byte "M")
          pick true y p q e = inl (eqb→eq l (byte "G") (subst T (sym p) tt))
          pick false true p q e = inr (eqb→eq l (byte "M") (subst T (sym q) tt))
          pick false false p q e = absurd (subst T e tt)

      go : (c : Bool) → other v ≡ c → v.letter ≡ w.letter → (v.letter ≡ byte "G") ⊎ (v.letter ≡ byte "M")
      go true p e = absurd (subst T o.letters (alike_twice other (λ u. u.letter) other_letters letters_step xs v w ws p (subst (λ l. not (among l (bytes "GM")) ≡ true) e p) e))
      go false p e = in_gm v.letter p

same_block : {ws vs : List Said} → Swaps ws vs → Once ws → block_of ws ≡ block_of vs
same_block as_is o = refl
same_block (change xs v w ws s) o = block_swap xs v w ws (once_apart xs v w ws o) ∙ same_block s (once_swap xs v w ws o)

same_unserved : {ws vs : List Said} → Swaps ws vs → unserved ws ≡ unserved vs
same_unserved as_is = refl
same_unserved (change xs v w ws s) = unserved_swap xs v w ws ∙ same_unserved s

same_doubled : (b : Block) {ws vs : List Said} → Swaps ws vs → doubled ws b ≡ doubled vs b
same_doubled b as_is = refl
same_doubled b (change xs v w ws s) = doubled_swap xs v w ws b ∙ same_doubled b s

-- ---- what is read in any order

-- the reading comes to its end
abbrev ends : Took Entry → Bool
ends end = true
ends (stopped n) = false
ends (took e t) = ends t

abbrev goes : Step Entry → Bool
goes skip = true
goes (give e) = true
goes (stop n) = false

after_ends : (s : Step Entry) (t : Took Entry) → ends (after s t) ≡ (goes s && ends t)
after_ends skip t = refl
after_ends (give e) t = refl
after_ends (stop n) t = refl

ended_0 : (t : Took Entry) → ends t ≡ true → stopped_by t ≡ 0
ended_0 end h = refl
ended_0 (stopped n) h = absurd (subst T (sym h) tt)
ended_0 (took e t) h = ended_0 t h

both : (a b : Bool) → (a && b) ≡ true → (a ≡ true) × (b ≡ true)
both true b h = (refl, h)
both false b h = absurd (subst T (sym h) tt)

-- a word or a setting that does not stop the reading
worth : Worked → ℤ
worth (Ok v) = v.0
worth (Err n) = pos 0

module _ (b : ℕ) where
  word_words : (w : Worked) (t : Took Entry) → goes (word_of b w) ≡ true → words (after (word_of b w) t) ≡ record { letter = b; value = worth w } ∷ words t
  unfolding worth
  word_words (Ok v) t h = refl
  word_words (Err n) t h = absurd (subst T (sym h) tt)

  word_settings : (w : Worked) (t : Took Entry) → goes (word_of b w) ≡ true → settings (after (word_of b w) t) ≡ settings t
  word_settings (Ok v) t h = refl
  word_settings (Err n) t h = absurd (subst T (sym h) tt)

setting_words : (a w : Worked) (t : Took Entry) → goes (setting_of a w) ≡ true → words (after (setting_of a w) t) ≡ words t
setting_words (Err n) w t h = absurd (subst T (sym h) tt)
setting_words (Ok v) w t h = go (parameter_of v.0) w h
  where
    go : (p : Option ℕ) (w : Worked) → goes (setting_at p w) ≡ true → words (after (setting_at p w) t) ≡ words t
    go None w h = absurd (subst T (sym h) tt)
    go (Some n) (Ok z) h = refl
    go (Some n) (Err k) h = absurd (subst T (sym h) tt)

-- settings that come after the same step
step_settings : (s : Step Entry) (t u : Took Entry) → settings t ≡ settings u → settings (after s t) ≡ settings (after s u)
step_settings skip t u e = e
step_settings (give (word_is b v)) t u e = e
step_settings (give (setting_is n v)) t u e = rw e
step_settings (stop n) t u e = refl

module _ (table : List ℤ) where
  abbrev read : List Item → Took Entry
  read is = entries (arithmetic table) is

  abbrev step_in : Item → Step Entry
  step_in i = step_of (arithmetic table) i

  -- a word with its value
  said : Item → Said
  said (word b v) = record { letter = b; value = worth (value (arithmetic table) v) }
  said (setting v w) = record { letter = 0; value = pos 0 }
  said (comment bs) = record { letter = 0; value = pos 0 }

  -- the words, and the settings, of what is read to its end
  words_are : (is : List Item) → ends (read is) ≡ true → words (read is) ≡ map said (words_of is)
  unfolding said
  words_are [] h = refl
  words_are (word b v ∷ is) h =
      let g = both (goes (step_in (word b v))) (ends (read is)) (sym (after_ends (step_in (word b v)) (read is)) ∙ h) in
      word_words b (value (arithmetic table) v) (read is) g.0 ∙ rw (words_are is g.1)
  words_are (setting v w ∷ is) h =
      let g = both (goes (step_in (setting v w))) (ends (read is)) (sym (after_ends (step_in (setting v w)) (read is)) ∙ h) in
      setting_words (value (arithmetic table) v) (value (arithmetic table) w) (read is) g.0 ∙ words_are is g.1
  words_are (comment bs ∷ is) h = words_are is h

  settings_are : (is : List Item) → ends (read is) ≡ true → settings (read is) ≡ settings (read (settings_of is))
  settings_are [] h = refl
  settings_are (word b v ∷ is) h =
      let g = both (goes (step_in (word b v))) (ends (read is)) (sym (after_ends (step_in (word b v)) (read is)) ∙ h) in
      word_settings b (value (arithmetic table) v) (read is) g.0 ∙ settings_are is g.1
  settings_are (setting v w ∷ is) h =
      let g = both (goes (step_in (setting v w))) (ends (read is)) (sym (after_ends (step_in (setting v w)) (read is)) ∙ h) in
      step_settings (step_in (setting v w)) (read is) (read (settings_of is)) (settings_are is g.1)
  settings_are (comment bs ∷ is) h = settings_are is h

  -- words and settings apart
  ends_apart : (is : List Item) → ends (read is) ≡ (ends (read (words_of is)) && ends (read (settings_of is)))
  ends_apart [] = refl
  ends_apart (word b v ∷ is) =
      let s = step_in (word b v) in
      after_ends s (read is) ∙ ap (λ c. goes s && c) (ends_apart is) ∙ and_left_in (goes s) (ends (read (words_of is))) (ends (read (settings_of is))) ∙ ap (λ c. c && ends (read (settings_of is))) (sym (after_ends s (read (words_of is))))
    where
      and_left_in : (a b c : Bool) → (a && (b && c)) ≡ ((a && b) && c)
      and_left_in true b c = refl
      and_left_in false b c = refl
  ends_apart (setting v w ∷ is) =
      let s = step_in (setting v w) in
      after_ends s (read is) ∙ ap (λ c. goes s && c) (ends_apart is) ∙ and_turn (goes s) (ends (read (words_of is))) (ends (read (settings_of is))) ∙ ap (λ c. ends (read (words_of is)) && c) (sym (after_ends s (read (settings_of is))))
  ends_apart (comment bs ∷ is) = ends_apart is

  -- a mark gives neither word nor setting
  mark_reads : (m : Mark) (t : Took Entry) → goes (mark_step (arithmetic table) m) ≡ true → after (mark_step (arithmetic table) m) t ≡ t
  mark_reads unmarked t h = refl
  mark_reads (plain k) t h = refl
  mark_reads (conditional k e) t h = go (expression (arithmetic table) e) h
    where
      go : (w : Worked) → goes (condition_of k w) ≡ true → after (condition_of k w) t ≡ t
      go (Err n) h = absurd (subst T (sym h) tt)
      go (Ok v) h = by (runs k v.0) h
        where
          by : (c : Bool) → goes (cond c skip (stop 100)) ≡ true → after (cond c skip (stop 100)) t ≡ t
          by true h = refl
          by false h = absurd (subst T (sym h) tt)

work_apart : (is : List Item) → items_work is ≡ items_work (words_of is) + items_work (settings_of is)
work_apart [] = refl
work_apart (word b v ∷ is) = omega (arith, work_apart is)
work_apart (setting v w ∷ is) = omega (arith, work_apart is)
work_apart (comment bs ∷ is) = omega (arith, work_apart is)

depth_apart : (is : List Item) → items_depth is ≡ max (items_depth (words_of is)) (items_depth (settings_of is))
depth_apart [] = refl
depth_apart (word b v ∷ is) = omega (arith, depth_apart is)
depth_apart (setting v w ∷ is) = omega (arith, depth_apart is)
depth_apart (comment bs ∷ is) = omega (arith, depth_apart is)

-- ---- an accepted line

-- no condition of the list holds
abbrev Nones : List Case → Type 0
Nones [] = Unit {0}
Nones ((n when c) ∷ cs) = (c ≡ false) × Nones cs

abbrev numbered : List Case → Bool
numbered [] = true
numbered ((n when c) ∷ cs) = not (eqb n 0) && numbered cs

nones : (cs : List Case) → T (numbered cs) → first cs ≡ 0 → Nones cs
nones [] t e = tt
nones ((n when true) ∷ cs) t e = absurd (T_not (eqb n 0) (and_left (not (eqb n 0)) (numbered cs) t) (subst (λ x. T (eqb n x)) e (eqb_refl n)))
nones ((n when false) ∷ cs) t e = (refl, nones cs (and_right (not (eqb n 0)) (numbered cs) t) e)

neither : (a b : Bool) → (a || b) ≡ false → (a ≡ false) × (b ≡ false)
neither true b e = absurd (subst T e tt)
neither false b e = (refl, e)

once : (ws : List Said) (b : Block) → doubled ws b ≡ false → Once ws
unfolding doubled
once ws b e =
    let l = twice (other_letters ws) in
    let g = twice (g_groups_of ws) in
    let m = twice (m_groups_of ws) in
    let p = neither (l || g || m) (moving_code b && (sets_origin b || sets_offset b)) e in
    let q = neither (l || g) m p.0 in
    let o = neither l g q.0 in
    record { letters = o.0; g = o.1; m = q.1 }

sound_ends : (e : Took Entry) → SoundTook e → meets e 5 ≡ false → meets e 6 ≡ false → meets e 7 ≡ false → ends e ≡ true
sound_ends end s p q h = refl
sound_ends (stopped n) s p q h = absurd (omega (arith, s.0, s.1, eqb-false n 5 p, eqb-false n 6 q, eqb-false n 7 h))
sound_ends (took (word_is b v) e) s p q h = sound_ends e s.1 p q h
sound_ends (took (setting_is n v) e) s p q h = sound_ends e s p q h

line_ends : (table : List ℤ) (t : Line) → let e = line_entries (arithmetic table) t in meets e 100 ≡ false → meets e 5 ≡ false → meets e 6 ≡ false → meets e 7 ≡ false → ends e ≡ true
line_ends table t o p q h = ⊎_elim
    (λ e. absurd (subst T (subst (λ x. meets x 100 ≡ false) e o) tt))
    (λ s. sound_ends (line_entries (arithmetic table) t) s p q h)
    (line_sound table t)

-- a derivation and another with its words in another order, read to the end
module _ (table : List ℤ) (m : Mark) (n : Label) (is js : List Item) (ordered : Shuffled (words_of is) (words_of js)) (alike : settings_of is ≡ settings_of js) (read-on : ends (line_entries (arithmetic table) (line m n is)) ≡ true) where
  moved : Swaps (words_of is) (words_of js)
  moved = by_swaps ordered

  marked : (goes (mark_step (arithmetic table) m) ≡ true) × (ends (read table is) ≡ true)
  marked = both (goes (mark_step (arithmetic table) m)) (ends (read table is)) (sym (after_ends (mark_step (arithmetic table) m) (read table is)) ∙ read-on)

  same_ends : ends (read table is) ≡ ends (read table js)
  same_ends =
      ends_apart table is
      ∙ ap (λ c. c && ends (read table (settings_of is))) (joined ◌&&◌ (λ i. goes (step_in table i)) (λ l. ends (read table l)) (λ i l. after_ends (step_in table i) (read table l)) and_turn moved)
      ∙ ap (λ l. ends (read table (words_of js)) && ends (read table l)) alike
      ∙ sym (ends_apart table js)

  js_end : ends (read table js) ≡ true
  js_end = sym same_ends ∙ marked.1

  entries_is : line_entries (arithmetic table) (line m n is) ≡ read table is
  entries_is = mark_reads table m (read table is) marked.0

  entries_js : line_entries (arithmetic table) (line m n js) ≡ read table js
  entries_js = mark_reads table m (read table js) marked.0

  same_words : Swaps (words (line_entries (arithmetic table) (line m n is))) (words (line_entries (arithmetic table) (line m n js)))
  same_words = rw (entries_is, entries_js, words_are table is marked.1, words_are table js js_end) (mapped (said table) moved)

  same_settings : settings (line_entries (arithmetic table) (line m n is)) ≡ settings (line_entries (arithmetic table) (line m n js))
  same_settings = rw (entries_is, entries_js) (settings_are table is marked.1 ∙ ap (λ l. settings (read table l)) alike ∙ sym (settings_are table js js_end))

  same_stop : stopped_by (line_entries (arithmetic table) (line m n is)) ≡ stopped_by (line_entries (arithmetic table) (line m n js))
  same_stop = rw (entries_is, entries_js) (ended_0 (read table is) marked.1 ∙ sym (ended_0 (read table js) js_end))

  same_work : items_work is ≡ items_work js
  same_work =
      let w = joined ◌+◌ item_work items_work (λ i l. refl) (λ a b c. omega arith) moved in
      let s = ap items_work alike in
      omega (arith, work_apart is, work_apart js)

  same_depth : items_depth is ≡ items_depth js
  same_depth =
      let w = joined max item_depth items_depth (λ i l. refl) (λ a b c. omega arith) moved in
      let s = ap items_depth alike in
      omega (arith, depth_apart is, depth_apart js)

module _ (switch : Bool) (r : Record) (table out : List ℤ) where
  -- the same answer, where what it is made from is the same
  same_answer : (s s' : List ℕ) (c c' : Contents Entry) → ltb 256 (length s) ≡ ltb 256 (length s') → unread switch s ≡ unread switch s' → c.depth ≡ c'.depth → stopped_by c.entries ≡ stopped_by c'.entries → c.work ≡ c'.work →
      settings c.entries ≡ settings c'.entries → unserved (words c.entries) ≡ unserved (words c'.entries) → ((b : Block) → doubled (words c.entries) b ≡ doubled (words c'.entries) b) → block_of (words c.entries) ≡ block_of (words c'.entries) →
      answer_to (derived c) s switch r table out ≡ answer_to (derived c') s' switch r table out
  unfolding answer_to
  same_answer s s' c c' long unheeded deep met work set uns dou block =
      let d = dou (block_of (words c'.entries)) in
      rw (block, long, unheeded, deep, met, work, set, uns, d)

  -- the same of the trees that derive the two lines
  by_trees : {t t' : Line} {s s' : List ℕ} → Derives t s → Derives t' s' → Rearranged t t' → length s' ≤ 256 →
      {a a' : After} → Right s switch r table out a → number_of a.outcome.answer ≡ 0 → Right s' switch r table out a' → a' ≡ a
  unfolding answer_to
  by_trees {s = s} {s' = s'} d d' (rearranged m n {is} {js} o e) short p zero p' =
      let t = line m n is in
      let t' = line m n js in
      let c = contents (arithmetic table) t in
      let b = block_of (words c.entries) in
      let cs = numbers false c b s switch r table (length out) in
      let f = nones cs tt (sym (number_is (first cs) 0 c b r table out (first_carriable cs tt)) ∙ (sym (ap (λ x. number_of x.outcome.answer) (p.by_tree t d)) ∙ zero)) in
      let g = f.1.1.1.1.1 in
      let on = line_ends table t g.0 g.1.1.0 g.1.1.1.0 g.1.1.1.1.0 in
      let w = same_words table m n is js o e on in
      p'.by_tree t' d' ∙ sym (same_answer s s' c (contents (arithmetic table) t')
      (f.1.0 ∙ sym (le-ltb 256 (length s') short)) (unread_is switch d ∙ sym (unread_is switch d'))
      (ap (λ k. max (mark_depth m) k) (same_depth table m n is js o e on)) (same_stop table m n is js o e on) (ap (λ k. mark_work m + k) (same_work table m n is js o e on))
      (same_settings table m n is js o e on) (same_unserved w) (λ b. same_doubled b w) (same_block w (once (words c.entries) b g.1.1.1.1.1.1.0))) ∙ sym (p.by_tree t d)

  -- "It must not: if a line is accepted, then any line of at most 256 bytes made by rearranging its words .. is accepted too, with the same commands, record and table".
  -- In plain words: let `s` be a typed line that is accepted, that is, what `Right` allows for it carries number 0. Let `s'` be a typed line of at most 256 bytes
  -- with the same mark, condition and line number, which stay first; with the same settings, in the same order among themselves; with the same words, in any order,
  -- before, between or behind the settings; and with comments and blanks anywhere. Then, with the same switch, record, table and output space, whatever `Right` allows
  -- for `s'` is what it allows for `s`, to the last field: accepted, with the same count, work, record, table and output, and so the same commands.
  -- `Reordered` says it of the one derivation that each of the two has (`unique`, crate grammar).
  -- Of a line that is refused nothing is said: its words may meet another number first (`X[1/0] Y#0` is 6, `Y#0 X[1/0]` is 7).
  pub any_order : {s s' : List ℕ} → Reordered s s' → length s' ≤ 256 →
      {a a' : After} → Right s switch r table out a → number_of a.outcome.answer ≡ 0 → Right s' switch r table out a' → a' ≡ a
  any_order q short p zero p' = by_trees q.before q.after q.moved short p zero p'

-- two words that change places, and a comment that comes between
pub neighbours : (m : Mark) (n : Label) (b c : ℕ) (v w : Value) (bs : List ℕ) → Rearranged (line m n (word b v ∷ word c w ∷ [])) (line m n (word c w ∷ comment bs ∷ word b v ∷ []))
neighbours m n b c v w bs = rearranged m n (place (word b v) (word c w ∷ []) [] (place (word c w) [] [] none)) refl
