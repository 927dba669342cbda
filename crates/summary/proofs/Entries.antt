-- Keys tell words apart: what a line's summary says of its words is said of what is filed under their keys.
-- Assumes nothing.
use mathlib.Core.Path.{◌≡◌, refl, sym, ap, ap₂, subst, ◌∙◌}
use mathlib.Core.Bool.{Bool, true, false, cond, ◌&&◌, ◌||◌, not}
use mathlib.Core.List.{List, [], ◌∷◌, map}
use Prim.Native.Nat.{ℕ, ◌+◌, ◌%◌, ◌≤◌, ◌<◌}
use native.Mathlib.Omega.{arith}
use lib.Dec.{T, eqb, leb, ltb, leb→le, ltb→lt, lt→ltb, eqb→eq}
use lib.IntN.{ℤ, pos, negsuc}
use lib.ListN.{length, get_or}
use borrow.Author.Tests.{eq-eqb, ne_eqb, eqb-true, eqb-false}
use Rattle.std.specs.Prelude.{Option, None, Some, unwrap_or}
use Rattle.laws.proofs.Bools.{and_left, and_right, or_cases}
use Rattle.grammar.specs.Bytes.{bytes, among, all}
use Rattle.grammar.specs.Grammar.{letter}
use Rattle.rules.specs.Numbers.{whole, tenth}
use Rattle.rules.specs.Meaning.{Said}
use Rattle.rules.specs.Codes.{Group, listed_in, g_groups, m_groups, g_group, m_group, g_code, m_code, group_of, code_up_to}
use Rattle.rules.specs.Codes.Group.{◌holds◌}
use Rattle.rules.specs.Block.{amount, word, codes, of_group, twice, other_letters, g_codes, m_codes}
use Rattle.rules.specs.Refusals.{g_groups_of, m_groups_of}
use Rattle.rules.specs.declared.Value.{Value}
use Rattle.summary.specs.declared.words.Entry.{Entry}
use Rattle.summary.specs.Words.{lettered}
use Rattle.summary.specs.Keys.{code_entry, entry_of, first, code_in, is_code}
use Rattle.summary.proofs.Held.{from, next, AllLettered}

abbrev pub entries : List Said → List Entry
entries ws = map entry_of ws

abbrev pub keys : List Entry → List ℕ
keys es = map (λ (e : Entry). e.key) es

-- ---- tests of numbers
eqb_both : (x y u v : ℕ) → (x ≡ y → u ≡ v) → (u ≡ v → x ≡ y) → eqb x y ≡ eqb u v
eqb_both x y u v f g = go (eqb u v) refl
  where
    go : (b : Bool) → eqb u v ≡ b → eqb x y ≡ b
    go true e = eq-eqb x y (g (eqb-true u v e))
    go false e = ne_eqb x y (λ p. eqb-false u v e (f p))

eqb_sym : (x y : ℕ) → eqb x y ≡ eqb y x
eqb_sym x y = eqb_both x y y x sym sym

-- ---- what a word is filed under, by its letter
by_letter : (P : Entry → Type 0) (w : Said)
    → (w.letter ≡ 71 → P (code_entry 32 (group_of g_group (g_code w.value)) (g_code w.value)))
    → (w.letter ≡ 77 → P (code_entry 48 (group_of m_group (m_code w.value)) (m_code w.value)))
    → ((w.letter ≡ 71 → ⊥) → (w.letter ≡ 77 → ⊥) → P (record { key = w.letter % 32; value = w.value }))
    → P (entry_of w)
unfolding entry_of
by_letter P w g m p = go (eqb w.letter 71) (eqb w.letter 77) refl refl
  where
    go : (a b : Bool) → eqb w.letter 71 ≡ a → eqb w.letter 77 ≡ b →
        P (cond a (code_entry 32 (group_of g_group (g_code w.value)) (g_code w.value)) (cond b (code_entry 48 (group_of m_group (m_code w.value)) (m_code w.value)) (record { key = w.letter % 32; value = w.value })))
    go true b e d = g (eqb-true w.letter 71 e)
    go false true e d = m (eqb-true w.letter 77 d)
    go false false e d = p (eqb-false w.letter 71 e) (eqb-false w.letter 77 d)

pub key_few : (w : Said) → (entry_of w).key < 64
key_few w =
    by_letter (λ (e : Entry). e.key < 64) w
    (λ l. let x = group_of g_group (g_code w.value) in omega arith)
    (λ l. let x = group_of m_group (m_code w.value) in omega arith)
    (λ l k. omega arith)

-- ---- the word at place i is filed, or passed over
module _ (ls : List ℕ) (vs : List ℤ) (i : ℕ) (h : i < length ls) (g : i < length vs) where
  pub next_filed : letter (get_or ls i 0) ≡ true → entries (lettered (from ls vs i)) ≡ entry_of (record { letter = get_or ls i 0; value = get_or vs i (pos 0) }) ∷ entries (lettered (from ls vs (i + 1)))
  next_filed e = ap (λ (ws : List Said). entries (lettered ws)) (next ls vs i h g) ∙ rw e refl

  pub next_passed : letter (get_or ls i 0) ≡ false → entries (lettered (from ls vs i)) ≡ entries (lettered (from ls vs (i + 1)))
  next_passed e = ap (λ (ws : List Said). entries (lettered ws)) (next ls vs i h g) ∙ rw e refl

-- ---- groups: below 15, or 255 for none
abbrev grouped : ℕ → Bool
grouped g = ltb g 15 || eqb g 255

below : (g : ℕ) → T (ltb g 15) → T (grouped g)
below g t = go (ltb g 15) t
  where
    go : (b : Bool) → T b → T (b || eqb g 255)
    go true u = tt
    go false u = absurd u

abbrev numbered : List Group → Bool
numbered [] = true
numbered ((g holds cs) ∷ gs) = grouped g && numbered gs

listed : (gs : List Group) → T (numbered gs) → (code : ℕ) → T (grouped (listed_in gs code))
listed [] t code = tt
listed ((g holds cs) ∷ gs) t code = go (among code cs) (listed gs (and_right (grouped g) (numbered gs) t) code)
  where
    go : (b : Bool) → T (grouped (listed_in gs code)) → T (grouped (cond b g (listed_in gs code)))
    go true h = and_left (grouped g) (numbered gs) t
    go false h = h

of_code : (group : ℕ → ℕ) → ((code : ℕ) → T (grouped (group code))) → (c : Option ℕ) → T (grouped (group_of group c))
of_code group h None = tt
of_code group h (Some c) = h c

g_grouped : (c : Option ℕ) → T (grouped (group_of g_group c))
unfolding g_group
g_grouped c = of_code g_group (listed g_groups tt) c

m_grouped : (c : Option ℕ) → T (grouped (group_of m_group c))
unfolding m_group
m_grouped c = of_code m_group (listed m_groups tt) c

same_group : (x y : ℕ) → T (grouped x) → T (grouped y) → x % 16 ≡ y % 16 → x ≡ y
same_group x y p q e =
    or_cases (ltb x 15) (eqb x 255)
    (λ a. or_cases (ltb y 15) (eqb y 255) (λ b. omega (arith, ltb→lt x 15 a, ltb→lt y 15 b)) (λ b. omega (arith, ltb→lt x 15 a, eqb→eq y 255 b)) q)
    (λ a. or_cases (ltb y 15) (eqb y 255) (λ b. omega (arith, eqb→eq x 255 a, ltb→lt y 15 b)) (λ b. omega (arith, eqb→eq x 255 a, eqb→eq y 255 b)) q)
    p

-- the keys of codes: of the same letter and the same group
g_key : (w : Said) (g : ℕ) → T (grouped g) → eqb (entry_of w).key (32 + g % 16) ≡ (eqb w.letter 71 && eqb (group_of g_group (g_code w.value)) g)
g_key w g t =
    by_letter (λ (e : Entry). eqb e.key (32 + g % 16) ≡ (eqb w.letter 71 && eqb (group_of g_group (g_code w.value)) g)) w
    (λ l. let x = group_of g_group (g_code w.value) in rw (eq-eqb w.letter 71 l) (eqb_both (32 + x % 16) (32 + g % 16) x g (λ e. same_group x g (g_grouped (g_code w.value)) t (omega arith)) (ap (λ (y : ℕ). 32 + y % 16))))
    (λ l. let x = group_of m_group (m_code w.value) in rw (ne_eqb w.letter 71 (λ e. omega arith)) (ne_eqb (48 + x % 16) (32 + g % 16) (λ e. omega arith)))
    (λ l k. rw (ne_eqb w.letter 71 l) (ne_eqb (w.letter % 32) (32 + g % 16) (λ e. omega arith)))

m_key : (w : Said) (g : ℕ) → T (grouped g) → eqb (entry_of w).key (48 + g % 16) ≡ (eqb w.letter 77 && eqb (group_of m_group (m_code w.value)) g)
m_key w g t =
    by_letter (λ (e : Entry). eqb e.key (48 + g % 16) ≡ (eqb w.letter 77 && eqb (group_of m_group (m_code w.value)) g)) w
    (λ l. let x = group_of g_group (g_code w.value) in rw (ne_eqb w.letter 77 (λ e. omega arith)) (ne_eqb (32 + x % 16) (48 + g % 16) (λ e. omega arith)))
    (λ l. let x = group_of m_group (m_code w.value) in rw (eq-eqb w.letter 77 l) (eqb_both (48 + x % 16) (48 + g % 16) x g (λ e. same_group x g (m_grouped (m_code w.value)) t (omega arith)) (ap (λ (y : ℕ). 48 + y % 16))))
    (λ l k. rw (ne_eqb w.letter 77 k) (ne_eqb (w.letter % 32) (48 + g % 16) (λ e. omega arith)))

-- ---- the codes after a letter, filed from a base on
module _ (initial base : ℕ) (code : ℤ → Option ℕ) (group : ℕ → ℕ)
    (key-is : (w : Said) (g : ℕ) → T (grouped g) → eqb (entry_of w).key (base + g % 16) ≡ (eqb w.letter initial && eqb (group_of group (code w.value)) g))
    (value_is : (w : Said) → w.letter ≡ initial → (entry_of w).value ≡ pos (unwrap_or (code w.value) 0)) where
  among_groups : (g : ℕ) → T (grouped g) → (ws : List Said) → among (base + g % 16) (keys (entries ws)) ≡ among g (map (group_of group) (codes initial code ws))
  among_groups g t [] = refl
  among_groups g t (w ∷ ws) =
      ap₂ ◌||◌ (eqb_sym (base + g % 16) (entry_of w).key ∙ key-is w g t) (among_groups g t ws)
      ∙ go (eqb w.letter initial)
    where
      go : (b : Bool) → (b && eqb (group_of group (code w.value)) g || among g (map (group_of group) (codes initial code ws))) ≡ among g (map (group_of group) (cond b (code w.value ∷ codes initial code ws) (codes initial code ws)))
      go true = ap (λ (b : Bool). b || among g (map (group_of group) (codes initial code ws))) (eqb_sym (group_of group (code w.value)) g)
      go false = refl

  -- a code of a group that is served is a code
  served : (c : Option ℕ) (g : ℕ) → (g ≡ 255 → ⊥) → group_of group c ≡ g → Some (unwrap_or c 0) ≡ c
  served None g n e = absurd (n (sym e))
  served (Some c) g n e = refl

  code_filed : (g : ℕ) → T (grouped g) → (g ≡ 255 → ⊥) → (ws : List Said) → code_in (first (base + g % 16) (entries ws)) ≡ of_group group g (codes initial code ws)
  code_filed g t n [] = refl
  code_filed g t n (w ∷ ws) = ap (λ (b : Bool). code_in (cond b (Some (record { 0 = (entry_of w).value })) (first (base + g % 16) (entries ws)))) (key-is w g t) ∙ go (code_filed g t n ws) (eqb w.letter initial) refl (eqb (group_of group c) g) refl
    where
      c : Option ℕ
      c = code w.value

      go : code_in (first (base + g % 16) (entries ws)) ≡ of_group group g (codes initial code ws) → (a : Bool) → eqb w.letter initial ≡ a → (b : Bool) → eqb (group_of group c) g ≡ b →
          code_in (cond (a && b) (Some (record { 0 = (entry_of w).value })) (first (base + g % 16) (entries ws))) ≡ of_group group g (cond a (c ∷ codes initial code ws) (codes initial code ws))
      go r true p true q = rw (value_is w (eqb-true w.letter initial p), q) (served c g n (eqb-true (group_of group c) g q))
      go r true p false q = rw q r
      go r false p b q = r

g_value : (w : Said) → w.letter ≡ 71 → (entry_of w).value ≡ pos (unwrap_or (g_code w.value) 0)
g_value w l = by_letter (λ (e : Entry). e.value ≡ pos (unwrap_or (g_code w.value) 0)) w (λ k. refl) (λ k. absurd (omega arith)) (λ f k. absurd (f l))

m_value : (w : Said) → w.letter ≡ 77 → (entry_of w).value ≡ pos (unwrap_or (m_code w.value) 0)
m_value w l = by_letter (λ (e : Entry). e.value ≡ pos (unwrap_or (m_code w.value) 0)) w (λ k. absurd (omega arith)) (λ k. refl) (λ f k. absurd (k l))

pub g_among : (g : ℕ) → T (grouped g) → (ws : List Said) → among (32 + g % 16) (keys (entries ws)) ≡ among g (g_groups_of ws)
unfolding g_codes
g_among = among_groups 71 32 g_code g_group g_key g_value

pub m_among : (g : ℕ) → T (grouped g) → (ws : List Said) → among (48 + g % 16) (keys (entries ws)) ≡ among g (m_groups_of ws)
unfolding m_codes
m_among = among_groups 77 48 m_code m_group m_key m_value

pub g_filed : (g : ℕ) → T (ltb g 15) → (ws : List Said) → code_in (first (32 + g % 16) (entries ws)) ≡ of_group g_group g (g_codes ws)
unfolding g_codes
g_filed g t = code_filed 71 32 g_code g_group g_key g_value g (below g t) (λ e. omega (arith, ltb→lt g 15 t))

pub m_filed : (g : ℕ) → T (ltb g 15) → (ws : List Said) → code_in (first (48 + g % 16) (entries ws)) ≡ of_group m_group g (m_codes ws)
unfolding m_codes
m_filed g t = code_filed 77 48 m_code m_group m_key m_value g (below g t) (λ e. omega (arith, ltb→lt g 15 t))

-- ---- letters other than G and M
record Plain (b : ℕ) : Type 0 where
  low : 65 ≤ b
  high : b ≤ 90
  not_g : b ≡ 71 → ⊥
  not_m : b ≡ 77 → ⊥

abbrev capital : ℕ → Bool
capital b = leb 65 b && leb b 90

plain : (b : ℕ) → T (capital b) → (b ≡ 71 → ⊥) → (b ≡ 77 → ⊥) → Plain b
plain b t g m = record { low = leb→le 65 b (and_left (leb 65 b) (leb b 90) t); high = leb→le b 90 (and_right (leb 65 b) (leb b 90) t); not_g = g; not_m = m }

-- the grammar's letters lie from A to Z
of_all : (class : ℕ → Bool) (b : ℕ) (ks : List ℕ) → T (all class ks) → T (among b ks) → T (class b)
of_all class b [] t u = absurd u
of_all class b (k ∷ ks) t u =
    or_cases (eqb b k) (among b ks)
    (λ h. subst (λ (x : ℕ). T (class x)) (sym (eqb→eq b k h)) (and_left (class k) (all class ks) t))
    (λ h. of_all class b ks (and_right (class k) (all class ks) t) h)
    u

capitals : (b : ℕ) → T (letter b) → T (capital b)
capitals b t = of_all capital b (bytes "FGIJKLMPSTXYZ") tt t

plain_key : (w : Said) → T (letter w.letter) → (b : ℕ) → Plain b → eqb (entry_of w).key (b % 32) ≡ eqb w.letter b
plain_key w t b p =
    by_letter (λ (e : Entry). eqb e.key (b % 32) ≡ eqb w.letter b) w
    (λ l. let x = group_of g_group (g_code w.value) in ne_eqb (32 + x % 16) (b % 32) (λ e. omega arith) ∙ sym (ne_eqb w.letter b (λ e. p.not_g (sym e ∙ l))))
    (λ l. let x = group_of m_group (m_code w.value) in ne_eqb (48 + x % 16) (b % 32) (λ e. omega arith) ∙ sym (ne_eqb w.letter b (λ e. p.not_m (sym e ∙ l))))
    (λ l k. let q = plain w.letter (capitals w.letter t) l k in eqb_both (w.letter % 32) (b % 32) w.letter b (λ e. omega (arith, q.low, q.high, p.low, p.high)) (ap (λ (x : ℕ). x % 32)))

plain_value : (w : Said) → Plain w.letter → (entry_of w).value ≡ w.value
plain_value w p = by_letter (λ (e : Entry). e.value ≡ w.value) w (λ l. absurd (p.not_g l)) (λ l. absurd (p.not_m l)) (λ l k. refl)

module _ (b : ℕ) (p : Plain b) where
  among_letters : (ws : List Said) → AllLettered ws → among (b % 32) (keys (entries ws)) ≡ among b (other_letters ws)
  among_letters [] t = refl
  among_letters (w ∷ ws) t =
      ap₂ ◌||◌ (eqb_sym (b % 32) (entry_of w).key ∙ plain_key w (and_left (letter w.letter) _ t) b p ∙ eqb_sym w.letter b) (among_letters ws (and_right (letter w.letter) _ t))
      ∙ go (eqb w.letter 71) (eqb w.letter 77) refl refl
    where
      go : (g m : Bool) → eqb w.letter 71 ≡ g → eqb w.letter 77 ≡ m → (eqb b w.letter || among b (other_letters ws)) ≡ among b (cond (g || (m || false)) (other_letters ws) (w.letter ∷ other_letters ws))
      go true m e d = rw (ne_eqb b w.letter (λ f. p.not_g (f ∙ eqb-true w.letter 71 e))) refl
      go false true e d = rw (ne_eqb b w.letter (λ f. p.not_m (f ∙ eqb-true w.letter 77 d))) refl
      go false false e d = refl

  word_filed : (ws : List Said) → AllLettered ws → first (b % 32) (entries ws) ≡ word b ws
  word_filed [] t = refl
  word_filed (w ∷ ws) t =
      ap₂ (λ (c : Bool) (v : Option Value). cond c (Some (record { 0 = (entry_of w).value })) v) (plain_key w (and_left (letter w.letter) _ t) b p) (word_filed ws (and_right (letter w.letter) _ t))
      ∙ go (eqb w.letter b) refl
    where
      go : (c : Bool) → eqb w.letter b ≡ c → cond c (Some (record { 0 = (entry_of w).value })) (word b ws) ≡ cond c (Some (record { 0 = w.value })) (word b ws)
      go true e = rw (plain_value w (subst Plain (sym (eqb-true w.letter b e)) p)) refl
      go false e = refl

-- a letter that is written out
abbrev pub is_plain : ℕ → Bool
is_plain b = capital b && not (among b (bytes "GM"))

pub letter_filed : (b : ℕ) → T (is_plain b) → (ws : List Said) → AllLettered ws → first (b % 32) (entries ws) ≡ word b ws
letter_filed b t = word_filed b (plain b (and_left (capital b) (not (among b (bytes "GM"))) t) (λ e. other 71 tt e) (λ e. other 77 tt e))
  where
    other : (x : ℕ) → T (among x (bytes "GM")) → b ≡ x → ⊥
    other x u e = no (among x (bytes "GM")) u (subst (λ (y : ℕ). T (not (among y (bytes "GM")))) e (and_right (capital b) (not (among b (bytes "GM"))) t))
      where
        no : (c : Bool) → T c → T (not c) → ⊥
        no true u v = v
        no false u v = u

-- ---- a key stands twice where a letter does, or a G group, or an M group
pub keys_twice : (ws : List Said) → AllLettered ws → twice (keys (entries ws)) ≡ (twice (other_letters ws) || twice (g_groups_of ws) || twice (m_groups_of ws))
unfolding g_codes m_codes
keys_twice [] t = refl
keys_twice (w ∷ ws) t =
    let o = twice (other_letters ws) in
    let g = twice (g_groups_of ws) in
    let m = twice (m_groups_of ws) in
    ap (λ (b : Bool). among (entry_of w).key (keys (entries ws)) || b) (keys_twice ws r)
    ∙ by_letter (λ (e : Entry). (among e.key (keys (entries ws)) || (o || g || m)) ≡ (twice (other_letters (w ∷ ws)) || twice (g_groups_of (w ∷ ws)) || twice (m_groups_of (w ∷ ws)))) w
    (λ l. let x = group_of g_group (g_code w.value) in rw (eq-eqb w.letter 71 l, ne_eqb w.letter 77 (λ e. omega arith), g_among x (g_grouped (g_code w.value)) ws) (second (among x (g_groups_of ws)) o g m))
    (λ l. let x = group_of m_group (m_code w.value) in rw (eq-eqb w.letter 77 l, ne_eqb w.letter 71 (λ e. omega arith), m_among x (m_grouped (m_code w.value)) ws) (third (among x (m_groups_of ws)) o g m))
    (λ l k. let x = w.letter in rw (ne_eqb x 71 l, ne_eqb x 77 k, among_letters x (plain x (capitals x (and_left (letter x) _ t)) l k) ws r) (front (among x (other_letters ws)) o g m))
  where
    r : AllLettered ws
    r = and_right (letter w.letter) _ t

    front : (a x y z : Bool) → (a || (x || y || z)) ≡ (a || x || y || z)
    front true x y z = refl
    front false x y z = refl

    second : (a x y z : Bool) → (a || (x || y || z)) ≡ (x || (a || y) || z)
    second true true y z = refl
    second true false y z = refl
    second false x y z = refl

    third : (a x y z : Bool) → (a || (x || y || z)) ≡ (x || y || (a || z))
    third true true y z = refl
    third true false true z = refl
    third true false false z = refl
    third false x y z = refl

-- ---- what is filed at the keys of groups is a code
up_to : (last : ℕ) (n : Option ℤ) → unwrap_or (code_up_to last n) 0 ≤ last
up_to last None = omega arith
up_to last (Some (negsuc k)) = omega arith
up_to last (Some (pos k)) = go (leb 0 k && leb k last) refl
  where
    go : (b : Bool) → (leb 0 k && leb k last) ≡ b → unwrap_or (cond b (Some k) None) 0 ≤ last
    go true e = leb→le k last (and_right (leb 0 k) (leb k last) (subst T (sym e) tt))
    go false e = omega arith

pub codes_filed : (k : ℕ) → 32 ≤ k → (ws : List Said) → T (is_code (amount (first k (entries ws))).0)
unfolding g_code m_code
codes_filed k h [] = tt
codes_filed k h (w ∷ ws) =
    by_letter (λ (e : Entry). T (is_code (amount (cond (eqb e.key k) (Some (record { 0 = e.value })) (first k (entries ws)))).0)) w
    (λ l. either (codes_filed k h ws) (eqb (32 + group_of g_group (g_code w.value) % 16) k) (unwrap_or (g_code w.value) 0) (omega (arith, up_to 999 (tenth w.value))))
    (λ l. either (codes_filed k h ws) (eqb (48 + group_of m_group (m_code w.value) % 16) k) (unwrap_or (m_code w.value) 0) (omega (arith, up_to 99 (whole w.value))))
    (λ l g. rw (ne_eqb (w.letter % 32) k (λ e. omega arith)) (codes_filed k h ws))
  where
    either : T (is_code (amount (first k (entries ws))).0) → (b : Bool) (n : ℕ) → n < 1000 → T (is_code (amount (cond b (Some (record { 0 = pos n })) (first k (entries ws)))).0)
    either r true n g = lt→ltb n 1000 g
    either r false n g = r
