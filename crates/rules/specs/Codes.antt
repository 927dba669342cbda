-- The codes served, by modal group as document 01 lists them. G codes are held as ten times the code.
-- Assumes nothing.
use Rattle.std.specs.Prelude.{cond, List, [], ◌∷◌, ℕ, zero, suc, eqb, ℤ, Option, None, Some}
use Rattle.grammar.specs.Bytes.{among}
use Rattle.rules.specs.Numbers.{whole, tenth, between, counted}

-- a modal group: its number and its codes
infix 25 ◌holds◌
pub data Group : Type 0 where
  ◌holds◌ : ℕ → List ℕ → Group

-- what stands for the group of a code that is not served
abbrev pub not_served : ℕ
not_served = 255

-- the group that a code is listed in
abbrev pub listed_in : List Group → ℕ → ℕ
listed_in [] code = not_served
listed_in ((g holds codes) ∷ gs) code = cond (among code codes) g (listed_in gs code)

-- the nine work systems in order: G54 G55 G56 G57 G58 G59 G59.1 G59.2 G59.3
abbrev pub systems : List ℕ
systems = 540 ∷ 550 ∷ 560 ∷ 570 ∷ 580 ∷ 590 ∷ 591 ∷ 592 ∷ 593 ∷ []

-- "G groups: 0: 4 10 53 92 92.1; 1: 0 1 2 3 80; 2: 17 18 19; 3: 90 91; 5: 94; 6: 20 21; 7: 40; 8: 49; 12: 54 55 56 57 58 59 59.1 59.2 59.3"
abbrev pub g_groups : List Group
g_groups =
    (0 holds (40 ∷ 100 ∷ 530 ∷ 920 ∷ 921 ∷ []))
    ∷ (1 holds (0 ∷ 10 ∷ 20 ∷ 30 ∷ 800 ∷ []))
    ∷ (2 holds (170 ∷ 180 ∷ 190 ∷ []))
    ∷ (3 holds (900 ∷ 910 ∷ []))
    ∷ (5 holds (940 ∷ []))
    ∷ (6 holds (200 ∷ 210 ∷ []))
    ∷ (7 holds (400 ∷ []))
    ∷ (8 holds (490 ∷ []))
    ∷ (12 holds systems)
    ∷ []

-- "M groups: 4: 0 1 2 30; 6: 6; 7: 3 4 5; 8: 7 8 9"
abbrev pub m_groups : List Group
m_groups =
    (4 holds (0 ∷ 1 ∷ 2 ∷ 30 ∷ []))
    ∷ (6 holds (6 ∷ []))
    ∷ (7 holds (3 ∷ 4 ∷ 5 ∷ []))
    ∷ (8 holds (7 ∷ 8 ∷ 9 ∷ []))
    ∷ []

-- the group of ten times a G code, and of an M code
unfoldable pub g_group : ℕ → ℕ
g_group code = listed_in g_groups code

unfoldable pub m_group : ℕ → ℕ
m_group code = listed_in m_groups code

-- a group, where it is one: the group of a code that is served
abbrev pub served : ℕ → Option ℕ
served g = cond (eqb g not_served) None (Some g)

-- the code that a value counts as, where its table has that entry
abbrev pub code_up_to : ℕ → Option ℤ → Option ℕ
code_up_to last n = cond (between 0 last n) (Some (counted n)) None

-- "One table of 1,000 entries, by ten times the code"; "a G number likewise at the nearest tenth"
unfoldable pub g_code : ℤ → Option ℕ
g_code v = code_up_to 999 (tenth v)

-- "from a table of 100 entries"; "Where a whole number is wanted"
unfoldable pub m_code : ℤ → Option ℕ
m_code v = code_up_to 99 (whole v)

-- "A code outside its table, or near no tenth (M: no whole number), is not served"
abbrev pub group_of : (ℕ → ℕ) → Option ℕ → ℕ
group_of group None = not_served
group_of group (Some c) = group c

-- one place further on; no place stays none
abbrev pub further : ℕ → ℕ
further zero = zero
further (suc n) = suc (suc n)

-- the place of a code in a list, the first being 1; 0 where it is not there
abbrev pub place_in : List ℕ → ℕ → ℕ
place_in [] code = 0
place_in (x ∷ xs) code = cond (eqb code x) 1 (further (place_in xs code))

-- "G59 is system 6, G59.1 system 7"
unfoldable pub system_number : ℕ → ℕ
system_number code = place_in systems code

-- a number counted from 1, where it is one
abbrev pub numbered : ℕ → Option ℕ
numbered zero = None
numbered (suc n) = Some (suc n)
