-- The summary of a line: its words by letter and its codes by group, in whatever order they stand.
-- Assumes nothing.
use Rattle.std.specs.Prelude.{Bool, false, cond, not, ◌||◌, ◌&&◌, List, [], ◌∷◌, ℕ, eqb, get_or, ℤ, pos, is_some, unwrap_or}
use Rattle.std.specs.Prelude.{Option, None, Some}
use Rattle.grammar.specs.Bytes.{byte, bytes, among}
use Rattle.rules.specs.Meaning.{Said}
use Rattle.rules.specs.Codes.{g_group, m_group, g_code, m_code, group_of}
use Rattle.rules.specs.declared.Value.{Value}
use Rattle.rules.specs.declared.Block.{Block}

-- the line's word of a letter, where it has one
abbrev pub word : ℕ → List Said → Option Value
word b [] = None
word b (w ∷ ws) = cond (eqb w.letter b) (Some (record { 0 = w.value })) (word b ws)

-- what a word counts: "a missing one counts 0"
abbrev pub amount : Option Value → Value
amount w = unwrap_or w (record { 0 = pos 0 })

-- the codes after G, or after M
abbrev pub codes : ℕ → (ℤ → Option ℕ) → List Said → List (Option ℕ)
codes b code [] = []
codes b code (w ∷ ws) = cond (eqb w.letter b) (code w.value ∷ codes b code ws) (codes b code ws)

unfoldable pub g_codes : List Said → List (Option ℕ)
g_codes ws = codes (byte "G") g_code ws

unfoldable pub m_codes : List Said → List (Option ℕ)
m_codes ws = codes (byte "M") m_code ws

-- the line's code of a group, where it has one
abbrev pub of_group : (ℕ → ℕ) → ℕ → List (Option ℕ) → Option ℕ
of_group group g [] = None
of_group group g (c ∷ cs) = cond (eqb (group_of group c) g) c (of_group group g cs)

-- the line's G code of a group, and its M code of a group
abbrev pub g_of : ℕ → List Said → Option ℕ
g_of n ws = of_group g_group n (g_codes ws)

abbrev pub m_of : ℕ → List Said → Option ℕ
m_of n ws = of_group m_group n (m_codes ws)

-- the summary
unfoldable pub block_of : List Said → Block
block_of ws = record {
  axes = word (byte "X") ws ∷ word (byte "Y") ws ∷ word (byte "Z") ws ∷ [];
  offsets = word (byte "I") ws ∷ word (byte "J") ws ∷ word (byte "K") ws ∷ [];
  f = word (byte "F") ws;
  s = word (byte "S") ws;
  t = word (byte "T") ws;
  l = word (byte "L") ws;
  p = word (byte "P") ws;
  once = g_of 0 ws;
  motion = g_of 1 ws;
  plane = g_of 2 ws;
  distance = g_of 3 ws;
  units = g_of 6 ws;
  system = g_of 12 ws;
  stop = m_of 4 ws;
  change = m_of 6 ws;
  spindle = m_of 7 ws;
  coolant = m_of 8 ws;
}

-- the letters other than G and M
abbrev pub other_letters : List Said → List ℕ
other_letters [] = []
other_letters (w ∷ ws) = cond (among w.letter (bytes "GM")) (other_letters ws) (w.letter ∷ other_letters ws)

-- one of the list stands in it twice; that it is so "exactly when there are fewer different letters than words" is the theorem `twice_is`
abbrev pub twice : List ℕ → Bool
twice [] = false
twice (x ∷ xs) = among x xs || twice xs

-- the words of an axis: 0 X, 1 Y, 2 Z, and 0 I, 1 J, 2 K
abbrev pub axis : Block → ℕ → Option Value
axis b i = get_or b.axes i None

abbrev pub offset : Block → ℕ → Option Value
offset b i = get_or b.offsets i None

-- that code is on the line; one of those is
abbrev pub has : Option ℕ → ℕ → Bool
has None n = false
has (Some c) n = eqb c n

abbrev pub has_one : Option ℕ → List ℕ → Bool
has_one None ns = false
has_one (Some c) ns = among c ns

-- one of these axes has a word
abbrev pub any_of : (ℕ → Option Value) → List ℕ → Bool
any_of w [] = false
any_of w (i ∷ is) = is_some (w i) || any_of w is

-- X, Y, Z
abbrev pub all_axes : List ℕ
all_axes = 0 ∷ 1 ∷ 2 ∷ []

-- the line has G4, G10, G53, G92 or G92.1
abbrev pub dwells : Block → Bool
dwells b = has b.once 40

abbrev pub sets_origin : Block → Bool
sets_origin b = has b.once 100

abbrev pub machine : Block → Bool
machine b = has b.once 530

abbrev pub sets_offset : Block → Bool
sets_offset b = has b.once 920

abbrev pub zeroes_offset : Block → Bool
zeroes_offset b = has b.once 921

-- the line has an axis word
abbrev pub names_axis : Block → Bool
names_axis b = any_of (axis b) all_axes

-- "G10 and G92 claim a line's axis words. Otherwise axis words make a move"
unfoldable pub moves : Block → Bool
moves b = names_axis b && not (sets_origin b || sets_offset b)

-- the line's code, "or else the record's"
abbrev pub or_else : Option ℕ → ℕ → ℕ
or_else c old = unwrap_or c old
