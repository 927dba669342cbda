-- Words by their keys, below 64: a letter's is below 32, a G group's is 32 or more, an M group's 48 or more.
-- Assumes nothing.
use Rattle.std.specs.Prelude.{◌≡◌, Bool, true, false, cond, ◌&&◌, ◌||◌, List, [], ◌∷◌, ℕ, ◌+◌, ◌/◌, ◌%◌, ◌^◌, ◌≤◌, T, eqb, ltb, ℤ, pos, negsuc, nat_abs, get_or, set, bit_or}
use Rattle.std.specs.Prelude.{Option, None, Some, option_map, unwrap_or}
use Rattle.grammar.specs.Bytes.{byte}
use Rattle.rules.specs.Meaning.{Said}
use Rattle.rules.specs.Codes.{g_group, m_group, g_code, m_code, group_of}
use Rattle.rules.specs.Block.{sets_offset, sets_origin}
use Rattle.rules.specs.Refusals.{moving_code}
use Rattle.rules.specs.declared.Value.{Value}
use Rattle.rules.specs.declared.Block.{Block}
use Rattle.summary.specs.declared.Summary.{Summary}
use Rattle.summary.specs.declared.words.Entry.{Entry}
use Rattle.summary.specs.declared.filing.Filed.{Filed}

-- a code is filed under its group: 255, not served, is at 15
abbrev pub code_entry : ℕ → ℕ → Option ℕ → Entry
code_entry base group c = record { key = base + group % 16; value = pos (unwrap_or c 0) }

-- any other word is filed under its letter: A is 1 and Z 26
unfoldable pub entry_of : Said → Entry
entry_of w =
    cond (eqb w.letter (byte "G")) (code_entry 32 (group_of g_group (g_code w.value)) (g_code w.value))
    (cond (eqb w.letter (byte "M")) (code_entry 48 (group_of m_group (m_code w.value)) (m_code w.value))
    (record { key = w.letter % 32; value = w.value }))

-- the first of a key
abbrev pub first : ℕ → List Entry → Option Value
first k [] = None
first k (e ∷ es) = cond (eqb e.key k) (Some (record { 0 = e.value })) (first k es)

-- the key's bit of a mask is set
abbrev pub seen : ℕ → ℕ → Bool
seen mask k = eqb (mask / 2 ^ k % 2) 1

-- one entry more is filed: of two of one key the first is kept
abbrev pub keep : Filed → Entry → Filed
keep f e = record { mask = bit_or f.mask (2 ^ e.key); held = cond (seen f.mask e.key) f.held (set f.held e.key e.value) }

-- what is filed at a key
abbrev pub slot : Filed → ℕ → Option Value
slot f k = cond (seen f.mask k) (Some (record { 0 = get_or f.held k (pos 0) })) None

-- the code that is filed at a group's key
abbrev pub code_in : Option Value → Option ℕ
code_in w = option_map (λ v. nat_abs v.0) w

-- a number that can be one, and codes at all keys of groups that were seen
abbrev pub is_code : ℤ → Bool
is_code (pos n) = ltb n 1000
is_code (negsuc n) = false

pub record CodesIn (f : Filed) : Type 0 where
  pub codes : (k : ℕ) → 32 ≤ k → seen f.mask k ≡ true → T (is_code (get_or f.held k (pos 0)))

-- the summary of words that are filed
abbrev pub block_by : (ℕ → Option Value) → Block
block_by file = record {
  axes = file (byte "X" % 32) ∷ file (byte "Y" % 32) ∷ file (byte "Z" % 32) ∷ [];
  offsets = file (byte "I" % 32) ∷ file (byte "J" % 32) ∷ file (byte "K" % 32) ∷ [];
  f = file (byte "F" % 32);
  s = file (byte "S" % 32);
  t = file (byte "T" % 32);
  l = file (byte "L" % 32);
  p = file (byte "P" % 32);
  once = code_in (file 32);
  motion = code_in (file 33);
  plane = code_in (file 34);
  distance = code_in (file 35);
  units = code_in (file 38);
  system = code_in (file 44);
  stop = code_in (file 52);
  change = code_in (file 54);
  spindle = code_in (file 55);
  coolant = code_in (file 56);
}

abbrev pub summary_by : Filed → Bool → Summary
summary_by f fewer = record {
  block = block_by (slot f);
  unserved = seen f.mask 47 || seen f.mask 63;
  doubled = fewer || moving_code (block_by (slot f)) && (sets_origin (block_by (slot f)) || sets_offset (block_by (slot f)));
}
