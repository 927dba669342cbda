-- What is held when all words are passed is the summary of the words.
-- Assumes nothing.
use mathlib.Core.Path.{◌≡◌, sym, subst, ap, ap₂, ◌∙◌}
use mathlib.Core.Bool.{◌&&◌, ◌||◌}
use mathlib.Core.List.{List, [], ◌∷◌}
use Prim.Native.Nat.{ℕ, ◌+◌, ◌%◌}
use lib.Dec.{T, ltb}
use lib.Count.{ones}
use Rattle.std.specs.Prelude.{Option}
use Rattle.rules.specs.Meaning.{Said}
use Rattle.rules.specs.Block.{amount, word, g_of, m_of, block_of, sets_offset, sets_origin}
use Rattle.rules.specs.Refusals.{moving_code, unserved, doubled}
use Rattle.rules.specs.declared.Value.{Value}
use Rattle.summary.specs.declared.filing.Filed.{Filed}
use Rattle.summary.specs.Words.{summary_of}
use Rattle.summary.specs.Keys.{seen, slot, code_in, CodesIn, is_code, block_by, summary_by}
use Rattle.summary.proofs.Held.{AllLettered}
use Rattle.summary.proofs.Entries.{entries, g_among, m_among, g_filed, m_filed, is_plain, letter_filed, keys_twice, codes_filed}
use Rattle.summary.proofs.Kept.{Kept, slot_first, seen_among, ones_fewer}

module _ (ws : List Said) {number : ℕ} {filed : Filed} (f : Kept (entries ws) [] number filed) where
  pub codes_in : CodesIn filed
  codes_in = record { codes = λ k h s. rw s at (subst (λ (w : Option Value). T (is_code (amount w).0)) (sym (slot_first f k)) (codes_filed k h ws)) }

  unserved_is : (seen filed.mask 47 || seen filed.mask 63) ≡ unserved ws
  unfolding unserved
  unserved_is = ap₂ ◌||◌ (seen_among f 47 ∙ g_among 255 tt ws) (seen_among f 63 ∙ m_among 255 tt ws)

  module _ (t : AllLettered ws) where
    block_is : block_by (slot filed) ≡ block_of ws
    unfolding block_of
    block_is = λ i. record {
      axes = at 88 tt i ∷ at 89 tt i ∷ at 90 tt i ∷ [];
      offsets = at 73 tt i ∷ at 74 tt i ∷ at 75 tt i ∷ [];
      f = at 70 tt i;
      s = at 83 tt i;
      t = at 84 tt i;
      l = at 76 tt i;
      p = at 80 tt i;
      once = gs 0 tt i;
      motion = gs 1 tt i;
      plane = gs 2 tt i;
      distance = gs 3 tt i;
      units = gs 6 tt i;
      system = gs 12 tt i;
      stop = ms 4 tt i;
      change = ms 6 tt i;
      spindle = ms 7 tt i;
      coolant = ms 8 tt i;
    }
      where
        at : (b : ℕ) → T (is_plain b) → slot filed (b % 32) ≡ word b ws
        at b p = slot_first f (b % 32) ∙ letter_filed b p ws t

        gs : (g : ℕ) → T (ltb g 15) → code_in (slot filed (32 + g % 16)) ≡ g_of g ws
        gs g p = ap code_in (slot_first f (32 + g % 16)) ∙ g_filed g p ws

        ms : (g : ℕ) → T (ltb g 15) → code_in (slot filed (48 + g % 16)) ≡ m_of g ws
        ms g p = ap code_in (slot_first f (48 + g % 16)) ∙ m_filed g p ws

    pub summary_is : summary_by filed (ltb (ones filed.mask) number) ≡ summary_of ws
    unfolding doubled
    summary_is = λ i. record {
      block = block_is i;
      unserved = unserved_is i;
      doubled = (ones_fewer f ∙ keys_twice ws t) i || moving_code (block_is i) && (sets_origin (block_is i) || sets_offset (block_is i));
    }
