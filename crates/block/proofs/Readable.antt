-- The values of a line's words are in range where those that it is given with are.
-- Assumes nothing.
use mathlib.Core.Path.{◌≡◌, sym, subst}
use mathlib.Core.Bool.{Bool, true, false, cond, ◌&&◌}
use mathlib.Core.List.{List, [], ◌∷◌}
use Prim.Native.Nat.{ℕ, zero, suc, ◌≤◌}
use native.Mathlib.Omega.{arith}
use lib.Dec.{T, eqb, leb→le}
use lib.IntN.{ℤ, nat_abs}
use lib.ListN.{get_or}
use Rattle.std.specs.Prelude.{Option, None, Some}
use Rattle.laws.proofs.Bools.{and_left, and_right}
use Rattle.grammar.specs.Bytes.{byte}
use Rattle.grammar.specs.Grammar.{letter}
use Rattle.rules.specs.Numbers.{in_range}
use Rattle.rules.specs.Meaning.{Said}
use Rattle.rules.specs.Block.{amount, word, block_of}
use Rattle.rules.specs.declared.Value.{Value}
use Rattle.summary.specs.Words.{said, lettered}
use Rattle.block.specs.Bounds.{Ranged}
use Rattle.block.specs.Execution.{all_in_range}

-- every value is in range
abbrev all_ranged : List Said → Bool
all_ranged [] = true
all_ranged (w ∷ ws) = in_range w.value && all_ranged ws

both : (a b : Bool) → T a → T b → T (a && b)
both true b s t = t
both false b s t = s

lettered_ranged : (ls : List ℕ) (vs : List ℤ) → T (all_in_range vs) → T (all_ranged (lettered (said ls vs)))
lettered_ranged [] vs t = tt
lettered_ranged (l ∷ ls) [] t = tt
lettered_ranged (l ∷ ls) (v ∷ vs) t = go (letter l) (lettered_ranged ls vs (and_right (in_range v) (all_in_range vs) t))
  where
    go : (c : Bool) → T (all_ranged (lettered (said ls vs))) → T (all_ranged (cond c (record { letter = l; value = v } ∷ lettered (said ls vs)) (lettered (said ls vs))))
    go true h = both (in_range v) (all_ranged (lettered (said ls vs))) (and_left (in_range v) (all_in_range vs) t) h
    go false h = h

word_ranged : (b : ℕ) (ws : List Said) → T (all_ranged ws) → nat_abs (amount (word b ws)).0 ≤ 999999999
word_ranged b [] t = omega arith
word_ranged b (w ∷ ws) t =
    one (eqb w.letter b) (word b ws)
    (leb→le (nat_abs w.value) 999999999 (and_left (in_range w.value) (all_ranged ws) t))
    (word_ranged b ws (and_right (in_range w.value) (all_ranged ws) t))
  where
    one : (c : Bool) (v : Option Value) → nat_abs w.value ≤ 999999999 → nat_abs (amount v).0 ≤ 999999999 → nat_abs (amount (cond c (Some (record { 0 = w.value })) v)).0 ≤ 999999999
    one true v h k = h
    one false v h k = k

-- the words of a line whose values are all in range
of_words : (ws : List Said) → T (all_ranged ws) → Ranged (block_of ws)
unfolding block_of
of_words ws e = record {
  axes = three (byte "X") (byte "Y") (byte "Z");
  offsets = three (byte "I") (byte "J") (byte "K");
  f = word_ranged (byte "F") ws e;
  s = word_ranged (byte "S") ws e;
  t = word_ranged (byte "T") ws e;
  l = word_ranged (byte "L") ws e;
  p = word_ranged (byte "P") ws e;
}
  where
    three : (a b c i : ℕ) → nat_abs (amount (get_or (word a ws ∷ word b ws ∷ word c ws ∷ []) i None)).0 ≤ 999999999
    three a b c zero = word_ranged a ws e
    three a b c (suc zero) = word_ranged b ws e
    three a b c (suc (suc zero)) = word_ranged c ws e
    three a b c (suc (suc (suc i))) = omega arith

pub block_ranged : (ls : List ℕ) (vs : List ℤ) → all_in_range vs ≡ true → Ranged (block_of (lettered (said ls vs)))
block_ranged ls vs e = of_words (lettered (said ls vs)) (lettered_ranged ls vs (subst T (sym e) tt))
