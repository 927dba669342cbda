-- The cutting of lines: a byte at a time, the carriage return, and lines that are too long.
-- Assumes nothing.
use mathlib.Core.Path.{◌≡◌, refl, sym, ap, subst, ◌∙◌}
use mathlib.Core.Bool.{Bool, true, false, cond}
use mathlib.Core.List.{List, [], ◌∷◌, ◌++◌}
use Prim.Native.Nat.{ℕ, suc, ◌+◌, ◌≤◌, ◌<◌}
use native.Mathlib.Omega.{arith}
use borrow.Author.Tests.{lt-ltb}
use lib.Dec.{eqb}
use lib.IntN.{ℤ, pos}
use lib.ListN.{length, length-append, replicate}
use Rattle.grammar.specs.Bytes.{byte}
use Rattle.grammar.specs.Grammar.{Line}
use Rattle.grammar.specs.Derivation.{Form}
use Rattle.grammar.specs.Working.{Contents}
use Rattle.rules.specs.Meaning.{Entry, reading, words}
use Rattle.rules.specs.Block.{block_of}
use Rattle.rules.specs.Refusals.{first}
use Rattle.rules.specs.Promise.{After, answer_to, numbers, by_number, taken, place_in, underived, leaving, disorder}
use Rattle.rules.specs.Frames.{without_return, cut, onward, refusal_frame, frames_from}
use Rattle.rules.specs.Named.{refusal_number, refusal_of}
use Rattle.rules.specs.declared.Record.{Record}
use Rattle.rules.specs.declared.Block.{Block}
use Rattle.rules.specs.declared.Answer.TheVariants.{Refused}

pub cut_byte : (l : List ℕ) (b : ℕ) (s : List ℕ) → cut l (b ∷ s) ≡ cond (eqb b (byte "\n")) (without_return l ∷ cut [] s) (cut (l ++ b ∷ []) s)
cut_byte [] b s = refl
cut_byte (c ∷ l) b s = refl

-- ---- a carriage return
-- at most one byte is dropped
return_long : (l : List ℕ) → length l ≤ length (without_return l) + 1
return_long [] = omega arith
return_long (b ∷ []) = by (eqb b (byte "\r"))
  where
    by : (t : Bool) → 1 ≤ length (cond t [] (b ∷ [])) + 1
    by true = omega arith
    by false = omega arith
return_long (b ∷ c ∷ l) = let ih = return_long (c ∷ l) in omega arith

-- ---- a long line
-- lines of which the first has more than n bytes
pub record Long (n : ℕ) (ls : List (List ℕ)) : Type 0 where
  pub first : List ℕ
  pub others : List (List ℕ)
  pub are : ls ≡ first ∷ others
  pub longer : n < length first

-- a line stays long, whatever comes behind it: its carriage return is one byte
pub stays_long : (n : ℕ) (l more : List ℕ) → suc (suc n) ≤ length l → Long n (cut l more)
stays_long n [] [] h = absurd (omega arith)
stays_long n (c ∷ l) [] h = record { first = c ∷ l; others = []; are = refl; longer = omega arith }
stays_long n l (b ∷ more) h =
    subst (Long n) (sym (cut_byte l b more)) (by (eqb b (byte "\n")) (stays_long n (l ++ b ∷ []) more (omega (arith, length-append l (b ∷ [])))))
  where
    by : (t : Bool) → Long n (cut (l ++ b ∷ []) more) → Long n (cond t (without_return l ∷ cut [] more) (cut (l ++ b ∷ []) more))
    by true later = record { first = without_return l; others = cut [] more; are = refl; longer = omega (arith, return_long l) }
    by false later = later

-- every line of more than 256 bytes is refused alike: with number 2, unless the record or the table is out of order
long_number : (wrong : Bool) (e : Contents Entry) (b : Block) (l : List ℕ) (switch : Bool) (r : Record) (table : List ℤ) (room : ℕ) → 256 < length l
    → first (numbers wrong e b l switch r table room) ≡ cond (disorder r table) 1 2
long_number wrong e b l switch r table room h = rw (lt-ltb 256 (length l) h)

long_refused : (f : Form (Contents Entry)) (l : List ℕ) (switch : Bool) (r : Record) (table out : List ℤ) → 256 < length l
    → answer_to f l switch r table out ≡ leaving (Refused (refusal_of (cond (disorder r table) 1 2))) r table out
unfolding answer_to
long_refused f l switch r table out h =
    ap (λ (n : ℕ). by_number n (place_in f) (taken f) (block_of (words (taken f).entries)) r table out) (long_number (underived f) (taken f) (block_of (words (taken f).entries)) l switch r table (length out) h)
    ∙ by (disorder r table) (place_in f) (taken f) (block_of (words (taken f).entries))
  where
    by : (t : Bool) (place : ℕ) (e : Contents Entry) (b : Block) → by_number (cond t 1 2) place e b r table out ≡ leaving (Refused (refusal_of (cond t 1 2))) r table out
    by true place e b = refl
    by false place e b = refl

numbered : (t : Bool) → refusal_number (refusal_of (cond t 1 2)) ≡ cond t 1 2
numbered true = refl
numbered false = refl

pub long_written : (tree : List ℕ → Form Line) (l : List ℕ) (ls : List (List ℕ)) (r : Record) (table : List ℤ) → 256 < length l
    → frames_from tree (l ∷ ls) r table ≡ refusal_frame (cond (disorder r table) 1 2)
long_written tree l ls r table h =
    ap (λ (a : After). onward a.outcome.answer a.out (frames_from tree ls a.outcome.rec a.table)) (long_refused (reading table (tree l)) l false r table (replicate 8000 (pos 0)) h)
    ∙ ap refusal_frame (numbered (disorder r table))
