-- `summary::one_pass` meets its contract. The loop's invariant: what is filed and the number of words, with the words still ahead, come to what all the words
-- come to.
-- Assumes nothing.
use mathlib.Core.Path.{◌≡◌, sym, ap, ◌∙◌}
use mathlib.Core.List.{List, []}
use Prim.Native.Nat.{ℕ, ◌≤◌}
use native.Mathlib.Omega.{arith}
use lib.IntN.{ℤ, pos}
use lib.ListN.{length, get_or}
use mir.Syntax.{w64}
use mir.Val.{SFits, to_z, of_z}
use mir.ValLaws.{to_z-of_z}
use borrow.Author.Rules.{rules}
use Rattle.rules.specs.Meaning.{Said}
use Rattle.summary.specs.Keys.{entry_of}
use Rattle.summary.specs.Words.{said, lettered}
use Rattle.summary.specs.declared.words.Entry.{Entry}
use Rattle.summary.specs.declared.filing.Filed.{Filed}
use Rattle.summary.proofs.Held.{from, all_passed, all_lettered}
use Rattle.summary.proofs.Entries.{entries, key_few, next_filed, next_passed}
use Rattle.summary.proofs.Kept.{Kept, keep_none, keep_one}
use Rattle.summary.proofs.Summed.{codes_in, summary_is}
use Rattle.summary.proofs.one_pass.Goals as goal
use Rattle.summary.proofs.one_pass.Goals.{then-is_letter, else-is_letter}

-- the word that a turn reads
abbrev read : List ℕ → List ℤ → ℕ → Said
read ls vs i = record { letter = get_or ls i 0; value = get_or vs i (pos 0) }

as_read : (ls : List ℕ) (vs : List ℤ) (i : ℕ) → SFits w64 (get_or vs i (pos 0)) → {e : Entry} → e ≡ entry_of (record { letter = get_or ls i 0; value = to_z w64 (of_z w64 (get_or vs i (pos 0))) }) → e ≡ entry_of (read ls vs i)
as_read ls vs i f e = e ∙ ap (λ (v : ℤ). entry_of (record { letter = get_or ls i 0; value = v })) (to_z-of_z w64 (get_or vs i (pos 0)) f)

pub loop-i-init : goal.loop-i-init
loop-i-init c = (omega arith, keep_none _)

pub keep-requires : goal.keep-requires
keep-requires c =
    rw (as_read c.args.letters.now c.args.values.now c.loop-i.i (search rules) c.entry_of.ensures) (key_few (read c.args.letters.now c.args.values.now c.loop-i.i))

-- the words from here on are none: all are passed
passed : (ls : List ℕ) (vs : List ℤ) (i : ℕ) → length ls ≤ i → {number : ℕ} {filed : Filed}
    → Kept (entries (lettered (said ls vs))) (entries (lettered (from ls vs i))) number filed → Kept (entries (lettered (said ls vs))) [] number filed
passed ls vs i h k = rw (all_passed ls vs i h) at k

pub loop-i-preserved : goal.loop-i-preserved
loop-i-preserved c =
    let told = sym c.is_letter.ensures in
    elim c.if-is_letter.branch [
      | then-is_letter w ↦
          let word = read c.args.letters.now c.args.values.now c.loop-i.i in
          let e = as_read c.args.letters.now c.args.values.now c.loop-i.i (search rules) w.entry_of.ensures in
          let filed = rw (next_filed c.args.letters.now c.args.values.now c.loop-i.i (omega arith) (omega arith) (told ∙ w.if-is_letter.true)) at c.loop-i.invariant.1 in
          rw (w.filed-is, w.number-is, w.keep.ensures, e) (omega arith, keep_one (entry_of word) (key_few word) filed)
      | else-is_letter w ↦
          rw (w.filed-is, w.number-is) (omega arith, rw (next_passed c.args.letters.now c.args.values.now c.loop-i.i (omega arith) (omega arith) (told ∙ w.if-is_letter.false)) at c.loop-i.invariant.1)
    ]

pub summary-requires : goal.summary-requires
summary-requires c =
    codes_in (lettered (said c.args.letters.now c.args.values.now)) (passed c.args.letters.now c.args.values.now c.loop-i.i c.loop-i-test.false c.loop-i.invariant.1)

pub returns : goal.returns
returns c =
    c.summary.ensures
    ∙ summary_is (lettered (said c.args.letters.now c.args.values.now)) (passed c.args.letters.now c.args.values.now c.loop-i.i c.loop-i-test.false c.loop-i.invariant.1) (all_lettered (said c.args.letters.now c.args.values.now))
