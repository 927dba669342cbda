-- `summary::one_pass` meets its contract. The loop's invariant: what is filed and the number of words, with the words still ahead, come to what all the words
-- come to.
-- Assumes nothing.
use Prim.Native.Nat.{◌≤◌}
use Rattle.summary.specs.Words.{said, lettered}
use Rattle.summary.proofs.Held.{from}
use Rattle.summary.proofs.Entries.{entries}
use Rattle.summary.proofs.Kept.{Kept}
use Rattle.summary.proofs.one_pass.Given as goal

abbrev pub invariant-loop-i : goal.invariant-loop-i
invariant-loop-i l = (l.number ≤ l.i) × Kept (entries (lettered (said l.letters l.values))) (entries (lettered (from l.letters l.values l.i))) l.number l.filed
