use Prim.Native.Nat.{◌-◌}
use lib.ListN.{length}
use Rattle.grammar.proofs.Trees.{items_t}
use Rattle.reader.specs.Gather.{left_as}
use Rattle.reader.proofs.Gathering.{Gathered}
use Rattle.reader.proofs.line.gather.Given as goal

abbrev pub invariant-loop-letter : goal.invariant-loop-letter
invariant-loop-letter l =
    Gathered l.table l.text (left_as l.table l.initial.deep l.initial.stopped l.initial.words l.initial.settings l.initial.work l.initial.spaces (items_t l.text l.at)) l.spaces l.words l.settings l.work l.i l.deep l.stopped

abbrev pub decreases-loop-letter : goal.decreases-loop-letter
decreases-loop-letter l = length l.text - l.i
