use lib.ListN.{take}
use Rattle.reader.proofs.Numerals.{Passed}
use Rattle.reader.proofs.numbers.digits_before.Given as goal

abbrev pub invariant-loop-i : goal.invariant-loop-i
invariant-loop-i l = Passed (take l.end l.text) l.at l.number l.n l.i
