-- `parameters::numerals::decimals_of` meets its contract.
-- Assumes nothing.
use Rattle.parameters.proofs.Puts.{Cutting}
use Rattle.parameters.proofs.numerals.decimals_of.Given as goal

abbrev pub invariant-loop-left : goal.invariant-loop-left
invariant-loop-left l = Cutting l.decimals l.number l.left l.rest
