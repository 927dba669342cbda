use Rattle.std.proofs.Common.{◌≡◌, length}
use Rattle.cases.proofs.work_part.Given as goal

abbrev pub invariant-loop-rest : goal.invariant-loop-rest
invariant-loop-rest g l = length l.spaces.text ≡ 657

abbrev pub decreases-loop-rest : goal.decreases-loop-rest
decreases-loop-rest g l = length l.rest
