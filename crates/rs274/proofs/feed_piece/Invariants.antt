use Rattle.std.proofs.Common.{◌≡◌, ◌-◌, ◌≤◌, length, take}
use Rattle.rs274.specs.Feeding.{Called}
use Rattle.rs274.proofs.feed_piece.Given as goal

abbrev pub invariant-loop-taken : goal.invariant-loop-taken
invariant-loop-taken g l = (l.taken ≤ length l.piece) × (length l.spaces.out ≡ 8000) × (length l.spaces.text ≡ 65536) × Called l.fn.first l.fn.spaces (take l.taken l.piece) l.state l.spaces

abbrev pub decreases-loop-taken : goal.decreases-loop-taken
decreases-loop-taken g l = length l.piece - l.taken
