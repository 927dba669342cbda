-- Where a line goes, told from what its target and its centre read of line and record.
-- Assumes nothing.
use Rattle.std.specs.Prelude.{cond, List, ◌∷◌, ◌++◌, ℕ, ◌/◌, eqb, pos, Option, None, Some, option_map}
use Rattle.std.specs.Bool.{then_some}
use Rattle.rules.specs.Block.{amount, moves}
use Rattle.rules.specs.Reach.{converted, ◌plus◌, at}
use Rattle.rules.specs.Steps.{motion_of, target}
use Rattle.rules.specs.Arcs.{arc_move, centre}
use Rattle.rules.specs.Commands.{command, numbers}
use Rattle.rules.specs.declared.Length.{Length}
use Rattle.rules.specs.declared.Value.{Value}
use Rattle.rules.specs.declared.Block.{Block}
use Rattle.rules.specs.declared.Record.{Record}
use Rattle.rules.specs.declared.Command.{Command}
use Rattle.checks.specs.Modes.{word_at}
use Rattle.block.specs.declared.motion.Travel.{Travel}

-- an axis of a centre; `centre_at` of the rules is this of the line's words and the record's position
abbrev pub centre_on : ℕ → List (Option Value) → List Length → ℕ → Length
centre_on units offsets here i = at here i plus converted units (amount (word_at offsets i))

-- where a line ends: its position where it does not move
abbrev pub end_of : Block → Record → List Length
end_of b m = cond (moves b) (target b m) m.position

-- where a line goes, where it moves; and about which centre, where it moves by an arc
abbrev pub travel_of : Block → Record → Travel
travel_of b m = record { motion = motion_of b m; to = then_some (moves b) (target b m); centre = then_some (arc_move b m) (centre b m) }

-- the command of a move to there, in that plane, and about the centre if there is one
abbrev pub move_to : ℕ → ℕ → Option (List Length) → List Length → Command
move_to motion plane None to = command (cond (eqb motion 0) 8 9) (numbers to)
move_to motion plane (Some middle) to = command 10 (pos (motion / 10) ∷ pos (plane / 10) ∷ numbers to ++ numbers middle)

-- the command of a line that goes so, in that plane
abbrev pub move_by : Travel → ℕ → Option Command
move_by t plane = option_map (move_to t.motion plane t.centre) t.to
