-- `block::motion::centre` meets its contract.
-- Assumes nothing.
use mathlib.Core.Path.{refl, sym, ap, ◌∙◌}
use mathlib.Core.List.{List, map}
use Prim.Native.Nat.{ℕ}
use Rattle.std.specs.Prelude.{Some}
use Rattle.rules.specs.Arcs.{centre}
use Rattle.checks.proofs.Axes.{plane_two, plane_axis}
use Rattle.checks.proofs.Modes.{arc_move_by}
use Rattle.block.specs.Motion.{centre_on}
use Rattle.block.proofs.motion.centre.Goals as goal

pub returns-then-not-arc_move : goal.returns-then-not-arc_move
returns-then-not-arc_move c = rw (arc_move_by c.args.b c.args.m ∙ sym c.arc_move.ensures ∙ c.if-not-arc_move.true) refl

pub centre_at-requires-clause-i_bound : goal.centre_at-requires-clause-i_bound
centre_at-requires-clause-i_bound c = rw c.plane_axes.ensures (plane_axis c.args.m.plane).0

pub centre_at-requires-2-clause-i_bound : goal.centre_at-requires-2-clause-i_bound
centre_at-requires-2-clause-i_bound c = rw c.plane_axes.ensures (plane_axis c.args.m.plane).1

pub returns : goal.returns
unfolding centre
returns c =
    rw (arc_move_by c.args.b c.args.m ∙ sym c.arc_move.ensures ∙ c.if-not-arc_move.false, c.centre_at-2.ensures, c.centre_at.ensures, c.plane_axes.ensures)
    (ap (λ (is : List ℕ). Some (map (centre_on c.args.m.units c.args.b.offsets c.args.m.position) is)) (plane_two c.args.m.plane))
