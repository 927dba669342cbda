-- `checks::marks::on_plane` meets its contract.
-- Assumes nothing.
use Rattle.checks.proofs.Axes.{plane_axis}
use Rattle.checks.proofs.marks.on_plane.Goals as goal

pub either_axis-requires-clause-i_bound : goal.either_axis-requires-clause-i_bound
either_axis-requires-clause-i_bound c = rw c.plane_axes.ensures (plane_axis c.args.plane).0

pub either_axis-requires-clause-j_bound : goal.either_axis-requires-clause-j_bound
either_axis-requires-clause-j_bound c = rw c.plane_axes.ensures (plane_axis c.args.plane).1
