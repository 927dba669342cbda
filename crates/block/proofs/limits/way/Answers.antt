-- `block::limits::way` meets its contract.
-- Assumes nothing.
use native.Mathlib.Omega.{arith}
use borrow.Author.Rules.{rules}
use Rattle.checks.proofs.Axes.{plane_axis}
use Rattle.block.proofs.Ways.{way_is}
use Rattle.block.proofs.limits.way.Goals as goal

pub offset_bounds-place-i : goal.offset_bounds-place-i
offset_bounds-place-i c = let h = rw (← c.plane_axes.ensures) at (plane_axis c.args.plane) in omega arith

pub bounds-place-i : goal.bounds-place-i
bounds-place-i c = let h = rw (← c.plane_axes.ensures) at (plane_axis c.args.plane) in omega arith

pub offset_bounds-place-j : goal.offset_bounds-place-j
offset_bounds-place-j c = let h = rw (← c.plane_axes.ensures) at (plane_axis c.args.plane) in omega arith

pub bounds-place-j : goal.bounds-place-j
bounds-place-j c = let h = rw (← c.plane_axes.ensures) at (plane_axis c.args.plane) in omega arith

pub returns : goal.returns
returns c =
    rw (c.subtract-2.ensures, c.subtract.ensures, c.plane_axes.ensures) (way_is c.args.place c.args.plane c.args.centre c.requires.place_value (search rules) c.requires.centre_value)
