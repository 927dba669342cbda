use Rattle.std.proofs.Common.{refl, arith}
use Rattle.run.specs.Stands.{stand}
use Rattle.run.proofs.Within.{feeds_within}
use Rattle.cases.proofs.work_part.Goals as goal

pub shared_ref_as_front-write_all : goal.shared_ref_as_front-write_all
shared_ref_as_front-write_all g c =
    let l = c.loop-rest in
    let f = c.feed-fed in
    let fed = feeds_within (stand l.state l.spaces.line l.spaces.table l.spaces.out l.spaces.text 0) l.rest.now refl f.ensures in
    omega (arith, fed.1)

pub slice_bounds-rest-count : goal.slice_bounds-rest-count
slice_bounds-rest-count g c =
    let l = c.loop-rest in
    let f = c.feed-fed in
    let fed = feeds_within (stand l.state l.spaces.line l.spaces.table l.spaces.out l.spaces.text 0) l.rest.now refl f.ensures in
    omega (arith, fed.0)

pub slice_bounds-rest-start : goal.slice_bounds-rest-start
slice_bounds-rest-start g c =
    let l = c.loop-rest in
    let f = c.feed-fed in
    let fed = feeds_within (stand l.state l.spaces.line l.spaces.table l.spaces.out l.spaces.text 0) l.rest.now refl f.ensures in
    fed.0
