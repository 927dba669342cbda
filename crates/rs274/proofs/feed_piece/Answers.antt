use Rattle.std.proofs.Common.{refl, arith, rules, [], ◌+◌, ◌-◌, length, take, drop, length-drop}
use Rattle.run.specs.Stands.{stand}
use Rattle.run.specs.Calls.{none}
use Rattle.std.proofs.lemmas.List.{length-take-le}
use Rattle.rs274.proofs.Calling.{one_call, at_err}
use Rattle.rs274.proofs.Onward.{goes_on}
use Rattle.rs274.proofs.feed_piece.Goals as goal

pub loop-taken-init : goal.loop-taken-init
loop-taken-init g c = (omega arith, search rules, search rules, ([], none))

pub shared_ref_as_front-write_all : goal.shared_ref_as_front-write_all
shared_ref_as_front-write_all g c =
    let l = c.loop-taken in
    let f = c.feed-fed in
    let fed = one_call c.args.piece.now l.taken _ _ _ l.invariant.0 l.invariant.3.1 l.invariant.1 (omega (arith, l.invariant.2)) f.ensures in
    omega (arith, fed.1, l.invariant.2)

pub returns-in_err-map_err : goal.returns-in_err-map_err
returns-in_err-map_err g c =
    let l = c.loop-taken in
    let f = c.feed-fed in
    let fed = one_call c.args.piece.now l.taken _ _ _ l.invariant.0 l.invariant.3.1 l.invariant.1 (omega (arith, l.invariant.2)) f.ensures in
    at_err _ _ _ c.from_residual.result c.from_residual.ensures.1 (l.taken + f.result.taken, f.result.state, fed.0, (_, fed.2), tt)

pub returns-then-after : goal.returns-then-after
returns-then-after g c =
    let l = c.loop-taken in
    let f = c.feed-fed in
    let fed = one_call c.args.piece.now l.taken _ _ _ l.invariant.0 l.invariant.3.1 l.invariant.1 (omega (arith, l.invariant.2)) f.ensures in
    (l.taken + f.result.taken, f.result.state, fed.0, (_, fed.2), c.if-after.true)

pub overflow_add-taken : goal.overflow_add-taken
overflow_add-taken g c =
    let l = c.loop-taken in
    let f = c.feed-fed in
    let fed = one_call c.args.piece.now l.taken _ _ _ l.invariant.0 l.invariant.3.1 l.invariant.1 (omega (arith, l.invariant.2)) f.ensures in
    omega (arith, fed.0)

pub loop-taken-preserved : goal.loop-taken-preserved
loop-taken-preserved g c =
    let l = c.loop-taken in
    let f = c.feed-fed in
    let fed = one_call c.args.piece.now l.taken _ _ _ l.invariant.0 l.invariant.3.1 l.invariant.1 (omega (arith, l.invariant.2)) f.ensures in
    (fed.0, omega (arith, l.invariant.1, f.auto.out), omega (arith, l.invariant.2, f.auto.text), (_, fed.2))

pub loop-taken-smaller : goal.loop-taken-smaller
loop-taken-smaller g c =
    let l = c.loop-taken in
    let f = c.feed-fed in
    let fed = one_call c.args.piece.now l.taken _ _ _ l.invariant.0 l.invariant.3.1 l.invariant.1 (omega (arith, l.invariant.2)) f.ensures in
    let rest = drop l.taken c.args.piece.now in
    let left = length-take-le (length c.args.piece.now - l.taken) rest (omega (arith, length-drop l.taken c.args.piece.now)) in
    let more = goes_on (stand l.state l.spaces.line l.spaces.table l.spaces.out l.spaces.text 0) (take (length c.args.piece.now - l.taken) rest) refl (omega (arith, l.invariant.2)) (omega (arith, left)) f.ensures c.if-after.false in
    omega (arith, fed.0, more)
