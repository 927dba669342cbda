use Rattle.std.proofs.Common.{arith, rules, [], take}
use Rattle.std.proofs.KnownBytes.{Consumes-nil, Keeps-refl}
use Rattle.rs274.proofs.Calling.{uncalled, fed_on, fed_part, nothing_more, no_more, at_err}
use Rattle.rs274.proofs.feed_input.Goals as goal

pub loop-init : goal.loop-init
loop-init g c = ([], Consumes-nil _, uncalled c.args.spaces.now c.fresh-state.ensures)

pub returns-then-many-eq0 : goal.returns-then-many-eq0
returns-then-many-eq0 g c =
    let i = c.loop.invariant in
    let read = c.in_ok-many.ensures in
    (i.0, nothing_more _ _ _ i.0 c.next_piece.new.bytes c.in_ok-many.many c.if-many-eq0.true i.1 read.1.0, read.1.1 c.if-many-eq0.true (search rules), i.2)

pub returns-in_err-state : goal.returns-in_err-state
returns-in_err-state g c =
    let i = c.loop.invariant in
    let read = c.in_ok-many.ensures in
    let part = c.in_err-state.ensures in
    at_err _ _ _ c.from_residual-in_err-state.result c.from_residual-in_err-state.ensures.1 (fed_part _ _ _ c.args.spaces.now c.loop.spaces c.feed_piece.new.spaces c.loop.state part.1 _ i.0 (take c.in_ok-many.many c.next_piece.new.bytes) part.0 (grind arith) i.1 i.2 read.1.0 part.3 part.4)

pub loop-preserved : goal.loop-preserved
loop-preserved g c =
    let i = c.loop.invariant in
    let read = c.in_ok-many.ensures in
    fed_on _ _ _ c.args.spaces.now c.loop.spaces c.feed_piece.new.spaces i.0 (take c.in_ok-many.many c.next_piece.new.bytes) (grind arith) i.1 i.2 read.1.0 c.in_ok-state.ensures

pub returns-in_err-many : goal.returns-in_err-many
returns-in_err-many g c =
    let i = c.loop.invariant in
    at_err _ _ _ c.from_residual.result c.from_residual.ensures.1 (i.0, [], c.loop.state, no_more _ _ _ i.0 i.1 c.in_err-many.ensures.1, i.2, tt)

pub returns : goal.returns
returns g c =
    let i = c.loop.invariant in
    (i.0, [], c.loop.state, no_more _ _ _ i.0 i.1 (Keeps-refl _), i.2, tt)
