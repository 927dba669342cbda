use Rattle.std.proofs.Common.{◌≡◌, refl, length, arith, rules}
use Rattle.run.specs.Stands.{stand}
use Rattle.run.proofs.Within.{closes_within}
use Rattle.rs274.proofs.Calling.{ran, over, at_err}
use Rattle.rs274.proofs.run_all.Goals as goal

pub shared_ref_as_front-write_all : goal.shared_ref_as_front-write_all
shared_ref_as_front-write_all g c =
    let s = c.feed_input.new.spaces in
    let f = c.finish-last in
    let long : length s.text ≡ 65536 = search rules in
    let room = closes_within (stand c.in_ok-state.state s.line s.table s.out s.text 0) refl f.ensures.0 in
    omega (arith, room, long)

pub returns : goal.returns
returns g c =
    let old = c.args.spaces.now in
    let s = c.feed_input.new.spaces in
    let f = c.finish-last in
    let fed = c.in_ok-state.ensures in
    let line : length old.line ≡ 257 = search rules in
    let out : length s.out ≡ 8000 = search rules in
    let text : length s.text ≡ 65536 = search rules in
    let run = ran old s c.in_ok-state.state (stand f.result.state s.line f.new.table f.new.out f.new.text f.result.filled) fed.0 (omega (arith, line)) c.requires out (omega (arith, text)) fed.3 f.ensures.0 in
    (fed.0, run.0, fed.1, fed.2, run.1)

pub returns-in_err-state : goal.returns-in_err-state
returns-in_err-state g c =
    let old = c.args.spaces.now in
    let part = c.in_err-state.ensures in
    let line : length old.line ≡ 257 = search rules in
    at_err _ _ _ c.from_residual.result c.from_residual.ensures.1 (over _ _ _ old c.feed_input.new.spaces part.2 part.0 part.1 (omega (arith, line)) c.requires part.3 part.4 part.5)
