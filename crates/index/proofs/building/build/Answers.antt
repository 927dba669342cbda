-- `index::building::build` meets its contract.
-- Assumes nothing.
use Prim.Native.Nat.{◌≤◌}
use lib.ListN.{length}
use Rattle.std.proofs.lemmas.Result.{err_from_is_err_and}
use Rattle.index.proofs.Handing.{long_text, built_index}
use Rattle.index.proofs.building.build.Goals as goal

pub returns-in_err-text : goal.returns-in_err-text
returns-in_err-text c =
    let p = err_from_is_err_and c.from_residual.result c.from_residual.ensures.1 in
    rw (p.1, p.2, c.in_err-text.ensures.0) (long_text c.args.text.now c.args.index.now c.in_err-text.ensures.1)

pub returns : goal.returns
returns c =
    let h : length c.in_ok-text.text.bytes.now ≤ 60000 = c.in_ok-text.text.short in
    built_index c.args.text.now c.args.index.now (rw c.in_ok-text.ensures at h) (rw c.in_ok-text.ensures at c.gather.ensures) c.hand_over.ensures.answer c.hand_over.ensures.index
