-- `mend::repairs::put_remark` meets its contract: the byte behind the last is put.
-- Assumes nothing.
use mathlib.Core.Path.{◌≡◌, ap, ◌∙◌}
use mathlib.Core.List.{◌++◌}
use Prim.Native.Nat.{ℕ}
use native.Mathlib.Omega.{arith}
use lib.ListN.{length, take, drop}
use Rattle.mend.specs.Places.{remark_bytes}
use Rattle.mend.proofs.Placing.{bytes_end}
use Rattle.mend.proofs.repairs.put_remark.Goals as goal

pub returns : goal.returns
returns c =
    let n = length c.args.line.now in
    let e : n ≡ c.loop-i.i = omega arith in
    bytes_end c.args.line.now c.loop-i.out c.args.at n (omega arith) (omega arith)
    ∙ ap (λ (x : ℕ). take x c.loop-i.out ++ remark_bytes c.args.at x (drop x c.args.line.now)) e
    ∙ c.loop-i.invariant.2
