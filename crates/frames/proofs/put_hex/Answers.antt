-- `frames::put_hex` meets its contract: what the text will be in the end stays the same from digit to digit.
-- Assumes nothing.
use mathlib.Core.Path.{◌≡◌, refl, ap, sym, ◌∙◌}
use Prim.Native.Nat.{ℕ}
use native.Mathlib.Omega.{arith}
use lib.Seq.{sets}
use lib.ListN.{length-set}
use Rattle.frames.proofs.Packed.{bytes_of, bytes_packed}
use Rattle.frames.proofs.Digits.{byte_put}
use Rattle.frames.proofs.put_hex.Goals as goal

pub loop-left-init : goal.loop-left-init
loop-left-init c =
    let same = ap (bytes_of c.args.digits) c.packed_digits-rest.ensures ∙ bytes_packed c.args.digits 8 c.args.number (omega arith) in
    (omega arith, refl, ap (sets c.args.text.now c.args.at) same)

pub loop-left-preserved : goal.loop-left-preserved
loop-left-preserved c =
    (omega arith, simp length-set (omega arith), byte_put c.loop-left.text c.args.at c.loop-left.left c.loop-left.rest (omega arith) ∙ c.loop-left.invariant.2)

pub returns : goal.returns
unfolding bytes_of
returns c =
    let last : c.loop-left.left ≡ 0 = omega arith in
    ap (λ (k : ℕ). sets c.loop-left.text c.args.at (bytes_of k c.loop-left.rest)) (sym last) ∙ c.loop-left.invariant.2
