-- A signed number as the machine's 64 bits hold it: its sign.
-- Assumes nothing.
use mathlib.Core.Path.{◌≡◌, refl}
use Prim.Native.Nat.{suc}
use native.Mathlib.Omega.{arith}
use lib.IntN.{ℤ, pos, negsuc}
use lib.Signed.{lt_z}
use mir.Syntax.{w64}
use mir.Val.{SFits, to_z, of_z}
use borrow.Author.Tests.{lt-leb}
use Rattle.laws.proofs.Ints.{back}
use Rattle.rules.specs.Numbers.{minus}

-- the number that is read back from a number's bits
abbrev pub bits : ℤ → ℤ
bits z = to_z w64 (of_z w64 z)

minus_test : (z : ℤ) → lt_z z (pos 0) ≡ minus z
minus_test (pos n) = lt-leb (suc n) 0 (omega arith)
minus_test (negsuc n) = refl

-- whether its bits are below zero is its sign
pub sign_test : (z : ℤ) → SFits w64 z → lt_z (bits z) (pos 0) ≡ minus z
sign_test z f = simp (back z f) (minus_test z)
