-- `frames::put_hex` meets its contract: what the text will be in the end stays the same from digit to digit.
-- Assumes nothing.
use mathlib.Core.Path.{◌≡◌}
use Prim.Native.Nat.{◌≤◌}
use lib.Seq.{sets}
use lib.ListN.{length}
use Rattle.rules.specs.Frames.{hex}
use Rattle.frames.proofs.Packed.{bytes_of}
use Rattle.frames.proofs.put_hex.Given as goal

abbrev pub invariant-loop-left : goal.invariant-loop-left
invariant-loop-left l = (l.left ≤ l.digits) × (length l.text ≡ length l.initial.text) × (sets l.text l.at (bytes_of l.left l.rest) ≡ sets l.initial.text l.at (hex l.digits l.number))
