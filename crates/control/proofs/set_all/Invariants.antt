use mathlib.Core.Path.{◌≡◌}
use Rattle.control.proofs.Settings.{onward}
use Rattle.control.specs.Worked.{settings_of}
use Rattle.rules.specs.Promise.{apply}
use lib.ListN.{length, take}
use Rattle.control.proofs.set_all.Given as goal

abbrev pub invariant-loop-i : goal.invariant-loop-i
invariant-loop-i l = (length l.table ≡ length l.initial.table) × (apply (settings_of (take l.count l.numbers) (take l.count l.amounts)) l.initial.table ≡ apply (onward l.numbers l.amounts l.count l.i) l.table)
