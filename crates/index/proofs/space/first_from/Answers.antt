-- `index::space::first_from` meets its contract: the search goes on between low and high.
-- Assumes nothing.
use mathlib.Core.Path.{sym, ap, ◌∙◌}
use Prim.Native.Nat.{ℕ, ◌-◌}
use native.Mathlib.Omega.{arith}
use Rattle.index.specs.Held.{held, halved}
use Rattle.index.proofs.Halving.{halves_all, halve_up, halve_down}
use Rattle.index.proofs.space.first_from.Goals as goal

pub loop-low-init : goal.loop-low-init
loop-low-init c =
    (omega arith, omega (arith, c.count_in-high.ensures), ap (λ (x : ℕ). halved (x - 0) (held c.args.numbers.now) c.args.n 0 x) c.count_in-high.ensures ∙ halves_all (held c.args.numbers.now) c.args.n)

pub loop-low-preserved-then-entry_at-n : goal.loop-low-preserved-then-entry_at-n
loop-low-preserved-then-entry_at-n c =
    (omega arith, omega arith, sym (halve_up (held c.args.numbers.now) c.args.n c.loop-low.low c.loop-low.high c.loop-low-test.true (rw (← c.entry_at.ensures) c.if-entry_at-n.true)) ∙ c.loop-low.invariant.2)

pub loop-low-preserved : goal.loop-low-preserved
loop-low-preserved c =
    (omega arith, omega arith, sym (halve_down (held c.args.numbers.now) c.args.n c.loop-low.low c.loop-low.high c.loop-low-test.true (rw (← c.entry_at.ensures) c.if-entry_at-n.false)) ∙ c.loop-low.invariant.2)
