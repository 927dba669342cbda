use mathlib.Core.Path.{◌≡◌, sym, ◌∙◌}
use native.Mathlib.Omega.{arith}
use Rattle.std.specs.Prelude.{Err}
use Rattle.std.proofs.Common.{rules}
use Rattle.reader.proofs.Gathering.{check_on, check_more, check_wrong, check_end}
use Rattle.reader.proofs.line.check_from.Goals as goal

pub returns-in_err-i : goal.returns-in_err-i
returns-in_err-i c =
    let z : c.from_residual.result ≡ Err c.in_err-i.field-0.0 = search rules in
    rw z (check_wrong c.loop-i.invariant c.loop-i-test.true (sym c.in_err-i.was ∙ c.item_end.ensures))

pub loop-i-smaller : goal.loop-i-smaller
loop-i-smaller c = let k = check_on c.loop-i.invariant c.loop-i-test.true (sym c.in_ok-i.was ∙ c.item_end.ensures) in omega (arith, k)

pub loop-i-preserved : goal.loop-i-preserved
loop-i-preserved c = check_more c.loop-i.invariant c.loop-i-test.true (sym c.in_ok-i.was ∙ c.item_end.ensures)

pub returns : goal.returns
returns c = check_end c.loop-i.invariant c.loop-i-test.false
