-- `lengths::converted` meets its contract: a value in range times 254 or 10 fits 64 bits.
-- Assumes nothing.
use borrow.Author.Tests.{eq-eqb, ne_eqb}
use Rattle.rules.specs.Reach.{converted}
use Rattle.laws.proofs.Ints.{fits_w, back_w, within_product, within_pos}
use Rattle.lengths.proofs.converted.Goals as goal

pub overflow_mul-result : goal.overflow_mul-result
overflow_mul-result c =
    simp (back_w c.requires tt) (fits_w (within_product c.requires (within_pos 254)) tt)

pub overflow_mul-result-else-units-eq200 : goal.overflow_mul-result-else-units-eq200
overflow_mul-result-else-units-eq200 c =
    simp (back_w c.requires tt) (fits_w (within_product c.requires (within_pos 10)) tt)

pub returns-then-units-eq200 : goal.returns-then-units-eq200
unfolding converted
returns-then-units-eq200 c =
    let q = within_product c.requires (within_pos 254) in
    simp (back_w c.requires tt, back_w q tt, eq-eqb c.args.units 200 c.if-units-eq200.true)

pub returns-else-units-eq200 : goal.returns-else-units-eq200
unfolding converted
returns-else-units-eq200 c =
    let q = within_product c.requires (within_pos 10) in
    simp (back_w c.requires tt, back_w q tt, ne_eqb c.args.units 200 c.if-units-eq200.false)
