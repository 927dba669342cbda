-- `mend::whole::mend` meets its contract.
-- Assumes nothing.
use mathlib.Core.Path.{sym, ◌∙◌}
use Rattle.mend.proofs.AllPut.{whole_put, none_put}
use Rattle.mend.proofs.whole.mend.Goals as goal

pub put_lines-held-requires : goal.put_lines-held-requires
put_lines-held-requires c tree told = sym c.if-not-fits.false ∙ c.fits.ensures tree told

pub returns-then-not-fits : goal.returns-then-not-fits
returns-then-not-fits c = none_put c.args.text.now c.args.out.now c.args.list.now (λ tree told. sym c.if-not-fits.true ∙ c.fits.ensures tree told)

pub returns : goal.returns
returns c = whole_put c.args.text.now c.args.out.now c.args.list.now c.put_lines-held.result c.put_lines-held.new.out c.put_lines-held.new.list (λ tree told. sym c.if-not-fits.false ∙ c.fits.ensures tree told) c.put_lines-held.ensures
