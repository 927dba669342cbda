-- `parameters::numerals::put_whole` meets its contract.
-- Assumes nothing.
use Rattle.parameters.proofs.Puts.{whole_put}
use Rattle.parameters.proofs.numerals.put_whole.Goals as goal

pub returns : goal.returns
returns c =
    whole_put c.args.text.now c.args.at c.args.number c.digit_count-count.ensures.0 c.put_digits.ensures
