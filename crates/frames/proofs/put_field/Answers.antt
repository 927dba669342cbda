-- `frames::put_field` meets its contract: eight digits, and two before them.
-- Assumes nothing.
use Rattle.frames.proofs.Digits.{ten_put}
use Rattle.frames.proofs.put_field.Goals as goal

pub returns : goal.returns
returns c =
    ten_put c.args.text.now c.args.at c.args.number c.put_hex.ensures c.put_hex-2.ensures
