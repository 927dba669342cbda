-- `texts::without_return` meets its contract: the last byte tells.
-- Assumes nothing.
use Rattle.texts.proofs.Spanning.{return_dropped, return_kept}
use Rattle.texts.proofs.without_return.Goals as goal

pub returns-in-Some : goal.returns-in-Some
returns-in-Some c = return_dropped _ _ _ c.in-Some.ensures.cases.0 c.if-last-eq13.true

pub returns-in_default : goal.returns-in_default
returns-in_default c = return_kept _ _ _ c.in-Some.ensures.cases.0 c.if-last-eq13.false
