-- `block::motion::target` meets its contract.
-- Assumes nothing.
use mathlib.Core.Path.{refl, sym, ◌∙◌}
use Rattle.rules.specs.Steps.{target}
use Rattle.block.proofs.motion.target.Goals as goal

pub returns-then-not-moves : goal.returns-then-not-moves
returns-then-not-moves c = rw (sym c.moves.ensures ∙ c.if-not-moves.true) refl

pub returns : goal.returns
unfolding target
returns c =
    rw (
      sym c.moves.ensures ∙ c.if-not-moves.false,
      c.target_at-3.ensures,
      c.target_at-2.ensures,
      c.target_at.ensures,
    )
    refl
