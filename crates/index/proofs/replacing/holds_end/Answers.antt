-- `index::replacing::holds_end` meets its contract.
-- Assumes nothing.
use mathlib.Core.Path.{◌≡◌, sym, ap, ◌∙◌}
use mathlib.Core.Bool.{Bool, true, ◌||◌}
use Rattle.index.proofs.Ending.{among_is}
use Rattle.grammar.specs.Bytes.{among}
use Rattle.index.proofs.replacing.holds_end.Goals as goal

pub returns-then-contains : goal.returns-then-contains
returns-then-contains c =
    let e : among 10 c.args.line.now ≡ true = sym (c.contains.ensures.value ∙ among_is 10 c.args.line.now) ∙ c.if-contains.true in
    c.if-contains.true ∙ sym (ap (λ (x : Bool). x || among 13 c.args.line.now) e)

pub returns-else-contains : goal.returns-else-contains
returns-else-contains c =
    c.contains-else-contains.ensures.value ∙ among_is 13 c.args.line.now
    ∙ sym (ap (λ (x : Bool). x || among 13 c.args.line.now) (sym (c.contains.ensures.value ∙ among_is 10 c.args.line.now) ∙ c.if-contains.false))
