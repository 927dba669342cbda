-- `record::in_reach` meets its contract.
-- Assumes nothing.
use mathlib.Core.Path.{◌∙◌}
use borrow.Author.Rules.{rules}
use borrow.Author.Tests.{tests}
use Rattle.std.proofs.lemmas.Iterator.{YieldsList-from_slice}
use Rattle.std.proofs.lemmas.Iterator.Search.{all_from_yields_List}
use Rattle.rules.specs.Numbers.{within}
use Rattle.rules.specs.declared.Length.{Length}
use Rattle.record.proofs.Reach.{all_is}
use Rattle.record.proofs.in_reach.Goals as goal

pub returns : goal.returns
returns c =
    all_from_yields_List (λ (l : Length). within 1000000000 l.0) _ _ _ c.all.ensures.ran (YieldsList-from_slice c.args.places.now cc) (λ x b q k. search (rules, tests))
    ∙ all_is c.args.places.now
