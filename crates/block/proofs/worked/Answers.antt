-- `block::worked` meets its contract: the numbers in their order.
-- Assumes nothing.
use mathlib.Core.Path.{◌≡◌, sym, ap, ◌∙◌}
use mathlib.Core.List.{List}
use lib.ListN.{take}
use Rattle.rules.specs.Meaning.{Said}
use Rattle.rules.specs.Block.{block_of}
use Rattle.rules.specs.Refusals.{unserved, doubled}
use Rattle.summary.specs.Words.{summary_of}
use Rattle.summary.specs.declared.Summary.{Summary}
use Rattle.block.proofs.Order.{number_1, number_5, number_8, number_9, numbers_after}
use Rattle.block.proofs.Readable.{block_ranged}
use Rattle.block.proofs.worked.Goals as goal

-- what the summary of a line's words says of them
module _ (words : List Said) {line : Summary} (e : line ≡ summary_of words) where
  unserved_is : unserved words ≡ line.unserved
  unserved_is = sym (ap (λ (s : Summary). s.unserved) e)

  doubled_is : doubled words (block_of words) ≡ line.doubled
  doubled_is = sym (ap (λ (s : Summary). s.doubled) e)

  block_is : line.block ≡ block_of words
  block_is = ap (λ (s : Summary). s.block) e

pub returns-then-not-in_order : goal.returns-then-not-in_order
returns-then-not-in_order c =
    number_1 (take c.args.count c.args.letters.now) (take c.args.count c.args.values.now) c.args.rec c.args.out.now
    (sym c.in_order.ensures ∙ c.if-not-in_order.true)

pub returns-then-not-all_ranged : goal.returns-then-not-all_ranged
returns-then-not-all_ranged c =
    number_5 (take c.args.count c.args.letters.now) (take c.args.count c.args.values.now) c.args.rec c.args.out.now
    (sym c.in_order.ensures ∙ c.if-not-in_order.false)
    (sym c.all_ranged.ensures ∙ c.if-not-all_ranged.true)

pub returns-then-line : goal.returns-then-line
returns-then-line c =
    number_8 (take c.args.count c.args.letters.now) (take c.args.count c.args.values.now) c.args.rec c.args.out.now (sym c.in_order.ensures ∙ c.if-not-in_order.false) (sym c.all_ranged.ensures ∙ c.if-not-all_ranged.false) (unserved_is _ c.summarize-line.ensures ∙ c.if-line.true)

pub returns-then-line-2 : goal.returns-then-line-2
returns-then-line-2 c =
    number_9 (take c.args.count c.args.letters.now) (take c.args.count c.args.values.now) c.args.rec c.args.out.now (sym c.in_order.ensures ∙ c.if-not-in_order.false) (sym c.all_ranged.ensures ∙ c.if-not-all_ranged.false)
    (unserved_is _ c.summarize-line.ensures ∙ c.if-line.false) (doubled_is _ c.summarize-line.ensures ∙ c.if-line-2.true)

pub work-requires-clause-ranged : goal.work-requires-clause-ranged
work-requires-clause-ranged c = rw (block_is _ c.summarize-line.ensures) (block_ranged (take c.args.count c.args.letters.now) (take c.args.count c.args.values.now) (sym c.all_ranged.ensures ∙ c.if-not-all_ranged.false))

pub returns : goal.returns
returns c =
    rw (block_is _ c.summarize-line.ensures) at c.work.ensures
    ∙ numbers_after (take c.args.count c.args.letters.now) (take c.args.count c.args.values.now) c.args.rec c.args.out.now (sym c.in_order.ensures ∙ c.if-not-in_order.false) (sym c.all_ranged.ensures ∙ c.if-not-all_ranged.false)
    (unserved_is _ c.summarize-line.ensures ∙ c.if-line.false) (doubled_is _ c.summarize-line.ensures ∙ c.if-line-2.false)
