-- Each `#`, `[` and function passes a byte or more and takes a level. The measure is three times the lesser of the bytes unread and the levels left,
-- and a rank of the three functions: calls nest no deeper than the levels allow, at most three to a level.
use mathlib.Core.Path.{◌≡◌}
use Prim.Native.Nat.{◌+◌, ◌-◌, ◌*◌, ◌≤◌, min}
use lib.ListN.{length}
use Rattle.grammar.proofs.Trees.{rest_t, expr_t}
use Rattle.reader.specs.Levels.{of_rest, of_expression}
use Rattle.reader.proofs.values.+value.Given as goal

abbrev pub decreases-expression_in : goal.decreases-expression_in
decreases-expression_in l = 3 * min (length l.text.now - l.at) l.levels + 2

abbrev pub decreases-other_value_in : goal.decreases-other_value_in
decreases-other_value_in l = 3 * min (length l.text.now - l.at) l.levels

abbrev pub decreases-value_in : goal.decreases-value_in
decreases-value_in l = 3 * min (length l.text.now - l.at) l.levels + 1

abbrev pub invariant-expression_in-loop-p : goal.invariant-expression_in-loop-p
invariant-expression_in-loop-p l = record {
  same : of_rest l.table l.levels l.state l.work (rest_t l.text l.i) ≡ of_expression l.table l.levels (expr_t l.text l.at);
  within : l.i ≤ length l.text;
  counted : l.at + l.work ≤ l.i;
}

abbrev pub decreases-expression_in-loop-p : goal.decreases-expression_in-loop-p
decreases-expression_in-loop-p l = length l.text - l.i
