-- `codes::g_group` meets its contract: one test of the whole table.
-- Assumes nothing.
use mathlib.Core.Path.{◌∙◌, ap, sym}
use Rattle.rules.specs.Codes.{g_group, g_groups, listed_in, served}
use Rattle.codes.proofs.Tables.{entry, past}
use Rattle.codes.proofs.g_table.g_group.Goals as goal

pub returns-then-code-lt1000 : goal.returns-then-code-lt1000
unfolding g_group
returns-then-code-lt1000 c = c.served.ensures ∙ ap served (entry (listed_in g_groups) 1000 c.args.code c.if-code-lt1000.true)

pub returns : goal.returns
unfolding g_group
returns c = ap served (sym (past 1000 g_groups tt c.args.code c.if-code-lt1000.false))
