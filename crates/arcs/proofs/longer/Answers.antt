-- `arcs::longer` meets its contract.
-- Assumes nothing.
use mathlib.Core.Path.{sym}
use native.Mathlib.Omega.{arith}
use Rattle.rules.proofs.Radii.{close}
use Rattle.arcs.proofs.Products.{by_products}
use Rattle.arcs.proofs.longer.Goals as goal

pub returns-then-a-b : goal.returns-then-a-b
returns-then-a-b c = sym (close c.args.slack c.args.a c.args.b 0 c.requires (omega arith) (omega arith))

pub returns : goal.returns
returns c = by_products c.args.slack c.args.a c.args.b (omega arith)
