-- `parameters::places::stands_for` meets its contract: by the ranges of numbers, and what lies in none stands for nothing.
-- Assumes nothing.
use mathlib.Core.Path.{◌∙◌}
use native.Mathlib.Omega.{arith}
use Rattle.parameters.proofs.Standing.{none_there, entry_there, offset_there, system_there, origin_there}
use Rattle.parameters.proofs.places.stands_for.Goals as goal

pub returns-in-5220 : goal.returns-in-5220
returns-in-5220 c = system_there c.args.number c.in-5220.is

pub returns-in-1-to-4999 : goal.returns-in-1-to-4999
returns-in-1-to-4999 c = entry_there c.args.number (omega arith) (omega arith)

pub returns-in-5211-to-5213 : goal.returns-in-5211-to-5213
returns-in-5211-to-5213 c = offset_there c.args.number (omega arith) (omega arith)

pub returns-in-5221-to-5383 : goal.returns-in-5221-to-5383
returns-in-5221-to-5383 c = c.origin_at.ensures ∙ origin_there c.args.number (omega arith) (omega arith)

pub returns-in_default : goal.returns-in_default
returns-in_default c = none_there c.args.number (λ a b. omega arith) (λ a b. omega arith) (λ e. omega arith) (λ a b. omega arith)

pub returns-in_default-2 : goal.returns-in_default-2
returns-in_default-2 c = none_there c.args.number (λ a b. omega arith) (λ a b. omega arith) (λ e. omega arith) (λ a b. omega arith)

pub returns-in_default-3 : goal.returns-in_default-3
returns-in_default-3 c = none_there c.args.number (λ a b. omega arith) (λ a b. omega arith) (λ e. omega arith) (λ a b. omega arith)

pub returns-in_default-4 : goal.returns-in_default-4
returns-in_default-4 c = none_there c.args.number (λ a b. omega arith) (λ a b. omega arith) (λ e. omega arith) (λ a b. omega arith)
