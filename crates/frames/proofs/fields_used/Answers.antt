-- `frames::fields_used` meets its contract.
-- Assumes nothing.
use mathlib.Core.Path.{sym}
use native.Mathlib.Omega.{arith}
use Rattle.rules.specs.Frames.{fields_used}
use Rattle.frames.proofs.FieldsUsed.{three, one}
use Rattle.frames.proofs.fields_used.Goals as goal

pub returns-in-4 : goal.returns-in-4
unfolding fields_used
returns-in-4 c = (rw c.in-4.is, omega arith)

pub returns-in-10 : goal.returns-in-10
unfolding fields_used
returns-in-10 c = (rw c.in-10.is, omega arith)

pub returns-in-8 : goal.returns-in-8
returns-in-8 c = (sym (three c.args.kind (omega arith) (omega arith)), omega arith)

pub returns-in_default : goal.returns-in_default
returns-in_default c = (sym (one c.args.kind (λ e. omega arith) (λ e. omega arith) (λ e. omega arith) (λ e. omega arith)), omega arith)

pub returns-in_default-2 : goal.returns-in_default-2
returns-in_default-2 c = (sym (one c.args.kind (λ e. omega arith) (λ e. omega arith) (λ e. omega arith) (λ e. omega arith)), omega arith)
