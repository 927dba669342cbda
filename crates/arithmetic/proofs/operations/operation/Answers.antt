-- `arithmetic::operations::operation` meets its contract: case by case of the operator.
-- Assumes nothing.
use Rattle.rules.specs.Meaning.{operation}
use mathlib.Core.Path.{◌∙◌}
use Rattle.arithmetic.proofs.operations.operation.Goals as goal

pub returns-in-Add : goal.returns-in-Add
unfolding operation
returns-in-Add c = c.sum.ensures ∙ rw c.in-Add.is

pub returns-in-Sub : goal.returns-in-Sub
unfolding operation
returns-in-Sub c = c.difference.ensures ∙ rw c.in-Sub.is

pub returns-in-Mul : goal.returns-in-Mul
unfolding operation
returns-in-Mul c = c.product.ensures ∙ rw c.in-Mul.is

pub returns-in-Div : goal.returns-in-Div
unfolding operation
returns-in-Div c = c.quotient.ensures ∙ rw c.in-Div.is

pub returns-in-Mod : goal.returns-in-Mod
unfolding operation
returns-in-Mod c = c.modulo.ensures ∙ rw c.in-Mod.is

pub returns-in-And : goal.returns-in-And
unfolding operation
returns-in-And c = c.truth.ensures ∙ rw (c.is_true.ensures, c.is_true-in-And.ensures, c.in-And.is)

pub returns-in-Or : goal.returns-in-Or
unfolding operation
returns-in-Or c = c.truth-in-Or.ensures ∙ rw (c.is_true-in-Or.ensures, c.is_true-in-Or-2.ensures, c.in-Or.is)

pub returns-in-Xor : goal.returns-in-Xor
unfolding operation
returns-in-Xor c = c.truth-in-Xor.ensures ∙ rw (c.is_true-in-Xor.ensures, c.is_true-in-Xor-2.ensures, c.in-Xor.is)
