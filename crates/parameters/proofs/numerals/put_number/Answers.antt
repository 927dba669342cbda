-- `parameters::numerals::put_number` meets its contract.
-- Assumes nothing.
use mathlib.Core.Path.{sym, ap, ◌∙◌}
use mathlib.Core.List.{◌++◌}
use Prim.Native.Nat.{ℕ}
use lib.ListN.{length}
use Rattle.grammar.specs.Grammar.{write_number}
use Rattle.rules.specs.Numbers.{signed}
use native.Mathlib.Omega.{arith}
use Rattle.parameters.specs.Writing.{digits_of, shortest}
use Rattle.parameters.proofs.Puts.{sign_text, decimals_text, number_text, number_size, three_put}
use Rattle.parameters.proofs.numerals.put_number.Goals as goal

pub put_sign-first-requires : goal.put_sign-first-requires
put_sign-first-requires c =
    omega (arith, c.requires, number_size c.args.decimals c.args.negative c.args.size)

pub put_whole-point-requires : goal.put_whole-point-requires
put_whole-point-requires c =
    omega (arith, c.requires, number_size c.args.decimals c.args.negative c.args.size, c.put_sign-first.ensures.0, ap (λ (k : ℕ). length (digits_of k)) c.whole_part.ensures.0)

pub put_fraction-requires : goal.put_fraction-requires
put_fraction-requires c =
    omega (arith, c.requires, number_size c.args.decimals c.args.negative c.args.size, c.put_sign-first.ensures.0, c.put_whole-point.ensures.0, ap (λ (k : ℕ). length (digits_of k)) c.whole_part.ensures.0)

pub returns : goal.returns
returns c =
    let a = sign_text c.args.negative c.args.size in
    let d = decimals_text c.args.decimals c.args.size in
    three_put c.args.text.now c.args.at a (digits_of c.whole_part.result) d (write_number (shortest c.args.decimals (signed c.args.negative c.args.size)))
    (number_text c.args.decimals c.args.negative c.args.size ∙ ap (λ (k : ℕ). a ++ (digits_of k ++ d)) (sym c.whole_part.ensures.0))
    c.put_sign-first.ensures.0 c.put_sign-first.ensures.1 c.put_whole-point.ensures.0 c.put_whole-point.ensures.1 c.put_fraction.ensures.0 c.put_fraction.ensures.1
