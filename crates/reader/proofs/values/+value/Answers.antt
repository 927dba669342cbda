use mathlib.Core.Path.{refl, sym, ◌∙◌}
use Prim.Native.Nat.{◌-◌}
use native.Mathlib.Omega.{arith}
use Rattle.reader.proofs.Evaluating.{placed, because, parameter_end, bracket_end, function_end, operator_end}
use Rattle.reader.proofs.Levels.{value_number, value_deep, value_parameter, value_bracket, value_function, value_none, parameter_counted, bracket_counted, function_counted, expression_rest, rest_close, rest_none, rest_more, rest_deep, rest_wrong, fits_end, over_end}
use Rattle.reader.proofs.values.+value.Goals as goal

pub value_in-returns-then-opens_number : goal.value_in-returns-then-opens_number
value_in-returns-then-opens_number t c = value_number c.args.table.now c.args.text.now c.args.at c.args.levels (sym c.opens_number.ensures ∙ c.if-opens_number.true) c.number_at.ensures c.of_number.ensures

pub other_value_in-returns-then-levels-eq0 : goal.other_value_in-returns-then-levels-eq0
other_value_in-returns-then-levels-eq0 t c = value_deep c.args.table.now c.args.text.now c.args.at c.args.levels c.requires.1 c.if-levels-eq0.true c.pass_value.ensures c.too_deep.ensures

pub other_value_in-value_in-requires : goal.other_value_in-value_in-requires
other_value_in-value_in-requires t c =
    let k = parameter_end c.args.text.now c.args.at c.requires.0 (placed c.in-Ok-Parameter-default.is c.in-Ok-Parameter-default.field-0-0-is c.opening_at.ensures) in
    (omega arith, k.1)

pub other_value_in-entry_of-requires : goal.other_value_in-entry_of-requires
other_value_in-entry_of-requires t c = parameter_counted c.args.table.now c.args.text.now c.args.at c.args.levels c.requires.1 c.requires.0 (omega arith) (c.args.levels - 1) (placed c.in-Ok-Parameter-default.is c.in-Ok-Parameter-default.field-0-0-is c.opening_at.ensures) c.value_in.ensures

pub other_value_in-returns-in-Ok-Parameter-default : goal.other_value_in-returns-in-Ok-Parameter-default
other_value_in-returns-in-Ok-Parameter-default t c = value_parameter c.args.table.now c.args.text.now c.args.at c.args.levels c.requires.1 c.if-levels-eq0.false (placed c.in-Ok-Parameter-default.is c.in-Ok-Parameter-default.field-0-0-is c.opening_at.ensures) c.value_in.ensures c.entry_of.ensures

pub other_value_in-expression_in-requires : goal.other_value_in-expression_in-requires
other_value_in-expression_in-requires t c =
    let k = bracket_end c.args.text.now c.args.at c.requires.0 (placed c.in-Ok-Bracket-default.is c.in-Ok-Bracket-default.field-0-0-is c.opening_at.ensures) in
    (omega arith, (k.1, omega arith))

pub other_value_in-enclosed-requires : goal.other_value_in-enclosed-requires
other_value_in-enclosed-requires t c = bracket_counted c.args.table.now c.args.text.now c.args.at c.args.levels c.requires.1 c.requires.0 (omega arith) (c.args.levels - 1) (placed c.in-Ok-Bracket-default.is c.in-Ok-Bracket-default.field-0-0-is c.opening_at.ensures) c.expression_in.ensures

pub other_value_in-returns-in-Ok-Bracket-default : goal.other_value_in-returns-in-Ok-Bracket-default
other_value_in-returns-in-Ok-Bracket-default t c = value_bracket c.args.table.now c.args.text.now c.args.at c.args.levels c.requires.1 c.if-levels-eq0.false (placed c.in-Ok-Bracket-default.is c.in-Ok-Bracket-default.field-0-0-is c.opening_at.ensures) c.expression_in.ensures c.enclosed.ensures

pub other_value_in-expression_in-requires-in-Ok-Function-default : goal.other_value_in-expression_in-requires-in-Ok-Function-default
other_value_in-expression_in-requires-in-Ok-Function-default t c =
    let k = function_end c.args.text.now c.args.at c.requires.0 (placed c.in-Ok-Function-default.is c.in-Ok-Function-default.field-0-0-is c.opening_at.ensures) in
    (omega arith, (k.1, omega arith))

pub other_value_in-function_of-requires : goal.other_value_in-function_of-requires
other_value_in-function_of-requires t c = function_counted c.args.table.now c.args.text.now c.args.at c.args.levels c.requires.1 c.requires.0 (omega arith) (c.args.levels - 1) (placed c.in-Ok-Function-default.is c.in-Ok-Function-default.field-0-0-is c.opening_at.ensures) c.expression_in-in-Ok-Function-default.ensures

pub other_value_in-returns-in-Ok-Function-default : goal.other_value_in-returns-in-Ok-Function-default
other_value_in-returns-in-Ok-Function-default t c = value_function c.args.table.now c.args.text.now c.args.at c.args.levels c.requires.1 c.if-levels-eq0.false (placed c.in-Ok-Function-default.is c.in-Ok-Function-default.field-0-0-is c.opening_at.ensures) c.expression_in-in-Ok-Function-default.ensures c.function_of.ensures

pub other_value_in-returns-in-Err : goal.other_value_in-returns-in-Err
other_value_in-returns-in-Err t c = value_none c.args.table.now c.args.text.now c.args.at c.args.levels c.requires.1 (sym c.in-Err.is ∙ c.opening_at.ensures)

pub expression_in-loop-p-init : goal.expression_in-loop-p-init
expression_in-loop-p-init t c =
    let h = (sym c.in-Ok.is ∙ c.value_in.ensures) in
    let k = fits_end c.args.table.now c.args.text.now c.args.at c.args.levels c.requires.0 h in
    record { same = expression_rest c.args.table.now c.args.text.now c.args.at c.args.levels h refl; within = k.1; counted = k.0 }

pub expression_in-pass_rest-requires-in-Err-Deep-clause-at_in_bounds : goal.expression_in-pass_rest-requires-in-Err-Deep-clause-at_in_bounds
expression_in-pass_rest-requires-in-Err-Deep-clause-at_in_bounds t c = (over_end c.args.table.now c.args.text.now c.args.at c.args.levels c.requires.0 (because c.in-Err-Deep.is c.in-Err-Deep.field-0-is c.value_in.ensures)).1

pub expression_in-pass_rest-requires-in-Err-Deep-clause-at_nonzero : goal.expression_in-pass_rest-requires-in-Err-Deep-clause-at_nonzero
expression_in-pass_rest-requires-in-Err-Deep-clause-at_nonzero t c = omega (arith, over_end c.args.table.now c.args.text.now c.args.at c.args.levels c.requires.0 (because c.in-Err-Deep.is c.in-Err-Deep.field-0-is c.value_in.ensures))

pub expression_in-returns-in-Err : goal.expression_in-returns-in-Err
expression_in-returns-in-Err t c = rest_none c.args.table.now c.args.text.now c.loop-p.i c.args.levels c.loop-p.state c.loop-p.work (sym c.in-Err.is ∙ c.following_at.ensures) ∙ c.loop-p.invariant.same

pub expression_in-returns-in-Ok-Close-default : goal.expression_in-returns-in-Ok-Close-default
expression_in-returns-in-Ok-Close-default t c = rest_close c.args.table.now c.args.text.now c.loop-p.i c.args.levels c.loop-p.state c.loop-p.work (placed c.in-Ok-Close-default.is c.in-Ok-Close-default.field-0-0-is c.following_at.ensures) c.settled.ensures ∙ c.loop-p.invariant.same

pub expression_in-value_in-requires-in-Ok-Operator-default : goal.expression_in-value_in-requires-in-Ok-Operator-default
expression_in-value_in-requires-in-Ok-Operator-default t c =
    let k = operator_end c.args.text.now c.loop-p.i c.loop-p.invariant.within (placed c.in-Ok-Operator-default.is c.in-Ok-Operator-default.field-0-0-is c.following_at.ensures) in
    (omega arith, k.1)

pub expression_in-overflow_add-work : goal.expression_in-overflow_add-work
expression_in-overflow_add-work t c =
    let k = operator_end c.args.text.now c.loop-p.i c.loop-p.invariant.within (placed c.in-Ok-Operator-default.is c.in-Ok-Operator-default.field-0-0-is c.following_at.ensures) in
    let m = fits_end c.args.table.now c.args.text.now c.in-Ok-Operator-default.p c.args.levels k.1 (sym c.in-Ok-value_in.is ∙ c.value_in-in-Ok-Operator-default.ensures) in
    omega arith

pub expression_in-overflow_add-work-in-Ok-value_in : goal.expression_in-overflow_add-work-in-Ok-value_in
expression_in-overflow_add-work-in-Ok-value_in t c =
    let k = operator_end c.args.text.now c.loop-p.i c.loop-p.invariant.within (placed c.in-Ok-Operator-default.is c.in-Ok-Operator-default.field-0-0-is c.following_at.ensures) in
    let m = fits_end c.args.table.now c.args.text.now c.in-Ok-Operator-default.p c.args.levels k.1 (sym c.in-Ok-value_in.is ∙ c.value_in-in-Ok-Operator-default.ensures) in
    omega arith

pub expression_in-loop-p-smaller : goal.expression_in-loop-p-smaller
expression_in-loop-p-smaller t c =
    let k = operator_end c.args.text.now c.loop-p.i c.loop-p.invariant.within (placed c.in-Ok-Operator-default.is c.in-Ok-Operator-default.field-0-0-is c.following_at.ensures) in
    let m = fits_end c.args.table.now c.args.text.now c.in-Ok-Operator-default.p c.args.levels k.1 (sym c.in-Ok-value_in.is ∙ c.value_in-in-Ok-Operator-default.ensures) in
    omega arith

pub expression_in-loop-p-preserved : goal.expression_in-loop-p-preserved
expression_in-loop-p-preserved t c =
    let o = (placed c.in-Ok-Operator-default.is c.in-Ok-Operator-default.field-0-0-is c.following_at.ensures) in
    let v = (sym c.in-Ok-value_in.is ∙ c.value_in-in-Ok-Operator-default.ensures) in
    let k = operator_end c.args.text.now c.loop-p.i c.loop-p.invariant.within o in
    let m = fits_end c.args.table.now c.args.text.now c.in-Ok-Operator-default.p c.args.levels k.1 v in
    record {
      same = rest_more c.args.table.now c.args.text.now c.loop-p.i c.args.levels c.loop-p.state c.loop-p.work o v c.push.ensures refl ∙ c.loop-p.invariant.same;
      within = m.1;
      counted = omega arith;
    }

pub expression_in-pass_rest-requires-clause-at_in_bounds : goal.expression_in-pass_rest-requires-clause-at_in_bounds
expression_in-pass_rest-requires-clause-at_in_bounds t c =
    let k = operator_end c.args.text.now c.loop-p.i c.loop-p.invariant.within (placed c.in-Ok-Operator-default.is c.in-Ok-Operator-default.field-0-0-is c.following_at.ensures) in
    rw c.in-Err-Deep-value_in.q-is (over_end c.args.table.now c.args.text.now c.in-Ok-Operator-default.p c.args.levels k.1 (because c.in-Err-Deep-value_in.is c.in-Err-Deep-value_in.field-0-is c.value_in-in-Ok-Operator-default.ensures)).1

pub expression_in-pass_rest-requires-clause-at_nonzero : goal.expression_in-pass_rest-requires-clause-at_nonzero
expression_in-pass_rest-requires-clause-at_nonzero t c =
    let k = operator_end c.args.text.now c.loop-p.i c.loop-p.invariant.within (placed c.in-Ok-Operator-default.is c.in-Ok-Operator-default.field-0-0-is c.following_at.ensures) in
    rw c.in-Err-Deep-value_in.q-is (omega (arith, over_end c.args.table.now c.args.text.now c.in-Ok-Operator-default.p c.args.levels k.1 (because c.in-Err-Deep-value_in.is c.in-Err-Deep-value_in.field-0-is c.value_in-in-Ok-Operator-default.ensures)))

pub expression_in-returns-in-Err-Deep-value_in : goal.expression_in-returns-in-Err-Deep-value_in
expression_in-returns-in-Err-Deep-value_in t c = rest_deep c.args.table.now c.args.text.now c.loop-p.i c.args.levels c.loop-p.state c.loop-p.work (placed c.in-Ok-Operator-default.is c.in-Ok-Operator-default.field-0-0-is c.following_at.ensures) (because c.in-Err-Deep-value_in.is c.in-Err-Deep-value_in.field-0-is c.value_in-in-Ok-Operator-default.ensures) (rw c.in-Err-Deep-value_in.q-is at c.pass_rest.ensures) c.too_deep.ensures ∙ c.loop-p.invariant.same

pub expression_in-returns-in-Err-Wrong-value_in : goal.expression_in-returns-in-Err-Wrong-value_in
expression_in-returns-in-Err-Wrong-value_in t c = rw c.in-Err-Wrong-value_in.q-is (rest_wrong c.args.table.now c.args.text.now c.loop-p.i c.args.levels c.loop-p.state c.loop-p.work (placed c.in-Ok-Operator-default.is c.in-Ok-Operator-default.field-0-0-is c.following_at.ensures) (because c.in-Err-Wrong-value_in.is c.in-Err-Wrong-value_in.field-0-is c.value_in-in-Ok-Operator-default.ensures) ∙ c.loop-p.invariant.same
    )
