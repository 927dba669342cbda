-- `parameters::load::read` meets its contract: a file that is accepted is read number after number.
-- Assumes nothing.
use mathlib.Core.Path.{◌≡◌, refl, sym, ap, ◌∙◌}
use native.Mathlib.Omega.{arith}
use lib.IntN.{nat_abs}
use Rattle.std.proofs.Common.{List, ℕ, rules}
use Rattle.std.proofs.lemmas.Result.{err_from_is_err_and}
use Rattle.laws.proofs.Ints.{back}
use Rattle.parameters.specs.Places.{offset_number, origin_number}
use Rattle.parameters.specs.Reading.{refusal, table_from, system_code}
use Rattle.parameters.specs.Parse.{trees, entries_of}
use Rattle.parameters.proofs.RoundTrip.{ordered}
use Rattle.parameters.proofs.Going.{remains_of, remains_on, remains_join, from_start, lengths_as, offset_judged, system_judged, origin_judged, read_1, read_refused_with, read_0}
use Rattle.parameters.proofs.load.read.Goals as goal

pub returns-then-is_disordered : goal.returns-then-is_disordered
returns-then-is_disordered c = read_1 c.args.text.now c.args.rec c.args.table.now (sym c.is_disordered.ensures ∙ c.if-is_disordered.true)

pub returns-in_err-lines : goal.returns-in_err-lines
returns-in_err-lines c =
    let p = err_from_is_err_and c.from_residual.result c.from_residual.ensures.1 in
    rw (p.1, p.2) (read_refused_with c.args.text.now c.args.rec c.args.table.now c.in_err-lines.field-0.0 (sym c.is_disordered.ensures ∙ c.if-is_disordered.false) c.in_err-lines.ensures)

pub fill_table-requires : goal.fill_table-requires
fill_table-requires c = (ordered c.args.rec c.args.table.now (sym c.is_disordered.ensures ∙ c.if-is_disordered.false)).1

pub fill_lengths-requires-clause-served : goal.fill_lengths-requires-clause-served
fill_lengths-requires-clause-served c = λ i h. offset_judged i (omega arith) (omega arith)

pub value-system-requires : goal.value-system-requires
value-system-requires c = system_judged

pub fill_lengths-requires-2-clause-served : goal.fill_lengths-requires-2-clause-served
fill_lengths-requires-2-clause-served c = λ i h. origin_judged i (omega arith) refl

pub returns : goal.returns
returns c =
    let t = c.args.text.now in
    let same : c.in_ok-lines.lines.rest.now ≡ t = c.in_ok-lines.ensures in
    let right : refusal 0 (trees t) ≡ 0 = rw same at c.in_ok-lines.lines.accepted in
    let behind_table = remains_of same c.fill_table.ensures.1 in
    let behind_offset = remains_on 5220 (remains_join 5214 behind_table (c.fill_lengths.ensures.rest 5214 (λ i h. omega arith)) (omega arith)) (omega arith) in
    let behind_system = remains_join 5221 behind_offset c.value-system.ensures.remains (omega arith) in
    read_0 t c.args.rec c.args.table.now (sym c.is_disordered.ensures ∙ c.if-is_disordered.false) right
    (c.fill_table.ensures.0 ∙ ap (λ (x : List ℕ). table_from (entries_of x) c.args.table.now) same)
    (c.fill_lengths.ensures.set ∙ lengths_as 5211 offset_number c.args.rec.offset behind_table (λ i h. (omega arith, omega arith)))
    (c.fill_lengths-2.ensures.set ∙ lengths_as 5221 origin_number c.args.rec.origins behind_system (λ i h. (omega arith, refl)))
    (c.system_code.ensures ∙ ap system_code (c.size_of.ensures ∙ ap nat_abs (back c.value-system.result (search rules))))
    (from_start behind_offset c.value-system.ensures)
