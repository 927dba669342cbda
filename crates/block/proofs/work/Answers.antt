-- `block::work` meets its contract: numbers 10 and 11, then 12 to 14, then 15, and what an accepted line leaves.
-- Assumes nothing.
use mathlib.Core.Path.{◌≡◌, refl, sym, ap, ◌∙◌}
use mathlib.Core.Bool.{Bool, true, false, cond}
use mathlib.Core.List.{List}
use Prim.Native.Nat.{ℕ, ◌*◌}
use native.Mathlib.Omega.{arith}
use lib.Dec.{ltb}
use lib.IntN.{ℤ}
use lib.ListN.{length}
use borrow.Author.Tests.{ltb-true, ltb-false}
use Rattle.rules.specs.Block.{moves}
use Rattle.rules.specs.Steps.{ready, left, target}
use Rattle.rules.specs.Commands.{commands, written}
use Rattle.rules.specs.Refusals.{first}
use Rattle.rules.specs.Promise.{over}
use Rattle.rules.specs.declared.Record.{Record}
use Rattle.rules.specs.declared.Block.{Block}
use Rattle.rules.specs.declared.Command.{Command}
use Rattle.rules.specs.declared.Answer.TheVariants.{Accepted, Refused}
use Rattle.rules.specs.declared.Refusal.{Refusal}
use Rattle.rules.specs.declared.Refusal.TheVariants.{NoRoom}
use Rattle.std.specs.Prelude.{Option, None, Some, Result, Ok, Err, ok_or, unwrap_or}
use Rattle.std.specs.Bool.{then_some}
use Rattle.std.proofs.lemmas.Result.{err_from_is_err_and}
use Rattle.rules.specs.Block.{or_else}
use Rattle.checks.specs.Modes.{in_modes, early, judged}
use Rattle.block.specs.declared.motion.Travel.{Travel}
use Rattle.orders.specs.Orders.{asked, orders_of, written_by}
use Rattle.orders.proofs.Asked.{room_for, no_room}
use Rattle.block.specs.Judged.{late, remaining}
use Rattle.block.specs.Execution.{Done, done, done_by}
use Rattle.block.specs.Motion.{end_of, move_by, travel_of}
use Rattle.block.proofs.Bounds.{small, ready_small}
use Rattle.block.proofs.Judged.{orders_are}
use Rattle.block.proofs.Order.{none_judged, refusal_judged, by_early, by_late, by_room, by_none, early_ready, early_numbered, ready_reached, refused_by, accepted_by}
use Rattle.block.proofs.work.Goals as goal

-- what the parts of a line have answered, said of the record as the motion step finds it
module _ (b : Block) (r : Record) where
  early_is : {plane : ℕ} {judgement : Result (Unit {0}) Refusal} → plane ≡ or_else b.plane r.plane → judgement ≡ judged (early b (in_modes plane r.motion)) → judgement ≡ judged (early b (ready b r))
  early_is p n = n ∙ ap (λ (plane : ℕ). judged (early b (in_modes plane r.motion))) p ∙ sym (ap judged (early_ready b r))

  late_is : {m : Record} {judgement : Result (Unit {0}) Refusal} → m ≡ ready b r → judgement ≡ judged (late b m) → judgement ≡ judged (late b (ready b r))
  late_is e n = n ∙ ap (λ (q : Record). judged (late b q)) e

  -- where they give no refusal
  passed_early : {plane : ℕ} {judgement : Result (Unit {0}) Refusal} → judgement ≡ Ok (tt {0}) → plane ≡ or_else b.plane r.plane → judgement ≡ judged (early b (in_modes plane r.motion)) → first (early b (ready b r)) ≡ 0
  passed_early was p n = none_judged (early b (ready b r)) (sym was ∙ early_is p n)

  passed_late : {m : Record} {judgement : Result (Unit {0}) Refusal} → judgement ≡ Ok (tt {0}) → m ≡ ready b r → judgement ≡ judged (late b m) → first (late b (ready b r)) ≡ 0
  passed_late was e n = none_judged (late b (ready b r)) (sym was ∙ late_is e n)

  orders_written : {m : Record} {t : Travel} {moving : Option Command} {orders : List (Option Command)} → m ≡ ready b r → t ≡ travel_of b m → moving ≡ move_by t m.plane
      → orders ≡ orders_of b m.feed m.speed m.tool moving → asked orders ≡ commands b (ready b r)
  orders_written {t} {moving} e way moved all =
      let travel_is : t ≡ travel_of b (ready b r) = way ∙ ap (travel_of b) e in
      let moving_is : moving ≡ move_by (travel_of b (ready b r)) (ready b r).plane = moved ∙ (λ i. move_by (travel_is i) (e i).plane) in
      ap asked all
      ∙ (λ i. asked (orders_of b (e i).feed (e i).speed (e i).tool (moving_is i)))
      ∙ orders_are b (ready b r)

  -- where the line ends
  end_is : (m : Record) {t : Travel} → t ≡ travel_of b m → unwrap_or t.to m.position ≡ end_of b m
  end_is m way = ap (λ (t' : Travel). unwrap_or t'.to m.position) way ∙ go (moves b)
    where
      go : (c : Bool) → unwrap_or (then_some c (target b m)) m.position ≡ cond c (target b m) m.position
      go true = refl
      go false = refl

  -- a line that is refused by a number before 15
  module _ (out : List ℤ) (why : Refusal) where
    early_refused : Err why ≡ judged (early b (ready b r)) → ◌≡◌ {A = Done} (done (Refused why) r out) (done_by (first (remaining b (ready b r) (length out))) b r out)
    early_refused e =
        let k = refusal_judged (early b (ready b r)) why e in
        ap (λ w. done (Refused w) r out) (sym k.1)
        ∙ refused_by b r out (first (early b (ready b r))) (by_early b (ready b r) (length out) (first (early b (ready b r))) refl k.0) k.0

    late_refused : first (early b (ready b r)) ≡ 0 → Err why ≡ judged (late b (ready b r)) → ◌≡◌ {A = Done} (done (Refused why) r out) (done_by (first (remaining b (ready b r) (length out))) b r out)
    late_refused none e =
        let k = refusal_judged (late b (ready b r)) why e in
        ap (λ w. done (Refused w) r out) (sym k.1)
        ∙ refused_by b r out (first (late b (ready b r))) (by_late b (ready b r) (length out) none (first (late b (ready b r))) refl k.0) k.0

-- what writing gave, told by the number that it is turned into
no_number : (o : Option ℕ) (why : Refusal) → Err why ≡ ok_or o NoRoom → (None ≡ o) × (NoRoom ≡ why)
no_number None why e = (refl, cc)
no_number (Some n) why e = absurd (cc)

a_number : (o : Option ℕ) (n : ℕ) → Ok n ≡ ok_or o NoRoom → Some n ≡ o
a_number None n e = absurd (cc)
a_number (Some k) n e = cc

pub returns-in_err-early : goal.returns-in_err-early
returns-in_err-early c =
    let p = err_from_is_err_and c.from_residual.result c.from_residual.ensures.1 in
    rw (p.1, p.2) (early_refused c.args.b c.args.rec c.args.out.now c.in_err-early.field-0.0 (sym c.in_err-early.was ∙ early_is c.args.b c.args.rec c.unwrap_or.ensures c.early.ensures))

pub ready-m-requires-clause-small : goal.ready-m-requires-clause-small
ready-m-requires-clause-small c = small c.args.rec c.requires.rec_value

pub ready-m-requires-clause-numbered : goal.ready-m-requires-clause-numbered
ready-m-requires-clause-numbered c =
    early_numbered c.args.b (ready c.args.b c.args.rec) (passed_early c.args.b c.args.rec c.in_ok-early.was c.unwrap_or.ensures c.early.ensures)

pub travel_of-t-requires-clause-small : goal.travel_of-t-requires-clause-small
travel_of-t-requires-clause-small c = rw c.ready-m.ensures (ready_small c.args.b c.args.rec c.requires.ranged c.requires.rec_value)

pub late-requires-clause-numbered : goal.late-requires-clause-numbered
late-requires-clause-numbered c =
    early_numbered c.args.b (ready c.args.b c.args.rec) (passed_early c.args.b c.args.rec c.in_ok-early.was c.unwrap_or.ensures c.early.ensures)

pub late-requires-clause-position_value : goal.late-requires-clause-position_value
late-requires-clause-position_value c = rw c.ready-m.ensures (ready_reached c.args.b c.args.rec c.requires.rec_value)

pub returns-in_err-late : goal.returns-in_err-late
returns-in_err-late c =
    let p = err_from_is_err_and c.from_residual-in_err-late.result c.from_residual-in_err-late.ensures.1 in
    rw (p.1, p.2) (late_refused c.args.b c.args.rec c.args.out.now c.in_err-late.field-0.0
    (passed_early c.args.b c.args.rec c.in_ok-early.was c.unwrap_or.ensures c.early.ensures)
    (sym c.in_err-late.was ∙ late_is c.args.b c.args.rec c.ready-m.ensures c.late.ensures))

pub returns-in_err-count : goal.returns-in_err-count
returns-in_err-count c =
    let p = err_from_is_err_and c.from_residual-in_err-count.result c.from_residual-in_err-count.ensures.1 in
    let cs = commands c.args.b (ready c.args.b c.args.rec) in
    let room = length c.args.out.now in
    let wrote = no_number c.write.result c.in_err-count.field-0.0 (sym c.in_err-count.was ∙ c.ok_or.ensures.value) in
    let written_is : asked c.orders_of-orders.result ≡ cs = orders_written c.args.b c.args.rec c.ready-m.ensures c.travel_of-t.ensures c.move_command-moving.ensures c.orders_of-orders.ensures in
    let short = no_room cs room (wrote.0 ∙ c.write.ensures.0 ∙ ap (λ (os : List Command). written_by os room) written_is) in
    let out_is = c.write.ensures.1 ∙ ap (λ (os : List Command). cond (ltb room (8 * length os)) c.args.out.now (over (written os) c.args.out.now)) written_is ∙ ap (λ (b : Bool). cond b c.args.out.now (over (written cs) c.args.out.now)) short in
    rw (p.1, p.2, ← wrote.1, out_is)
    (refused_by c.args.b c.args.rec c.args.out.now 15
    (by_room c.args.b (ready c.args.b c.args.rec) room (passed_early c.args.b c.args.rec c.in_ok-early.was c.unwrap_or.ensures c.early.ensures) (passed_late c.args.b c.args.rec c.in_ok-late.was c.ready-m.ensures c.late.ensures) (ltb-true room (8 * length cs) short))
    (omega arith))

pub left-requires-clause-to_value : goal.left-requires-clause-to_value
left-requires-clause-to_value c = c.unwrap_or-2.ensures ∙ end_is c.args.b c.args.rec c.ready-m.result c.travel_of-t.ensures

pub returns : goal.returns
unfolding left
returns c =
    let cs = commands c.args.b (ready c.args.b c.args.rec) in
    let room = length c.args.out.now in
    let written_is : asked c.orders_of-orders.result ≡ cs = orders_written c.args.b c.args.rec c.ready-m.ensures c.travel_of-t.ensures c.move_command-moving.ensures c.orders_of-orders.ensures in
    let fits = room_for cs room c.in_ok-count.count (a_number c.write.result c.in_ok-count.count (sym c.in_ok-count.was ∙ c.ok_or.ensures.value) ∙ c.write.ensures.0 ∙ ap (λ (os : List Command). written_by os room) written_is) in
    let after_is : c.left.result ≡ left c.args.b c.args.rec = rw c.ready-m.ensures at c.left.ensures in
    let out_is = c.write.ensures.1 ∙ ap (λ (os : List Command). cond (ltb room (8 * length os)) c.args.out.now (over (written os) c.args.out.now)) written_is ∙ ap (λ (short : Bool). cond short c.args.out.now (over (written cs) c.args.out.now)) fits.0 in
    (λ i. done (Accepted (fits.1 i)) (after_is i) (out_is i))
    ∙ accepted_by c.args.b c.args.rec c.args.out.now
    (by_none c.args.b (ready c.args.b c.args.rec) room (passed_early c.args.b c.args.rec c.in_ok-early.was c.unwrap_or.ensures c.early.ensures) (passed_late c.args.b c.args.rec c.in_ok-late.was c.ready-m.ensures c.late.ensures) (ltb-false room (8 * length cs) fits.0))
