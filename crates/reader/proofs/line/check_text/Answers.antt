use mathlib.Core.Path.{◌≡◌, sym, ap, ◌∙◌}
use Rattle.std.specs.Prelude.{Err}
use Rattle.std.proofs.Common.{rules}
use Rattle.grammar.specs.Grammar.{Line}
use Rattle.grammar.proofs.Place.{Placed}
use Rattle.reader.specs.Gather.{checked}
use Rattle.reader.proofs.Beginning.{label_within, form_within, line_checked, label_wrong, form_wrong}
use Rattle.reader.proofs.line.check_text.Goals as goal

pub returns-in_err-p : goal.returns-in_err-p
returns-in_err-p c =
    let z : c.from_residual.result ≡ Err c.in_err-p.field-0.0 = search rules in
    rw z (ap (λ (m : Placed Line). checked m) (form_wrong c.args.text.now (sym c.in_err-p.was ∙ c.mark_end.ensures)))

pub label_end-requires : goal.label_end-requires
label_end-requires c = form_within c.args.text.now (sym c.in_ok-p.was ∙ c.mark_end.ensures)

pub returns-in_err-q : goal.returns-in_err-q
returns-in_err-q c =
    let z : c.from_residual-in_err-q.result ≡ Err c.in_err-q.field-0.0 = search rules in
    rw z (ap (λ (m : Placed Line). checked m) (label_wrong c.args.text.now (sym c.in_ok-p.was ∙ c.mark_end.ensures) (sym c.in_err-q.was ∙ c.label_end.ensures)))

pub check_from-requires : goal.check_from-requires
check_from-requires c = (label_within c.args.text.now _ (form_within c.args.text.now (sym c.in_ok-p.was ∙ c.mark_end.ensures)) (sym c.in_ok-q.was ∙ c.label_end.ensures)).1

pub returns : goal.returns
returns c = c.check_from.ensures ∙ line_checked c.args.text.now (sym c.in_ok-p.was ∙ c.mark_end.ensures) (sym c.in_ok-q.was ∙ c.label_end.ensures)
