-- `frames::answer_frames` meets its contract, case by case of the answer.
-- Assumes nothing.
use mathlib.Core.Path.{◌≡◌, sym, ap, ◌∙◌, subst}
use Prim.Native.Nat.{ℕ}
use Rattle.std.specs.Prelude.{Some}
use Rattle.rules.specs.Frames.{refusal_frame}
use Rattle.rules.specs.declared.Answer.{Answer}
use Rattle.frames.specs.Text.{answer_frames, placed, laid}
use Rattle.frames.proofs.Command.{for_accepted, for_refused, for_skipped, put_alike}
use Rattle.frames.proofs.answer_frames.Goals as goal

pub returns-in-Accepted : goal.returns-in-Accepted
returns-in-Accepted c =
    put_alike c.args.text.now c.args.at (for_accepted c.args.out.now c.in-Accepted.many ∙ ap (λ (a : Answer). answer_frames a c.args.out.now) (sym c.in-Accepted.is)) c.accepted.ensures

pub returns-in-Refused : goal.returns-in-Refused
returns-in-Refused c =
    put_alike c.args.text.now c.args.at (for_refused c.args.out.now c.in-Refused.why ∙ ap (λ (a : Answer). answer_frames a c.args.out.now) (sym c.in-Refused.is)) (subst (λ (n : ℕ). (c.refusal.result ≡ placed (Some (refusal_frame n)) c.args.text.now c.args.at) × (c.refusal.new.text ≡ laid (Some (refusal_frame n)) c.args.text.now c.args.at)) c.number.ensures c.refusal.ensures)

pub returns-in-Skipped : goal.returns-in-Skipped
returns-in-Skipped c =
    put_alike c.args.text.now c.args.at (for_skipped c.args.out.now ∙ ap (λ (a : Answer). answer_frames a c.args.out.now) (sym c.in-Skipped.is)) c.accepted-in-Skipped.ensures
