-- Number 4 "is kept in the list and shown never to occur" (`never_4`).
-- Assumes nothing.
use mathlib.Core.Path.{◌≡◌, ap, ◌∙◌, sym, subst}
use mathlib.Core.Bool.{Bool}
use mathlib.Core.List.{List}
use mathlib.Core.Logic.{⊎_elim}
use Prim.Native.Nat.{ℕ}
use native.Mathlib.Omega.{arith}
use lib.Dec.{T, eqb→eq}
use lib.IntN.{ℤ}
use Rattle.grammar.specs.Grammar.{Line}
use Rattle.grammar.specs.Derivation.{Form, derived, breaks_at}
use Rattle.grammar.specs.Working.{Took, end, stopped, took, line_entries}
use Rattle.grammar.proofs.ByForm.{form_of}
use Rattle.rules.specs.Meaning.{Entry, word_is, setting_is, arithmetic, reading, meets, words}
use Rattle.rules.specs.Block.{block_of}
use Rattle.rules.specs.Refusals.{first}
use Rattle.rules.specs.Promise.{After, Right, answer_to, place_in, taken, number_of}
use Rattle.rules.specs.declared.Record.{Record}
use Rattle.rules.proofs.Answers.{first_carriable}
use Rattle.rules.proofs.Demands.{by_model, number_is}
use Rattle.rules.proofs.Told.{cases, given_only}
use Rattle.rules.proofs.Sound.{SoundTook, line_sound}

unmet : (e : Took Entry) → SoundTook e → T (meets e 4) → ⊥
unmet end s t = t
unmet (stopped n) s t = let e = eqb→eq n 4 t in omega (arith, s.0)
unmet (took (word_is b v) e) s t = unmet e s.1 t
unmet (took (setting_is n v) e) s t = unmet e s t

not_read : (table : List ℤ) (f : Form Line) → T (meets (taken (reading table f)).entries 4) → ⊥
not_read table (breaks_at n) t = t
not_read table (derived l) t = ⊎_elim (λ e. subst (λ (x : Took Entry). T (meets x 4)) e t) (λ s. unmet (line_entries (arithmetic table) l) s t) (line_sound table l)

-- nothing that the promise allows carries number 4
pub never_4 : (line : List ℕ) (switch : Bool) (r : Record) (table out : List ℤ) {a : After} → Right line switch r table out a → number_of a.outcome.answer ≡ 4 → ⊥
unfolding answer_to
never_4 line switch r table out p h =
    let f = form_of line in
    let e = taken (reading table f) in
    let cs = cases line switch r table out f in
    let n : first cs ≡ 4 = sym (number_is (first cs) (place_in (reading table f)) e (block_of (words e.entries)) r table out (first_carriable cs tt)) ∙ (sym (ap (λ (x : After). number_of x.outcome.answer) (by_model line switch r table out p)) ∙ h) in
    not_read table f (given_only 100 4 cs tt (λ e. omega arith) n).1
