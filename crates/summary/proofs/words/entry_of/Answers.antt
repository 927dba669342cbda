-- `summary::words::entry_of` meets its contract. By the letter.
-- Assumes nothing.
use mathlib.Core.Path.{◌≡◌, refl, sym, ap, ◌∙◌}
use mathlib.Core.Bool.{Bool, true, false, cond}
use Prim.Native.Nat.{ℕ}
use lib.Dec.{eqb}
use lib.IntN.{ℤ}
use mir.ValLaws.{to_z-of_z}
use mir.Syntax.{w64}
use borrow.Author.Tests.{ne_eqb, eqb-true}
use borrow.Author.Rules.{rules}
use Rattle.std.specs.Prelude.{Option, None, Some, option_and_then, unwrap_or}
use Rattle.rules.specs.Codes.{group_of, g_group, m_group, g_code, m_code, not_served, served}
use Rattle.summary.specs.declared.words.Entry.{Entry}
use Rattle.summary.specs.Keys.{code_entry, entry_of}
use Rattle.summary.proofs.words.entry_of.Goals as goal

served_back : (g : ℕ) → unwrap_or (served g) not_served ≡ g
served_back g = by (eqb g not_served) refl
  where
    by : (none : Bool) → eqb g not_served ≡ none → unwrap_or (cond none None (Some g)) not_served ≡ g
    by true e = sym (eqb-true g not_served e)
    by false e = refl

group_back : (group : ℕ → ℕ) (c : Option ℕ) → unwrap_or (option_and_then (λ n. served (group n)) c) not_served ≡ group_of group c
group_back group None = refl
group_back group (Some n) = served_back (group n)

-- a code and its group, as the calls give them
from_code : (base : ℕ) (group : ℕ → ℕ) (code : ℤ → Option ℕ) (v : ℤ) {c g : Option ℕ} {e : Entry} → c ≡ code v → g ≡ option_and_then (λ n. served (group n)) c → e ≡ code_entry base (unwrap_or g not_served) c → e ≡ code_entry base (group_of group (code v)) (code v)
from_code base group code v {c} p q r =
    r ∙ ap (λ (x : Option ℕ). code_entry base (unwrap_or x not_served) c) q ∙ ap (λ (x : ℕ). code_entry base x c) (group_back group c) ∙ ap (λ (x : Option ℕ). code_entry base (group_of group x) x) p

pub returns-in-71 : goal.returns-in-71
unfolding entry_of
returns-in-71 c =
    let group : c.and_then.result ≡ option_and_then (λ n. served (g_group n)) c.g_code-code.result = search rules in
    rw c.in-71.is (from_code 32 g_group g_code c.args.value (c.g_code-code.ensures ∙ ap g_code (to_z-of_z w64 c.args.value c.ranges.value)) group c.code_entry.ensures)

pub returns-in-77 : goal.returns-in-77
unfolding entry_of
returns-in-77 c =
    let group : c.and_then-in-77.result ≡ option_and_then (λ n. served (m_group n)) c.m_code-code.result = search rules in
    rw c.in-77.is (from_code 48 m_group m_code c.args.value (c.m_code-code.ensures ∙ ap m_code (to_z-of_z w64 c.args.value c.ranges.value)) group c.code_entry-in-77.ensures)

pub returns-in_default : goal.returns-in_default
unfolding entry_of
returns-in_default c = rw (ne_eqb c.args.letter 71 c.in_default.in_default-own.rest.0.1, ne_eqb c.args.letter 77 c.in_default.in_default-own.rest.1, to_z-of_z w64 c.args.value c.ranges.value) refl
