-- `codes::m_group` meets its contract: its ranges list what the groups list.
-- Assumes nothing.
use mathlib.Core.Path.{◌≡◌, refl, ap, sym, ◌∙◌}
use mathlib.Core.List.{List, [], ◌∷◌}
use mathlib.Core.Bool.{Bool, true, false, ◌&&◌}
use Prim.Native.Nat.{ℕ, ◌+◌, ◌≤◌, ◌<◌}
use native.Mathlib.Omega.{arith}
use lib.Dec.{leb, ltb}
use borrow.Author.Tests.{leb-true, le-leb, lt-leb, lt-ltb, le-ltb}
use Rattle.rules.specs.Codes.{m_group, served}
use Rattle.codes.proofs.Ranges.{Spans, filed_in, by_ranges}
use Rattle.codes.proofs.Ranges.Range.{◌codesFrom◌}
use Rattle.codes.proofs.Ranges.Spans.{◌spans◌}
use Rattle.codes.proofs.m_ranges.m_group.Goals as goal

-- the groups as document 01 lists them, by their ranges
abbrev ranges : List Spans
ranges =
    (4 spans ((3 codesFrom 0) ∷ (1 codesFrom 30) ∷ []))
    ∷ (6 spans ((1 codesFrom 6) ∷ []))
    ∷ (7 spans ((3 codesFrom 3) ∷ []))
    ∷ (8 spans ((3 codesFrom 7) ∷ []))
    ∷ []

filed : (code group : ℕ) → filed_in ranges code ≡ group → served group ≡ served (m_group code)
unfolding m_group
filed code group e = ap served (sym (by_ranges ranges code ∙ e))

-- a range that a code lies in, lies below, or lies above
inside : (first n code : ℕ) → first ≤ code → code < first + n → (leb first code && ltb code (first + n)) ≡ true
inside first n code low high = rw (le-leb first code low, lt-ltb code (first + n) high) refl

below : (first n code : ℕ) → code < first → (leb first code && ltb code (first + n)) ≡ false
below first n code low = rw (lt-leb first code low) refl

above : (first n code : ℕ) → first + n ≤ code → (leb first code && ltb code (first + n)) ≡ false
above first n code high = rw (le-leb first code (omega arith), le-ltb code (first + n) high) refl

beside : (first code : ℕ) → (code ≡ first → ⊥) → (leb first code && ltb code (first + 1)) ≡ false
beside first code other = by (leb first code) refl
  where
    by : (from : Bool) → leb first code ≡ from → (from && ltb code (first + 1)) ≡ false
    by true p = le-ltb code (first + 1) (omega (arith, leb-true first code p, other))
    by false p = refl

pub returns-in-0-to-2 : goal.returns-in-0-to-2
returns-in-0-to-2 c = filed c.args.code 4 (let e : c.args.code ≡ 30 = omega arith in rw e refl)

pub returns-in-0-to-2-2 : goal.returns-in-0-to-2-2
returns-in-0-to-2-2 c = filed c.args.code 4 (rw (inside 0 3 c.args.code (omega arith) (omega arith)) refl)

pub returns-in-3-to-5 : goal.returns-in-3-to-5
returns-in-3-to-5 c =
    filed c.args.code 7 (rw (
      above 0 3 c.args.code (omega arith),
      below 30 1 c.args.code (omega arith),
      below 6 1 c.args.code (omega arith),
      inside 3 3 c.args.code (omega arith) (omega arith),
    ) refl)

pub returns-in-6 : goal.returns-in-6
returns-in-6 c = filed c.args.code 6 (rw c.in-6.is refl)

pub returns-in-7-to-9 : goal.returns-in-7-to-9
returns-in-7-to-9 c =
    filed c.args.code 8 (rw (
      above 0 3 c.args.code (omega arith),
      below 30 1 c.args.code (omega arith),
      above 6 1 c.args.code (omega arith),
      above 3 3 c.args.code (omega arith),
      inside 7 3 c.args.code (omega arith) (omega arith),
    ) refl)

pub returns-in_default : goal.returns-in_default
returns-in_default c =
    filed c.args.code 255 (rw (
      above 0 3 c.args.code (omega arith),
      beside 30 c.args.code (omega arith),
      above 6 1 c.args.code (omega arith),
      above 3 3 c.args.code (omega arith),
      above 7 3 c.args.code (omega arith),
    ) refl)
