-- The N number of a line, by its derivation.
-- Assumes nothing.
use Rattle.std.specs.Prelude.{cond, List, Option, Some, None, ℕ, ltb, length}
use Rattle.grammar.specs.Grammar.{Item, Label, unlabelled, label, Line, line}
use Rattle.grammar.specs.Derivation.{Form, derived, breaks_at}
use Rattle.grammar.proofs.Place.{Placed, wrong, found}
use Rattle.rules.specs.Meaning.{decimal}

-- the number that a label's digits write
abbrev pub label_number : Label → Option ℕ
label_number unlabelled = None
label_number (label ds) = Some (decimal 0 ds)

abbrev pub tree_number : Line → Option ℕ
tree_number (line m n is) = label_number n

-- the number of a line: none where its form breaks, or of more than 256 bytes
unfoldable pub number_on : List ℕ → Form Line → Option ℕ
number_on s (derived t) = cond (ltb 256 (length s)) None (tree_number t)
number_on s (breaks_at n) = None

-- ---- by what the grammar's reader by places says. No public contract cites it.

abbrev pub number_at : Placed Line → Option ℕ
number_at (wrong p) = None
number_at (found t p) = tree_number t

-- by the label, once the items after it are of right form
abbrev pub number_with : Label → Placed (List Item) → Option ℕ
number_with n (wrong p) = None
number_with n (found is p) = label_number n

abbrev pub number_from : Placed Label → (ℕ → Placed (List Item)) → Option ℕ
number_from (wrong p) items = None
number_from (found n p) items = number_with n (items p)
