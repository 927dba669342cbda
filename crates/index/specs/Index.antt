-- Request 10: an index of N numbers. The quoted sentences are the request's. Right form is the grammar's: `tree` tells each line's form.
-- Assumes nothing.
use Rattle.std.specs.Prelude.{◌≡◌, Bool, false, cond, not, ◌||◌, List, [], ◌∷◌, ℕ, zero, suc, ◌+◌, ◌≤◌, eqb, ltb, length, Option, None, Some}
use Rattle.grammar.specs.Bytes.{byte, among}
use Rattle.grammar.specs.Grammar.{Line, line, unlabelled, label}
use Rattle.grammar.specs.Derivation.{Form, derived, breaks_at}
use Rattle.rules.specs.Meaning.{decimal}
use Rattle.texts.specs.Ends.{Piece, piece, pieces, joined}
use Rattle.texts.specs.Form.{right}
pub use Rattle.index.specs.declared.Place.{Place}
pub use Rattle.index.specs.declared.Entry.{Entry}
pub use Rattle.index.specs.declared.Refusal.{Refusal}
pub use Rattle.index.specs.declared.Refusal.TheVariants.{TextTooLong, TooManyNumbers, NoSuchLine, UnfitLine}

-- ---- what a text says

-- "N010 and N10 are one number": the number that the label's digits write
abbrev pub labelled : Form Line → Option ℕ
labelled (derived (line s unlabelled is)) = None
labelled (derived (line s (label ds) is)) = Some (decimal 0 ds)
labelled (breaks_at n) = None

-- "each N number on a line of right form and at most 256 bytes"
unfoldable pub borne : (List ℕ → Form Line) → List ℕ → Option ℕ
borne tree s = cond (right tree s) (labelled (tree s)) None

abbrev pub bears : Option ℕ → ℕ → Bool
bears None n = false
bears (Some m) n = eqb m n

-- a line, "from 1", and "that line's first byte, from 0"
abbrev pub place : ℕ → ℕ → Place
place k at = record { line = k; start = at }

-- how many bytes a line and its end are
abbrev pub size : Piece → ℕ
size p = length p.line + length p.end

-- "its first line": the first that bears n, where these are the lines from line k on, which starts at a place
abbrev pub first_from : (List ℕ → Form Line) → ℕ → ℕ → ℕ → List Piece → Option Place
first_from tree n k at [] = None
first_from tree n k at (p ∷ ps) = cond (bears (borne tree p.line) n) (Some (place k at)) (first_from tree n (suc k) (at + size p) ps)

unfoldable pub place_of : (List ℕ → Form Line) → List ℕ → ℕ → Option Place
place_of tree text n = first_from tree n 1 0 (pieces text)

-- ---- the index

-- "in rising N order", from a number on
abbrev pub RisingFrom : ℕ → List Entry → Type 0
RisingFrom n [] = Unit {0}
RisingFrom n (e ∷ es) = (n ≤ e.number) × RisingFrom (suc e.number) es

-- "Asking for a number gives that place, or `none`"
abbrev pub find : ℕ → List Entry → Option Place
find n [] = None
find n (e ∷ es) = cond (eqb e.number n) (Some e.place) (find n es)

-- the index of a text: entries that rise, and give for every number what the text says
pub record IndexOf (tree : List ℕ → Form Line) (text : List ℕ) (es : List Entry) : Type 0 where
  pub rising : RisingFrom 0 es
  pub answers : (n : ℕ) → find n es ≡ place_of tree text n

-- ---- the index built, and brought up to date

-- an entry before others, where there is one
abbrev pub front : ℕ → Option Place → List Entry → List Entry
front n None es = es
front n (Some p) es = record { number = n; place = p } ∷ es

-- the entries with the place of n put right
abbrev pub put : ℕ → Option Place → List Entry → List Entry
put n o [] = front n o []
put n o (e ∷ es) = cond (ltb e.number n) (e ∷ put n o es) (front n o (cond (eqb e.number n) es (e ∷ es)))

abbrev pub noted : Option ℕ → ℕ → ℕ → List Entry → List Entry
noted None k at es = es
noted (Some n) k at es = put n (Some (place k at)) es

abbrev pub built_from : (List ℕ → Form Line) → ℕ → ℕ → List Piece → List Entry
built_from tree k at [] = []
built_from tree k at (p ∷ ps) = noted (borne tree p.line) k at (built_from tree (suc k) (at + size p) ps)

unfoldable pub built : (List ℕ → Form Line) → List ℕ → List Entry
built tree text = built_from tree 1 0 (pieces text)

-- the place of a number that a line bears put right, from the text
abbrev pub settled : (List ℕ → Form Line) → List ℕ → Option ℕ → List Entry → List Entry
settled tree text None es = es
settled tree text (Some n) es = put n (place_of tree text n) es

-- ---- the calls

-- "a program text of at most 60,000 bytes", "up to 2,000 entries"
abbrev pub text_most : ℕ
text_most = 60000

abbrev pub index_most : ℕ
index_most = 2000

-- "30 text too long, 31 more than 2,000 different numbers, 32 the replacement's line doesn't exist, 33 its length differs or it holds a line feed or carriage return"
abbrev pub refusal_number : Refusal → ℕ
refusal_number TextTooLong = 30
refusal_number TooManyNumbers = 31
refusal_number NoSuchLine = 32
refusal_number UnfitLine = 33

-- why a call refuses, if it does, and what text and entries are then
pub record Indexed : Type 0 where
  pub refusal : Option Refusal
  pub text : List ℕ
  pub entries : List Entry

abbrev pub indexed : List ℕ → List Entry → Indexed
indexed text es = record { refusal = None; text = text; entries = es }

abbrev pub refused : Refusal → List ℕ → List Entry → Indexed
refused e text es = record { refusal = Some e; text = text; entries = es }

-- "30 text too long, 31 more than 2,000 different numbers"; "none alters text or index": es is what was there
unfoldable pub build : (List ℕ → Form Line) → List ℕ → List Entry → Indexed
build tree text es =
    cond (ltb text_most (length text)) (refused TextTooLong text es)
    (cond (ltb index_most (length (built tree text))) (refused TooManyNumbers text es) (indexed text (built tree text)))

-- the line at a place of the list, from 0, and the lines with it replaced, its end kept
abbrev pub line_at : ℕ → List Piece → Option (List ℕ)
line_at i [] = None
line_at zero (p ∷ ps) = Some p.line
line_at (suc i) (p ∷ ps) = line_at i ps

abbrev pub with_line : ℕ → List ℕ → List Piece → List Piece
with_line i new [] = []
with_line zero new (p ∷ ps) = piece new p.end ∷ ps
with_line (suc i) new (p ∷ ps) = p ∷ with_line i new ps

-- the first byte of line i, from 0
abbrev pub start_at : ℕ → List Piece → ℕ
start_at zero ps = 0
start_at (suc i) [] = 0
start_at (suc i) (p ∷ ps) = size p + start_at i ps

-- line k, from 1
abbrev pub line_of : ℕ → List ℕ → Option (List ℕ)
line_of zero text = None
line_of (suc i) text = line_at i (pieces text)

-- "When one line is replaced by another"
abbrev pub text_with : ℕ → List ℕ → List ℕ → List ℕ
text_with zero new text = text
text_with (suc i) new text = joined (with_line i new (pieces text))

-- "its length differs or it holds a line feed or carriage return"
abbrev pub unfit : List ℕ → List ℕ → Bool
unfit old new = not (eqb (length new) (length old)) || (among (byte "\n") new || among (byte "\r") new)

-- what is left where the new entries are few enough: "31", and "none alters text or index"
abbrev pub limited : List ℕ → List Entry → List ℕ → List Entry → Indexed
limited text es text' es' = cond (ltb index_most (length es')) (refused TooManyNumbers text es) (indexed text' es')

abbrev pub swapped : (List ℕ → List ℕ → List Entry) → List ℕ → List Entry → ℕ → List ℕ → Option (List ℕ) → Indexed
swapped entries text es k new None = refused NoSuchLine text es
swapped entries text es k new (Some old) = cond (unfit old new) (refused UnfitLine text es) (limited text es (text_with k new text) (entries old (text_with k new text)))

-- "30 .., 32 the replacement's line doesn't exist, 33 its length differs or it holds a line feed or carriage return, in the order 30, 32, 33, 31": the new entries by the old line and the new text
abbrev pub replace_by : (List ℕ → List ℕ → List Entry) → List ℕ → List Entry → ℕ → List ℕ → Indexed
replace_by entries text es k new = cond (ltb text_most (length text)) (refused TextTooLong text es) (swapped entries text es k new (line_of k text))

-- with the index brought up to date: the places of what the new and the old line bear are put right
unfoldable pub replace : (List ℕ → Form Line) → List ℕ → List Entry → ℕ → List ℕ → Indexed
replace tree text es k new = replace_by (λ old text'. settled tree text' (borne tree old) (settled tree text' (borne tree new) es)) text es k new

-- with the index built afresh
unfoldable pub replace_afresh : (List ℕ → Form Line) → List ℕ → List Entry → ℕ → List ℕ → Indexed
replace_afresh tree text es k new = replace_by (λ old text'. built tree text') text es k new
