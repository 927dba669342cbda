-- What the call for a whole text promises: the list is numbers in a lent space, three to an entry.
-- Assumes nothing.
use Rattle.std.specs.Prelude.{◌≡◌, Option, Some, None, Result, Ok, Err, Bool, true, false, cond, List, [], ◌∷◌, ◌++◌, ℕ, ◌+◌, ◌-◌, ◌≤◌, ◌<◌, ltb, leb, length, take, drop}
use Rattle.grammar.specs.Grammar.{Line}
use Rattle.grammar.specs.Derivation.{Form}
use Rattle.texts.specs.Form.{Tells}
use Rattle.texts.specs.Ends.{Piece, pieces}
use Rattle.mend.specs.Mend.{Note, unlisted, mended, unmended, mend, mend_text, Entry, Written, mend_into}
use Rattle.mend.specs.Line.{added_up}
use Rattle.mend.specs.declared.whole.Tally.{Tally}
use Rattle.mend.specs.declared.line.NoSpace.{NoSpace}
use Rattle.mend.specs.declared.whole.Listed.{Listed}
use Rattle.mend.specs.declared.whole.Noted.{Noted}
use Rattle.mend.specs.declared.whole.Held.{Held}

-- an entry: "the line and the first byte that differs, both from 1, and which of the three", added up; or the line and 0 and 0, where it is unmended
abbrev pub is_listed : Note → Bool
is_listed unlisted = false
is_listed (mended i ks) = true
is_listed unmended = true

abbrev pub byte_of : Note → ℕ
byte_of unlisted = 0
byte_of (mended i ks) = i
byte_of unmended = 0

abbrev pub which_of : Note → ℕ
which_of unlisted = 0
which_of (mended i ks) = added_up ks
which_of unmended = 0

abbrev pub numbers_of : ℕ → Note → List ℕ
numbers_of k n = k ∷ byte_of n ∷ which_of n ∷ []

-- the list in a space: as many whole entries as there is room for; what stands behind them stays
abbrev pub entered : List Entry → List ℕ → List ℕ
entered [] space = space
entered (e ∷ es) space = cond (ltb (length space) 3) space (numbers_of e.number e.note ++ entered es (drop 3 space))

-- what is told of a text, in numbers: 0, or 40 where the space is too small, and the counts, which are 0 then
pub record Told : Type 0 where
  pub number : ℕ
  pub filled : ℕ
  pub lines : ℕ
  pub listed : ℕ

abbrev pub told : Result Tally NoSpace → Told
told (Ok t) = record { number = 0; filled = t.filled; lines = t.lines; listed = t.listed }
told (Err e) = record { number = 40; filled = 0; lines = 0; listed = 0 }

-- what a call leaves: its answer, and what the lent spaces hold then
pub record TextLeft : Type 0 where
  pub tally : Told
  pub out : List ℕ
  pub list : List ℕ

abbrev pub leaves_text : Told → List ℕ → List ℕ → TextLeft
leaves_text r out list = record { tally = r; out = out; list = list }

abbrev pub lent : Written → List ℕ → TextLeft
lent w list = leaves_text (record { number = w.number; filled = w.filled; lines = w.lines; listed = length w.list }) w.out (entered w.list list)

-- THE PROMISE for a whole text: whatever tells every line's derivation, or that it has none, tells the answer and what the lent spaces hold
abbrev pub MendsText : List ℕ → List ℕ → List ℕ → TextLeft → Type 0
MendsText text out list left = (tree : List ℕ → Form Line) → Tells tree → left ≡ lent (mend_into tree text out) list

-- ---- of the functions under it

-- how many bytes a line has when it is mended
abbrev pub Long : List ℕ → ℕ → Type 0
Long s n = (tree : List ℕ → Form Line) → Tells tree → n ≡ length (mend tree s).line

-- whether a text's mended bytes fit
abbrev pub Fitting : List ℕ → ℕ → Bool → Type 0
Fitting text room r = (tree : List ℕ → Form Line) → Tells tree → r ≡ leb (length (mend_text tree text)) room

-- bytes laid into a space from a place on
abbrev pub laid_at : {X : Type 0} → List X → ℕ → List X → List X
laid_at out at s = take at out ++ (s ++ drop (at + length s) out)

-- there is room for a line's mended bytes from a place on
abbrev pub Room : List ℕ → ℕ → ℕ → Type 0
Room s from n = (tree : List ℕ → Form Line) → Tells tree → from + length (mend tree s).line ≤ n

-- what is listed of a line, in numbers, and where its bytes end in the space
abbrev pub entry_of : Note → Option Listed
entry_of unlisted = None
entry_of (mended i ks) = Some (record { byte = i; which = added_up ks })
entry_of unmended = Some (record { byte = 0; which = 0 })

abbrev pub noted_by : Note → ℕ → Noted
noted_by n filled = record { filled = filled; entry = entry_of n }

pub record LineLaid : Type 0 where
  pub noted : Noted
  pub out : List ℕ

abbrev pub lays_line : Noted → List ℕ → LineLaid
lays_line r out = record { noted = r; out = out }

-- a line's mended bytes are laid
abbrev pub LaysLine : List ℕ → List ℕ → ℕ → LineLaid → Type 0
LaysLine s out from left =
    (tree : List ℕ → Form Line) → Tells tree
    → left ≡ lays_line (noted_by (mend tree s).note (from + length (mend tree s).line)) (laid_at out from (mend tree s).line)

-- three numbers are laid, where there is room for them
pub record Entered : Type 0 where
  pub used : ℕ
  pub list : List ℕ

abbrev pub enters : ℕ → List ℕ → Entered
enters used list = record { used = used; list = list }

unfoldable pub enter : List ℕ → ℕ → List ℕ → Entered
enter list used ns = cond (ltb (length list - used) 3) (enters used list) (enters (used + 3) (laid_at list used ns))

-- how far a text is put: what the spaces hold, how much of them is filled, and how many lines are put and listed
pub record Stand : Type 0 where
  pub out : List ℕ
  pub list : List ℕ
  pub filled : ℕ
  pub lines : ℕ
  pub listed : ℕ
  pub used : ℕ

abbrev pub stand : List ℕ → List ℕ → ℕ → ℕ → ℕ → ℕ → Stand
stand out list filled lines listed used = record { out = out; list = list; filled = filled; lines = lines; listed = listed; used = used }

-- the entry of a line, where it is listed
unfoldable pub noting : Note → ℕ → ℕ → List ℕ → Entered
noting n k used list = cond (is_listed n) (enter list used (numbers_of k n)) (enters used list)

-- a line is put, with its end
abbrev pub put_piece : (List ℕ → Form Line) → Piece → Stand → Stand
put_piece tree p st =
    let o = mend tree p.line in
    let s = o.line ++ p.end in
    let e = noting o.note (st.lines + 1) st.used st.list in
    stand (laid_at st.out st.filled s) e.list (st.filled + length s) (st.lines + 1) (st.listed + cond (is_listed o.note) 1 0) e.used

abbrev pub put_pieces : (List ℕ → Form Line) → List Piece → Stand → Stand
put_pieces tree [] st = st
put_pieces tree (p ∷ ps) st = put_pieces tree ps (put_piece tree p st)

abbrev pub standing : Held → List ℕ → List ℕ → Stand
standing h out list = stand out list h.filled h.lines h.listed h.used

-- there is room for a line and its end, and the counts can go on
pub record RoomFor (s e : List ℕ) (h : Held) (outLong listLong : ℕ) : Type 0 where
  pub bytes : (tree : List ℕ → Form Line) → Tells tree → h.filled + (length (mend tree s).line + length e) ≤ outLong
  pub numbers : h.used ≤ listLong
  pub lines : h.lines < 18446744073709551615
  pub listed : h.listed ≤ h.lines

abbrev pub Puts : Piece → Stand → Stand → Type 0
Puts p st after = (tree : List ℕ → Form Line) → Tells tree → after ≡ put_piece tree p st

abbrev pub PutsAll : List ℕ → List ℕ → List ℕ → Stand → Type 0
PutsAll text out list after = (tree : List ℕ → Form Line) → Tells tree → after ≡ put_pieces tree (pieces text) (stand out list 0 0 0 0)
