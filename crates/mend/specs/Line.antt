-- What the call for one line promises.
-- Assumes nothing.
use Rattle.std.specs.Prelude.{◌≡◌, Result, Ok, Err, cond, List, [], ◌∷◌, ◌++◌, ℕ, ◌+◌, ◌*◌, ◌≤◌, eqb, leb, length, take, drop}
use Rattle.grammar.specs.Bytes.{among}
use Rattle.grammar.specs.Grammar.{Line}
use Rattle.grammar.specs.Derivation.{Form}
use Rattle.texts.specs.Form.{Tells}
use Rattle.mend.specs.Repairs.{repaired}
use Rattle.mend.specs.Mend.{which, Note, unlisted, mended, unmended, Outcome, mend}
use Rattle.mend.specs.declared.line.NoSpace.{NoSpace}
use Rattle.mend.specs.declared.line.Repairs.{Repairs}
use Rattle.mend.specs.declared.line.Mended.{Mended}
use Rattle.mend.specs.declared.line.Mended.TheVariants.{Already, Better, Beyond}
use Rattle.mend.specs.declared.line.Repair.{Repair}

-- "which of the three" as one number: 1 for the `%`, 2 for the remark and 4 for the nested comments, added up
abbrev pub added_up : List ℕ → ℕ
added_up [] = 0
added_up (k ∷ ks) = cond (eqb k 3) 4 k + added_up ks

-- the same number, where each repair is told by itself
abbrev pub number_of : Repairs → ℕ
number_of r = cond r.percent 1 0 + 2 * cond r.remark 1 0 + 4 * cond r.nested 1 0

-- the repairs told so, each by itself
abbrev pub repairs_in : List ℕ → Repairs
repairs_in ks = record { percent = among 1 ks; remark = among 2 ks; nested = among 3 ks }

abbrev pub no_space : NoSpace
no_space = record {}

-- what a call leaves: its answer, and what the space holds then
pub record Left : Type 0 where
  pub answer : Result Mended NoSpace
  pub out : List ℕ

abbrev pub leaves : Result Mended NoSpace → List ℕ → Left
leaves r out = record { answer = r; out = out }

-- a mended line stands in front of the space, if that is long enough
unfoldable pub put : List ℕ → ℕ → List ℕ → List ℕ → Left
put l i ks out = cond (leb (length l) (length out)) (leaves (Ok (Better (length l) i (repairs_in ks))) (l ++ drop (length l) out)) (leaves (Err no_space) out)

-- by what is listed of it: a line that is not mended is not written
abbrev pub by_note : List ℕ → Note → List ℕ → Left
by_note l unlisted out = leaves (Ok Already) out
by_note l (mended i ks) out = put l i ks out
by_note l unmended out = leaves (Ok Beyond) out

abbrev pub left_by : Outcome → List ℕ → Left
left_by o out = by_note o.line o.note out

-- the promise for a line: whatever tells every line's derivation, or that it has none, tells the answer and what the space holds
abbrev pub MendsLine : List ℕ → List ℕ → Left → Type 0
MendsLine s out left = (tree : List ℕ → Form Line) → Tells tree → left ≡ left_by (mend tree s) out

-- the front of a space is a line's mended text, and the repairs that changed it are told
pub record Repaired (s : List ℕ) (r : Repair) (space : List ℕ) : Type 0 where
  pub long : length space ≡ 257
  pub within : r.length ≤ 257
  pub text : take r.length space ≡ repaired s
  pub by : r.repairs ≡ repairs_in (which s)
