-- What a line reader owns is what its line owns, beside the facts of the place it has reached. The line's bytes are lent to be read
-- alone, so what is owned can be had twice.
-- Assumes nothing.
use mathlib.Core.Path.{◌≡◌, refl}
use Prim.Native.Nat.{ℕ, ◌<◌, ◌^◌}
use mathlib.Core.List.{List, [], ◌∷◌}
use seplogic.Ra.Ura.{Ura}
use mir.Syntax.{named, w64}
use mir.Val.{Val}
use base.Logic.{ent, sep}
use base.Fml.{Lft, Fml}
use types.Logic.{Logic, sem}
use types.Kit.{‵, given, ◌⊛◌, ◌$◌, ◌∵◌, !, qed, by, move, drop, use1, split, learn, fjoin, done}
use denote.RattleType.{RattleType}
use denote.Laws.{Is}
use denote.Plain.{uint_Makes}
use denote.Builtin.{u8, usize}
use denote.Ref.{Bor, NamedLft}
use denote.Slice.{ShrSlice, shr_slice_vals}
use denote.Steps.{nothing, owned}
use denote.Struct.Declared.{Declared}
use denote.Struct.Laws as LL
use denote.Struct.Rest.{all_own, field_own, rest, own_open, own_out, own_shut}
use denote.Struct.Values.{Values}
use Rattle.reader.specs.Cursor.{reader_at}
use Rattle.reader.specs.declared.cursor.Reader.{Reader}
use Rattle.reader.specs.contracts.cursor.Reader as T
use Rattle.reader.proofs.cursor.Reader.TheLaws as T'

-- the lifetime of a reader's line, as each signature names it first
abbrev pub first : Lft → NamedLft
first κ = record { mir = named 0; lft = κ }

-- a reader's type
abbrev pub reader : Lft → RattleType
reader κ = T.the_row (first κ)

-- the machine value of a reader
abbrev pub mach : Reader → Val
mach d = T'.lowered d

module _ (κ : Lft) where
  -- what a line owns, and what a reader owns
  abbrev pub Line : Bor (List ℕ) → Fml
  Line s = (ShrSlice (named 0) κ u8).own_val s (shr_slice_vals s)

  abbrev pub Own : Reader → Fml
  Own d = (reader κ).own_val d (mach d ∷ [])

module _ {M : Type 1} {𝓤 : Ura M} (𝓛 : Logic 𝓤) (κ : Lft) where
  abbrev D : Declared
  D = T.the_type (first κ)

  abbrev L : LL.Laws D
  L = T'.the_laws (first κ)

  abbrev fields : Reader → Values D.parts
  fields d = (d.line, (d.at, tt))

  -- a reader can be had twice
  pub twice : (d : Reader) → ent 𝓤 (sem 𝓛 (Own κ d)) (sep 𝓤 (sem 𝓛 (Own κ d)) (sem 𝓛 (Own κ d)))
  twice d = (LL.copy D (T'.the_copy (first κ)) 𝓛).twice d (mach d ∷ [])

  -- its line is taken out of it
  pub line_of : (d : Reader) → ent 𝓤 (sem 𝓛 (Own κ d)) (sem 𝓛 (Line κ d.line))
  line_of d =
      qed 𝓛 (‵ (Own κ d) ∷ []) ∵
      use1 𝓛 (given (mach d ∷ [] ≡ mach d ∷ []) (‵ (all_own D.parts L (fields d)))) (own_open 𝓛 D L (fields d) (mach d)) $ learn ! (λ _.
      use1 𝓛 (‵ (field_own D.parts L 0 d.line) ⊛ ‵ (rest D.parts L 0 (fields d))) (own_out 𝓛 D.parts L 0 (fields d)) $ split ! $ move ! (1 ∷ []) $ drop ! $ done !)

  -- and it is made of a line and a place
  pub made : (s : Bor (List ℕ)) (at : ℕ) → at < 2 ^ 64 → ent 𝓤 (sem 𝓛 (Line κ s)) (sem 𝓛 (Own κ (reader_at s at)))
  made s at fits =
      qed 𝓛 (‵ (Line κ s) ∷ []) ∵
      nothing ! $ owned ! usize (Is usize) (uint_Makes 𝓛 w64) at _ (refl, fits) $ fjoin ! $ move ! (1 ∷ 0 ∷ []) $ fjoin ! $ by ! (own_shut 𝓛 D L (s, (at, tt)))
