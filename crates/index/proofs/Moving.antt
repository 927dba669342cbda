-- What the old and the new line bear: at most one entry comes in, and what the code knows of line k is what the text says.
-- Assumes nothing.
use mathlib.Core.Path.{◌≡◌, sym, ap, ◌∙◌}
use mathlib.Core.List.{List, [], ◌∷◌}
use Rattle.std.specs.Prelude.{Option, None, Some, slice_range}
use Prim.Native.Nat.{ℕ, suc, ◌-◌, ◌≤◌}
use native.Mathlib.Omega.{arith}
use Rattle.std.proofs.lemmas.Bool.Decides.{nat_tests}
use lib.ListN.{length, drop}
use Rattle.grammar.specs.Grammar.{Line}
use Rattle.grammar.specs.Derivation.{Form}
use Rattle.texts.specs.Ends.{Piece, pieces}
use Rattle.texts.proofs.Rightness.{model}
use Rattle.index.specs.Index.{borne, Place, first_from, Entry, put, start_at}
use Rattle.index.specs.Update.{moved, entered, brought}
use Rattle.index.specs.Lines.{LineAt}
use Rattle.index.specs.declared.lines.Line.{Line as Lined}

put_few : (n : ℕ) (o : Option Place) (es : List Entry) → length (put n o es) ≤ suc (length es)
put_few n None [] = omega arith
put_few n (Some p) [] = omega arith
put_few n None (e ∷ es) = grind (arith, nat_tests, put_few n None es)
put_few n (Some p) (e ∷ es) = grind (arith, nat_tests, put_few n (Some p) es)

-- at most one entry comes in
pub moved_few : (tree : List ℕ → Form Line) (old new : Option ℕ) (k next : ℕ) (later : List Piece) (es : List Entry) → length (moved tree old new k next later es) ≤ suc (length es)
moved_few tree None new k next later es = omega arith
moved_few tree (Some o) new k next later es = grind (arith, nat_tests, put_few o (first_from tree o (suc k) next later) es)

-- what the code knows of line k is what the text says
pub brought_is : {text : List ℕ} {k : ℕ} {l : Lined} → LineAt text k l → (es : List Entry) (new : List ℕ) {o n : Option ℕ} → o ≡ borne model (slice_range text l.start l.end) → n ≡ borne model new
    → entered n k l.start (moved model o n k l.next (pieces (drop l.next text)) es) ≡ brought model text es k (slice_range text l.start l.end) new
brought_is {text} {k} {l} w es new {o} {n} e f =
    ap (λ (x : Option ℕ). entered n k l.start (moved model x n k l.next (pieces (drop l.next text)) es)) e
    ∙ ap (λ (x : Option ℕ). entered x k l.start (moved model (borne model (slice_range text l.start l.end)) x k l.next (pieces (drop l.next text)) es)) f
    ∙ ap (λ (x : ℕ). entered (borne model new) k x (moved model (borne model (slice_range text l.start l.end)) (borne model new) k l.next (pieces (drop l.next text)) es)) (sym w.start)
    ∙ ap (λ (x : ℕ). entered (borne model new) k (start_at (k - 1) (pieces text)) (moved model (borne model (slice_range text l.start l.end)) (borne model new) k x (pieces (drop l.next text)) es)) (sym w.after)
    ∙ ap (λ (x : List Piece). entered (borne model new) k (start_at (k - 1) (pieces text)) (moved model (borne model (slice_range text l.start l.end)) (borne model new) k (start_at k (pieces text)) x es)) (sym w.later)
