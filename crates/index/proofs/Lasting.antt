-- From call to call the index stays the text's: what `build` and `replace` leave is the index of the text that they leave.
-- Assumes nothing.
use mathlib.Core.Path.{◌≡◌, ap, ap₂, ◌∙◌}
use mathlib.Core.Bool.{Bool, true, false, cond}
use mathlib.Core.List.{List, []}
use Rattle.std.specs.Prelude.{Option, None, Some, Result, Ok, Err}
use Prim.Native.Nat.{ℕ}
use lib.Dec.{ltb}
use lib.ListN.{length}
use Rattle.grammar.specs.Grammar.{Line}
use Rattle.grammar.specs.Derivation.{Form}
use Rattle.texts.specs.Form.{Tells}
use Rattle.index.specs.Index.{Entry, Refusal, IndexOf, indexed, built, text_most, index_most, build, line_of, text_with, unfit, swapped, replace_afresh, TextTooLong, TooManyNumbers, UnfitLine, refused}
use Rattle.index.specs.Held.{kept, After, after, afterwards, over}
use Rattle.index.specs.Space.{Builds, Replaces}
use Rattle.index.proofs.Built.{built_is}
use Rattle.index.proofs.Handing.{over_held, replaced_afresh}

-- no refusal is an index
no_entries : {X : Type 0} {r : ℕ} {n : Refusal} {text text' new old : List ℕ} → after (Ok r) text new ≡ after (Err n) text' old → X
no_entries {X} {r} {n} e =
    let a : ◌≡◌ {A = Result ℕ Refusal} (Ok r) (Err n) = ap (λ (x : After). x.answer) e in
    cc

-- entries that were handed over are there
handed : {tree : List ℕ → Form Line} {r : ℕ} {text text' new : List ℕ} (old : List ℕ) (es : List Entry) → IndexOf tree text' es → after (Ok r) text new ≡ after (Ok (length es)) text' (over es old) → IndexOf tree text (kept new r)
handed {tree} {r} {text} {text'} {new} old es i e =
    let a : ◌≡◌ {A = Result ℕ Refusal} (Ok r) (Ok (length es)) = ap (λ (x : After). x.answer) e in
    let n : r ≡ length es = cc in
    let t : text ≡ text' = ap (λ (x : After). x.text) e in
    let k : kept new r ≡ es = ap₂ kept (ap (λ (x : After). x.index) e) n ∙ over_held es old in
    rw (t, k) i

pub build_lasts : (text old : List ℕ) {r : ℕ} {new : List ℕ} → Builds text old (Ok r) new → {tree : List ℕ → Form Line} → Tells tree → IndexOf tree text (kept new r)
unfolding build
build_lasts text old {r} {new} p {tree} told = go (ltb text_most (length text)) (ltb index_most (length (built tree text))) (p tree told)
  where
    go : (t u : Bool) → after (Ok r) text new ≡ afterwards (cond t (refused TextTooLong text []) (cond u (refused TooManyNumbers text []) (indexed text (built tree text)))) old → IndexOf tree text (kept new r)
    go true u e = no_entries e
    go false true e = no_entries e
    go false false e = handed old (built tree text) (built_is tree text) e

pub replace_lasts : (text old : List ℕ) (count k : ℕ) (line : List ℕ) {r : ℕ} {text' new : List ℕ} → Replaces text old count k line (Ok r) text' new
    → {tree : List ℕ → Form Line} → Tells tree → IndexOf tree text (kept old count) → IndexOf tree text' (kept new r)
unfolding replace_afresh
replace_lasts text old count k line {r} {text'} {new} p {tree} told i = go (ltb text_most (length text)) (line_of k text) (replaced_afresh text old count k line p told i)
  where
    by : (was : List ℕ) (t u : Bool)
        → after (Ok r) text' new ≡ afterwards (cond t (refused UnfitLine text (kept old count)) (cond u (refused TooManyNumbers text (kept old count)) (indexed (text_with k line text) (built tree (text_with k line text))))) old
        → IndexOf tree text' (kept new r)
    by was true u e = no_entries e
    by was false true e = no_entries e
    by was false false e = handed old (built tree (text_with k line text)) (built_is tree (text_with k line text)) e

    go : (t : Bool) (o : Option (List ℕ)) → after (Ok r) text' new ≡ afterwards (cond t (refused TextTooLong text (kept old count)) (swapped (λ was text''. built tree text'') text (kept old count) k line o)) old → IndexOf tree text' (kept new r)
    go true o e = no_entries e
    go false None e = no_entries e
    go false (Some was) e = by was (unfit was line) (ltb index_most (length (built tree (text_with k line text)))) e
