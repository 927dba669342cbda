-- What the calls leave, from what their parts do: whoever tells the lines' forms, the index is the same.
-- Assumes nothing.
use mathlib.Core.Path.{◌≡◌, refl, sym, ap, ap₂, ◌∙◌}
use mathlib.Core.Bool.{Bool, true, false, cond}
use mathlib.Core.List.{List, [], ◌++◌, append_assoc}
use Rattle.std.specs.Prelude.{Option, None, Some, Result, Ok, Err, slice_range}
use Prim.Native.Nat.{ℕ, suc, ◌+◌, ◌-◌, ◌*◌, ◌≤◌, ◌<◌, min}
use native.Mathlib.Omega.{arith}
use native.Mathlib.Decide.{dec_lt}
use borrow.Author.Tests.{lt-ltb, le-ltb}
use Rattle.std.proofs.lemmas.Bool.Decides.{nat_tests}
use lib.ListN.{length, take, drop}
use lib.Seq.{paste, take-length, take-append_seam}
use Rattle.std.proofs.lemmas.List.{take_min}
use Rattle.grammar.specs.Grammar.{Line}
use Rattle.grammar.specs.Derivation.{Form}
use Rattle.texts.specs.Form.{Tells}
use Rattle.texts.proofs.Rightness.{model, model_tells, same_told}
use Rattle.index.specs.Index.{Entry, Refusal, TextTooLong, UnfitLine, IndexOf, Indexed, refused, index_most, built, line_of, text_with, unfit, limited, swapped, build, replace_afresh}
use Rattle.index.specs.Held.{held, kept, flat, after, afterwards, over, answer_of, handed}
use Rattle.index.specs.Update.{brought, bring}
use Rattle.index.specs.Lines.{LineAt, refusal_of}
use Rattle.index.specs.Space.{Gathered, Builds, Replaces}
use Rattle.index.specs.declared.lines.Line.{Line as Lined}
use Rattle.index.proofs.Numbers.{flat_long, held_flat}
use Rattle.index.proofs.Built.{built_is, index_told, build_30, build_31, build_0}
use Rattle.index.proofs.Walking.{part_long}
use Rattle.index.proofs.Replaced.{fits, bytes_with}
use Rattle.index.proofs.Bringing.{bring_is}

module _ (text old : List ℕ) where
  pub long_text : 60000 < length text → Builds text old (Err TextTooLong) old
  long_text h tree told = ap (λ (x : Indexed). afterwards x old) (sym (build_30 tree text [] h))

  -- the entries gathered are handed over
  pub built_index : length text ≤ 60000 → {es : List Entry} → Gathered text es → {r : Result ℕ Refusal} {new : List ℕ} → r ≡ answer_of es → new ≡ handed es old → Builds text old r new
  built_index h {es} q {r} {new} a b tree told = ap₂ (λ (x : Result ℕ Refusal) (y : List ℕ). after x text y) a b ∙ go (dec_lt 2000 (length es))
    where
      index_of : IndexOf tree text (built model text)
      index_of = index_told model_tells told (built_is model text)

      go : Dec (2000 < length es) → after (answer_of es) text (handed es old) ≡ afterwards (build tree text []) old
      go (yes k) = rw (lt-ltb index_most (length es) k) (ap (λ (x : Indexed). afterwards x old) (sym (build_31 tree text [] (built model text) h index_of (q.many k))))
      go (no k) =
          let l : length es ≤ index_most = omega arith in
          let e : es ≡ built model text = q.few l in
          rw (le-ltb index_most (length es) l) (ap (λ (x : Indexed). afterwards x old) (sym (build_0 tree text [] es h (rw e index_of) l)))

-- ---- a line replaced

-- whoever tells, it is one
one_told : {tree : List ℕ → Form Line} → Tells tree → tree ≡ model
one_told told = λ i s. same_told told model_tells s i

-- so many entries, or all 2,000
pub entries_of : (old : List ℕ) (count : ℕ) → length old ≡ 6000 → kept old (min count 2000) ≡ kept old count
entries_of old count l =
    let m : 3 * min count 2000 ≡ min (3 * count) 6000 = omega arith in
    ap (λ (x : ℕ). held (take x old)) m ∙ ap (λ (x : ℕ). held (take (min (3 * count) x) old)) (sym l) ∙ ap held (take_min (3 * count) old)

-- a new line that may not stand there is refused
swapped_not : (f : List ℕ → List ℕ → List Entry) (text : List ℕ) (es : List Entry) (k : ℕ) (line : List ℕ) {e : Refusal} (o : Option (List ℕ)) → refusal_of line o ≡ Some e
    → swapped f text es k line o ≡ refused e text es
swapped_not f text es k line None q = grind (arith, nat_tests)
swapped_not f text es k line (Some was) q = grind (arith, nat_tests)

-- the entries brought up to date, handed over
module _ (text text' old : List ℕ) (es was : List Entry) where
  left_31 : {e : Refusal} → answer_of es ≡ Err e → after (Err e) text (handed es old) ≡ afterwards (limited text was text' es) old
  left_31 q = grind (arith, nat_tests)

  left_0 : {r : ℕ} → answer_of es ≡ Ok r → after (Ok r) text' (handed es old) ≡ afterwards (limited text was text' es) old
  left_0 q = grind (arith, nat_tests)

module _ (text old : List ℕ) (count k : ℕ) (line : List ℕ) where
  -- by the model reader
  by_model : {r : Result ℕ Refusal} {text' new : List ℕ} → after r text' new ≡ afterwards (bring model text (kept old count) k line) old → Replaces text old count k line r text' new
  by_model e tree told = e ∙ ap (λ (t : List ℕ → Form Line). afterwards (bring t text (kept old count) k line) old) (sym (one_told told))

  pub replaced_30 : 60000 < length text → Replaces text old count k line (Err TextTooLong) text old
  unfolding bring
  replaced_30 h = by_model (sym (rw (lt-ltb 60000 (length text) h)))

  module _ (h : length text ≤ 60000) where
    pub replaced_not : {e : Refusal} → refusal_of line (line_of k text) ≡ Some e → Replaces text old count k line (Err e) text old
    unfolding bring
    replaced_not {e} q =
        by_model (sym (rw (le-ltb 60000 (length text) h) (ap (λ (x : Indexed). afterwards x old) (swapped_not (λ was text'. brought model text (kept old count) k was line) text (kept old count) k line (line_of k text) q))))

    module _ {l : Lined} (w : LineAt text k l) (q : refusal_of line (line_of k text) ≡ None) where
      was : List ℕ
      was = slice_range text l.start l.end

      lined : line_of k text ≡ Some was
      unfolding was
      lined = let e : k ≡ suc (k - 1) = omega (arith, w.counts) in ap (λ (x : ℕ). line_of x text) e ∙ w.line

      fit : unfit was line ≡ false
      fit = go (unfit was line) (ap (refusal_of line) (sym lined) ∙ q)
        where
          go : (t : Bool) → cond t (Some UnfitLine) None ≡ None → t ≡ false
          go true g = cc
          go false g = refl

      -- the new line is as long as the old one
      pub same_length : length line ≡ l.end - l.start
      unfolding was
      same_length = (fits was line fit).long ∙ part_long text l.start l.end (omega (arith, w.behind, w.within))

      now : List Entry
      now = brought model text (kept old count) k was line

      brings : bring model text (kept old count) k line ≡ limited text (kept old count) (text_with k line text) now
      unfolding bring now
      brings = rw (le-ltb 60000 (length text) h, lined, fit)

      new_text : paste text l.start line (length line) ≡ text_with k line text
      unfolding was
      new_text =
          let i : k ≡ suc (k - 1) = omega (arith, w.counts) in
          append_assoc (take l.start text) (take (length line) line) (drop (l.start + length line) text)
          ∙ ap (λ (x : List ℕ). take l.start text ++ (x ++ drop (l.start + length line) text)) (take-length line)
          ∙ ap (λ (x : ℕ). take x text ++ (line ++ drop (x + length line) text)) (sym w.start)
          ∙ sym (bytes_with text (k - 1) was line w.line ((fits was line fit).long))
          ∙ ap (λ (x : ℕ). text_with x line text) (sym i)

      module _ {es : List Entry} (g : es ≡ brought model text (kept old count) k (slice_range text l.start l.end) line) {new : List ℕ} (n : new ≡ handed es old) where
        here : es ≡ now
        unfolding now was
        here = g

        pub replaced_31 : {e : Refusal} → answer_of es ≡ Err e → Replaces text old count k line (Err e) text new
        replaced_31 {e} a =
            by_model (ap (after (Err e) text) n ∙ left_31 text (text_with k line text) old es (kept old count) a
            ∙ ap (λ (x : List Entry). afterwards (limited text (kept old count) (text_with k line text) x) old) here ∙ ap (λ (x : Indexed). afterwards x old) (sym brings))

        pub replaced_0 : {r : ℕ} → answer_of es ≡ Ok r → {text' : List ℕ} → text' ≡ paste text l.start line (length line) → Replaces text old count k line (Ok r) text' new
        replaced_0 {r} a {text'} t =
            by_model (ap₂ (after (Ok r)) (t ∙ new_text) n ∙ left_0 text (text_with k line text) old es (kept old count) a
            ∙ ap (λ (x : List Entry). afterwards (limited text (kept old count) (text_with k line text) x) old) here ∙ ap (λ (x : Indexed). afterwards x old) (sym brings))

-- ---- what the promises come to, where the entries are the text's index

-- "the index brought up to date equals one built afresh"
pub replaced_afresh : (text old : List ℕ) (count k : ℕ) (line : List ℕ) {r : Result ℕ Refusal} {text' new : List ℕ} → Replaces text old count k line r text' new
    → {tree : List ℕ → Form Line} → Tells tree → IndexOf tree text (kept old count) → after r text' new ≡ afterwards (replace_afresh tree text (kept old count) k line) old
replaced_afresh text old count k line p {tree} told i = p tree told ∙ ap (λ (x : Indexed). afterwards x old) (bring_is tree text (kept old count) k line i)

-- what was handed over is held
pub over_held : (es : List Entry) (old : List ℕ) → kept (over es old) (length es) ≡ es
over_held es old =
    ap (λ (x : ℕ). held (take x (over es old))) (sym (flat_long es)) ∙ ap held (take-append_seam (flat es) (drop (length (flat es)) old)) ∙ held_flat es
