-- A call takes a byte at least, or the run has ended.
-- Assumes nothing.
use Rattle.std.proofs.Common.{◌≡◌, refl, sym, ap, ◌∙◌, Bool, true, false, cond, ◌||◌, List, [], ◌∷◌, ℕ, suc, ◌+◌, ◌≤◌, ◌<◌, length, arith}
use Rattle.std.proofs.lemmas.Bool.{false≢true, le-ltb}
use Rattle.grammar.specs.Grammar.{Line}
use Rattle.grammar.specs.Derivation.{Form}
use Rattle.run.specs.Stands.{Stand, Taken, taken, ending, stepped, crowded, stopped, overfull, fed, feeding}
use Rattle.run.specs.Promised.{Feeds}
use Rattle.run.proofs.Branches.{reads, reads_tell}

fed_least : (tree : List ℕ → Form Line) (many : ℕ) (st : Stand) (s : List ℕ) → many ≤ (fed tree many st s).many
fed_least tree many st [] = omega arith
fed_least tree many st (b ∷ s) = by (stopped st) (fed_least tree (suc many) (stepped tree st b) s)
  where
    by : (t : Bool) → suc many ≤ (fed tree (suc many) (stepped tree st b) s).many → many ≤ (cond t (taken st many) (fed tree (suc many) (stepped tree st b) s)).many
    by true w = omega arith
    by false w = omega (arith, w)

-- a text that is empty has room for a line
not_crowded : (st : Stand) → st.filled ≡ 0 → 657 ≤ length st.text → crowded st ≡ false
not_crowded st empty room = le-ltb (length st.text) (st.filled + 657) (omega arith)

first_of : (a b : Bool) → (a || b) ≡ true → b ≡ false → a ≡ true
first_of true b e f = refl
first_of false b e f = sym f ∙ e

pub goes_on : {t : Taken} (st : Stand) (piece : List ℕ) → st.filled ≡ 0 → 657 ≤ length st.text → 0 < length piece → Feeds st piece t → t.stand.state.ended ≡ false → 0 < t.many
unfolding feeding
goes_on {t} st piece empty room some w going = by (overfull st) t (w reads reads_tell) going
  where
    first : (p : List ℕ) → 0 < length p → (x : Taken) → x ≡ fed reads 0 st p → x.stand.state.ended ≡ false → 0 < x.many
    first [] h x e g = absurd (omega arith)
    first (b ∷ s) h x e g = on (stopped st) refl e
      where
        on : (o : Bool) → stopped st ≡ o → x ≡ cond o (taken st 0) (fed reads 1 (stepped reads st b) s) → 0 < x.many
        on true p q =
            let over : st.state.ended ≡ true = first_of st.state.ended (crowded st) p (not_crowded st empty room) in
            absurd (false≢true (sym g ∙ ap (λ (y : Taken). y.stand.state.ended) q ∙ over))
        on false p q = omega (arith, fed_least reads 1 (stepped reads st b) s, ap (λ (y : Taken). y.many) q)

    by : (o : Bool) (x : Taken) → x ≡ cond o (taken (ending st) 0) (fed reads 0 st piece) → x.stand.state.ended ≡ false → 0 < x.many
    by true x e g = absurd (false≢true (sym g ∙ ap (λ (y : Taken). y.stand.state.ended) e))
    by false x e g = first piece some x e g
