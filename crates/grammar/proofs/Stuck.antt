-- Request 2 of document 02: every line has one place at which its form breaks, and for a line of wrong form it is where the model reader stops, carried back
-- from the prepared line to the typed one.
-- Assumes nothing.
use mathlib.Core.Path.{◌≡◌, refl, sym, ap, ap₂, subst, ◌∙◌}
use mathlib.Core.Bool.{false}
use mathlib.Core.List.{List, [], ◌∷◌, ◌++◌, append_assoc, append-nil}
use mathlib.Core.Logic.{⊎_elim}
use mathlib.Core.Option.{none, some}
use Prim.Native.Nat.{ℕ, zero, suc, ◌-◌, ◌≤◌, ◌<◌}
use native.Mathlib.Omega.{arith}
use native.Mathlib.Decide.{dec_le}
use native.Mathlib.Nat.{lt_of_not-le}
use lib.ListN.{length, take, drop, length-append, take-append-drop}
use lib.Seq.{take_at, take-take, take-length}
use Rattle.grammar.specs.Grammar.{Line, LineOk, write}
use Rattle.grammar.specs.Derivation.{strip, Derives, RightBeginning, Place}
use Rattle.grammar.proofs.Read.{Read, fail, got, bind, map_r, read_line, read_mark, read_label, read_item, read_items, items_of, answer}
use Rattle.grammar.proofs.LineBack.{line_back}
use Rattle.grammar.proofs.Derivations.{missed, decided}
use Rattle.grammar.proofs.Fuel.{shorter}
use Rattle.grammar.proofs.Viable.{Begins, Stops, goes, past, line_stops}
use Rattle.grammar.proofs.Local.{line_local}
use Rattle.grammar.specs.Typed.{prepare, typed_from}
use Rattle.grammar.proofs.Preparing.{mode, prepare_append, twice, write_prepared, Carried, carried}

-- ---- the model reader reads a line to its end, or stops

pub data Whole {A : Type 0} : Read A → Type 0 where
  broken : {q : List ℕ} → Whole (fail q)
  whole : {a : A} → Whole (got a [])

pub map_whole : {A B : Type 0} (g : A → B) {m : Read A} → Whole m → Whole (map_r g m)
map_whole g broken = broken
map_whole g whole = whole

bind_whole : {A B : Type 0} (m : Read A) (k : A → List ℕ → Read B) → ((a : A) (r : List ℕ) → Whole (k a r)) → Whole (bind m k)
bind_whole (fail q) k h = broken
bind_whole (got a r) k h = h a r

items_read : (f : ℕ) (s : List ℕ) → Whole (read_items f s)
items_read zero s = broken
items_read (suc f) [] = whole
items_read (suc f) (b ∷ s) = bind_whole (read_item (b ∷ s)) _ (λ i r. map_whole (λ l. i ∷ l) (items_read f r))

pub line_read : (s : List ℕ) → Whole (read_line s)
unfolding items_of
line_read s = bind_whole (read_mark s) _ (λ m r. bind_whole (read_label r) _ (λ n q. map_whole _ (items_read (suc (length q)) q)))

-- the bytes left where it stopped
abbrev pub left_by : {A : Type 0} → Read A → List ℕ
left_by (fail q) = q
left_by (got t q) = q

-- the first place of prepared bytes at which the model reader could not go on
unfoldable pub stuck : List ℕ → ℕ
stuck s = length s - length (left_by (read_line s))

pub none_fails : (l : List ℕ) → ((t : Line) → ¬ Derives t l) → (q : List ℕ) × (read_line (strip l) ≡ fail q)
none_fails l h = go (read_line (strip l)) refl (line_read (strip l)) (missed h)
  where
    go : (m : Read Line) → read_line (strip l) ≡ m → Whole m → answer (read_line (strip l)) ≡ none → (q : List ℕ) × (read_line (strip l) ≡ fail q)
    go (fail q) e w n = (q, e)
    go (got t []) e whole n = absurd (let k : some t ≡ none = sym (ap answer e) ∙ n in let z : ◌≡◌ {A = ℕ} 0 1 = cc in omega arith)
    go (got t (_ ∷ _)) e w n = elim w [ ]

-- ---- of the prepared line: some right line begins with the bytes that were passed, and none with those and the byte after them

pub record FirstWrong (s : List ℕ) (p : ℕ) : Type 0 where
  pub begins : Begins write LineOk (take p s)
  pub stops : p < length s → ¬ Begins write LineOk (take (suc p) s)

module _ (s x q : List ℕ) (e : s ≡ x ++ q) where
  passed : take (length s - length q) s ≡ x
  passed = ap (take (length s - length q)) e ∙ take_at x q (length s - length q) (let k = shorter s x q e in omega arith)

no_further : (s x : List ℕ) (b : ℕ) (q : List ℕ) → s ≡ x ++ (b ∷ q) → read_line s ≡ fail (b ∷ q) → ¬ Begins write LineOk (x ++ (b ∷ []))
no_further s x b q e f r =
    let back : read_line (x ++ (b ∷ r.rest)) ≡ got r.tree [] = ap read_line (sym (r.writes ∙ append_assoc x (b ∷ []) r.rest)) ∙ line_back r.tree r.ok in
    let here : read_line (x ++ (b ∷ r.rest)) ≡ fail (b ∷ r.rest) = line_local b q r.rest x (ap read_line (sym e) ∙ f) in
    let z : ◌≡◌ {A = ℕ} 0 1 = cc in
    omega arith

one_byte_more : (s x : List ℕ) (b : ℕ) (q : List ℕ) → s ≡ x ++ (b ∷ q) → take (suc (length s - length (b ∷ q))) s ≡ x ++ (b ∷ [])
one_byte_more s x b q e =
    let d : s ≡ (x ++ (b ∷ [])) ++ q = e ∙ sym (append_assoc x (b ∷ []) q) in
    ap (take (suc (length s - length (b ∷ q)))) d
    ∙ take_at (x ++ (b ∷ [])) q (suc (length s - length (b ∷ q))) (let k = shorter s x (b ∷ q) e in let j = length-append x (b ∷ []) in omega arith)

first_wrong : (s q : List ℕ) → read_line s ≡ fail q → {m : Read Line} → m ≡ fail q → Stops write LineOk s m → FirstWrong s (length s - length q)
first_wrong s q f h goes = absurd (let z : ◌≡◌ {A = ℕ} 0 1 = cc in omega arith)
first_wrong s q f h (past {q = r} x e b) = same q f (let k : r ≡ q = cc in e ∙ ap (λ (y : List ℕ). x ++ y) k)
  where
    same : (q : List ℕ) → read_line s ≡ fail q → s ≡ x ++ q → FirstWrong s (length s - length q)
    same q f e = record {
      begins = record { tree = b.tree; ok = b.ok; rest = b.rest; writes = b.writes ∙ ap (λ (y : List ℕ). y ++ b.rest) (sym (passed s x q e)) };
      stops = further q f e;
    }
      where
        further : (q : List ℕ) → read_line s ≡ fail q → s ≡ x ++ q → length s - length q < length s → ¬ Begins write LineOk (take (suc (length s - length q)) s)
        further [] f e h r = omega arith
        further (c ∷ q) f e h r = no_further s x c q e f (rw (one_byte_more s x c q e) at r)

pub stuck_first : (l : List ℕ) → ((t : Line) → ¬ Derives t l) → FirstWrong (strip l) (stuck (strip l))
unfolding stuck
stuck_first l n = let k = none_fails l n in rw k.1 (first_wrong (strip l) k.0 k.1 k.1 (line_stops (strip l)))

-- ---- of the typed line

-- typed bytes that are prepared to a right beginning are one: what follows there can be typed as it is
typed_begins : (x : List ℕ) → Begins write LineOk (strip x) → RightBeginning x
typed_begins x b =
    let t = twice false x in
    let cut : strip (strip x ++ b.rest) ≡ strip x ++ prepare (mode false x) b.rest = prepare_append false (strip x) b.rest ∙ ap₂ (λ l d. l ++ prepare d b.rest) t.0 t.1 in
    let same : strip (strip x ++ b.rest) ≡ write b.tree = ap strip (sym b.writes) ∙ write_prepared b.tree b.ok in
    record { rest = b.rest; tree = b.tree; derives = record { ok = b.ok; writes = prepare_append false x b.rest ∙ sym cut ∙ same } }

-- and a right beginning is prepared to one
prepared_begins : (x : List ℕ) → RightBeginning x → Begins write LineOk (strip x)
prepared_begins x r = record { tree = r.tree; ok = r.derives.ok; rest = prepare (mode false x) r.rest; writes = sym r.derives.writes ∙ prepare_append false x r.rest }

-- a shorter beginning of a line is one where a longer one is
shorter_begins : (j k : ℕ) (s : List ℕ) → j ≤ k → RightBeginning (take k s) → RightBeginning (take j s)
shorter_begins j k s h r =
    let cut : take j s ++ drop j (take k s) ≡ take k s = ap (λ (l : List ℕ). l ++ drop j (take k s)) (sym (take-take j k s h)) ∙ take-append-drop j (take k s) in
    record {
      rest = drop j (take k s) ++ r.rest;
      tree = r.tree;
      derives = subst (Derives r.tree) (ap (λ (l : List ℕ). l ++ r.rest) (sym cut) ∙ append_assoc (take j s) (drop j (take k s)) r.rest) r.derives;
    }

-- where the form of a typed line that has no derivation breaks
abbrev pub stuck_at : List ℕ → ℕ
stuck_at l = typed_from false l (stuck (strip l))

pub breaks : (l : List ℕ) → ((t : Line) → ¬ Derives t l) → Place l (stuck_at l)
breaks l none_at_all =
    let c = carried false l (stuck (strip l)) in
    let f = stuck_first l none_at_all in
    record {
      within = c.within;
      begins = typed_begins (take (stuck_at l) l) (subst (Begins write LineOk) (sym c.before) f.begins);
      longest = λ k h r. elim (dec_le k (stuck_at l)) [
        | yes y ↦ y
        | no n ↦ absurd (beyond c f k h (lt_of_not-le n) r)
      ];
    }
  where
    beyond : Carried false l (stuck (strip l)) (stuck_at l) → FirstWrong (strip l) (stuck (strip l)) → (k : ℕ) → k ≤ length l → stuck_at l < k → RightBeginning (take k l) → ⊥
    beyond c f k h n r = elim (dec_le (length (strip l)) (stuck (strip l))) [
      | yes y ↦ omega (arith, c.ends y)
      | no y ↦
          let p = lt_of_not-le y in
          f.stops p (subst (Begins write LineOk) (c.onto p).1 (prepared_begins (take (suc (stuck_at l)) l) (shorter_begins (suc (stuck_at l)) k l n r)))
    ]

-- a line of right form goes on to its end
pub whole_place : {t : Line} {s : List ℕ} → Derives t s → Place s (length s)
whole_place {t} {s} d = record {
  within = omega arith;
  begins = record { rest = []; tree = t; derives = subst (Derives t) (sym (append-nil (take (length s) s) ∙ take-length s)) d };
  longest = λ k h r. h;
}

-- every line has a place, and only one
pub placed : (s : List ℕ) → (n : ℕ) × Place s n
placed s = ⊎_elim (λ w. (length s, whole_place w.1)) (λ h. (stuck_at s, breaks s h)) (decided s)

pub place_one : {s : List ℕ} {n m : ℕ} → Place s n → Place s m → n ≡ m
place_one {s} {n} {m} p q =
    let a = q.longest n p.within p.begins in
    let b = p.longest m q.within q.begins in
    omega arith
