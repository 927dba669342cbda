-- Preparing a line byte by byte: it can be cut anywhere, what a tree writes is prepared already, and each prepared byte has its place in the typed line.
-- Assumes nothing.
use mathlib.Core.Path.{◌≡◌, refl, ap, ◌∙◌, sym}
use mathlib.Core.Bool.{Bool, true, false, cond, not}
use mathlib.Core.List.{List, [], ◌∷◌, ◌++◌, append_assoc}
use Prim.Native.Nat.{ℕ, zero, suc, ◌≤◌, ◌<◌}
use native.Mathlib.Omega.{arith}
use lib.Dec.{T, eqb, eqb→eq}
use lib.ListN.{length, take}
use Rattle.laws.proofs.Bools.{and_left, and_right, T-eq, not_eq}
use Rattle.grammar.specs.Bytes.{byte, bytes, all}
use Rattle.grammar.specs.Grammar.{Item, word, setting, comment, Line, line, remark, write_value, write_item, write_items, write_mark, write_label, write, ItemsOk, LineOk}
use Rattle.grammar.specs.Derivation.{blank, raise, strip, inside}
use Rattle.grammar.specs.Typed.{prepare, keeps, as_kept, stays, typed_from}
use Rattle.grammar.proofs.Settled.{bare, settled, all_append, no_closing, raised, value_settled, letter_settled, label_settled, mark_settled}

-- ---- one byte after another

-- a blank opens no comment
blank_opens : (b : ℕ) → blank b ≡ true → eqb b (byte "(") ≡ false
blank_opens b e = go (eqb b 40) refl
  where
    go : (c : Bool) → eqb b 40 ≡ c → c ≡ false
    go false p = refl
    go true p = absurd (let z : T (blank b) = rw e tt in rw (eqb→eq b 40 (rw p tt)) at z)

prepare_one : (c : Bool) (b : ℕ) (s : List ℕ) → prepare c (b ∷ s) ≡ cond (keeps c b) (as_kept c b ∷ prepare (stays c b) s) (prepare (stays c b) s)
unfolding strip inside
prepare_one false b s = go (blank b) (eqb b 40) (blank_opens b)
  where
    go : (x y : Bool) → (x ≡ true → y ≡ false) → cond x (strip s) (raise b ∷ cond y (inside s) (strip s)) ≡ cond (not x) (raise b ∷ prepare y s) (prepare y s)
    go true y f = rw (f refl)
    go false true f = refl
    go false false f = refl
prepare_one true b s = go (eqb b 41)
  where
    go : (x : Bool) → b ∷ cond x (strip s) (inside s) ≡ b ∷ prepare (not x) s
    go true = refl
    go false = refl

pub prepare_none : (c : Bool) → prepare c [] ≡ []
unfolding strip inside
prepare_none false = refl
prepare_none true = refl

-- whether the byte after these stands in a comment
abbrev pub mode : Bool → List ℕ → Bool
mode c [] = c
mode c (b ∷ s) = mode (stays c b) s

pub prepare_append : (c : Bool) (x y : List ℕ) → prepare c (x ++ y) ≡ prepare c x ++ prepare (mode c x) y
prepare_append c [] y = rw (prepare_none c)
prepare_append c (b ∷ x) y = prepare_one c b (x ++ y) ∙ go (keeps c b) (prepare_append (stays c b) x y) ∙ sym (ap (λ (l : List ℕ). l ++ prepare (mode (stays c b) x) y) (prepare_one c b x))
  where
    go : (k : Bool) → prepare (stays c b) (x ++ y) ≡ prepare (stays c b) x ++ prepare (mode (stays c b) x) y →
        cond k (as_kept c b ∷ prepare (stays c b) (x ++ y)) (prepare (stays c b) (x ++ y)) ≡ cond k (as_kept c b ∷ prepare (stays c b) x) (prepare (stays c b) x) ++ prepare (mode (stays c b) x) y
    go true e = ap (λ (l : List ℕ). as_kept c b ∷ l) e
    go false e = e

module _ (c : Bool) (b : ℕ) where
  pub drops : keeps c b ≡ false → (s : List ℕ) → prepare c (b ∷ s) ≡ prepare (stays c b) s
  drops e s = prepare_one c b s ∙ rw e

  pub takes : keeps c b ≡ true → (s : List ℕ) → prepare c (b ∷ s) ≡ as_kept c b ∷ prepare (stays c b) s
  takes e s = prepare_one c b s ∙ rw e

-- ---- preparing what is prepared changes nothing

-- a kept byte is kept again as it is, and opens or ends a comment as before
again : (c : Bool) (b : ℕ) → (keeps c (as_kept c b) ≡ keeps c b) × (as_kept c (as_kept c b) ≡ as_kept c b) × (stays c (as_kept c b) ≡ stays c b)
again true b = (refl, refl, refl)
again false b = let h = raised b in (ap not h.0, h.2, h.1)

-- a blank outside a comment leaves outside
pub outside : (c : Bool) (b : ℕ) → keeps c b ≡ false → (c ≡ false) × (stays c b ≡ false)
outside true b e = absurd (let z : ◌≡◌ {A = ℕ} 0 1 = cc in omega arith)
outside false b e = (refl, blank_opens b (go (blank b) e))
  where
    go : (x : Bool) → not x ≡ false → x ≡ true
    go true e = refl
    go false e = absurd (let z : ◌≡◌ {A = ℕ} 0 1 = cc in omega arith)

pub twice : (c : Bool) (s : List ℕ) → (prepare c (prepare c s) ≡ prepare c s) × (mode c (prepare c s) ≡ mode c s)
twice c [] = rw (prepare_none c) (prepare_none c, refl)
twice c (b ∷ s) = go (keeps c b) refl (twice (stays c b) s)
  where
    alike : (d : Bool) → c ≡ d → (prepare d (prepare d s) ≡ prepare d s) × (mode d (prepare d s) ≡ mode d s) → (prepare c (prepare d s) ≡ prepare d s) × (mode c (prepare d s) ≡ mode d s)
    alike d e h = rw e h

    go : (k : Bool) → keeps c b ≡ k → (prepare (stays c b) (prepare (stays c b) s) ≡ prepare (stays c b) s) × (mode (stays c b) (prepare (stays c b) s) ≡ mode (stays c b) s) →
        (prepare c (prepare c (b ∷ s)) ≡ prepare c (b ∷ s)) × (mode c (prepare c (b ∷ s)) ≡ mode (stays c b) s)
    go false e h = let o = outside c b e in rw (drops c b e s) (alike (stays c b) (o.0 ∙ sym o.1) h)
    go true e h =
        let a = again c b in
        rw (takes c b e s)
        (takes c (as_kept c b) (a.0 ∙ e) (prepare (stays c b) s) ∙ rw (a.1, a.2) (ap (λ (l : List ℕ). as_kept c b ∷ l) h.0), ap (λ (d : Bool). mode d (prepare (stays c b) s)) a.2 ∙ h.1)

-- ---- what a tree writes is prepared already

settled_run : (x y : List ℕ) → T (all settled x) → strip (x ++ y) ≡ x ++ strip y
unfolding strip
settled_run [] y t = refl
settled_run (b ∷ x) y t =
    let h = and_left (settled b) (all settled x) t in
    let k = and_left (bare b) (eqb (raise b) b) h in
    let same : raise b ≡ b = eqb→eq (raise b) b (and_right (bare b) (eqb (raise b) b) h) in
    rw (not_eq (blank b) (and_left (not (blank b)) (not (eqb b 40)) k), not_eq (eqb b 40) (and_right (not (blank b)) (not (eqb b 40)) k), settled_run x y (and_right (settled b) (all settled x) t))
    (ap (λ (d : ℕ). d ∷ (x ++ strip y)) same)

comment_run : (bs y : List ℕ) → T (all remark bs) → inside (bs ++ (byte ")" ∷ y)) ≡ bs ++ (byte ")" ∷ strip y)
unfolding inside
comment_run [] y t = refl
comment_run (b ∷ bs) y t = rw (no_closing b (and_left (remark b) (all remark bs) t)) (ap (λ (l : List ℕ). b ∷ l) (comment_run bs y (and_right (remark b) (all remark bs) t)))

items_prepared : (is : List Item) → ItemsOk is → strip (write_items is) ≡ write_items is
unfolding strip
items_prepared [] o = refl
items_prepared (word b v ∷ is) o =
    settled_run (b ∷ write_value v) (write_items is) (all_append settled (b ∷ []) (write_value v) (rw (T-eq (settled b) (letter_settled b o.0.0)) tt) (value_settled v o.0.1))
    ∙ ap (λ (l : List ℕ). (b ∷ write_value v) ++ l) (items_prepared is o.1)
items_prepared (setting v w ∷ is) o =
    settled_run (write_item (setting v w)) (write_items is) (all_append settled (write_value v) (byte "=" ∷ write_value w) (value_settled v o.0.0) (value_settled w o.0.1))
    ∙ ap (λ (l : List ℕ). write_item (setting v w) ++ l) (items_prepared is o.1)
items_prepared (comment bs ∷ is) o =
    rw (append_assoc bs (bytes ")") (write_items is)) (ap (λ (l : List ℕ). byte "(" ∷ l) (comment_run bs (write_items is) o.0 ∙ ap (λ (l : List ℕ). bs ++ (byte ")" ∷ l)) (items_prepared is o.1)))

pub write_prepared : (t : Line) → LineOk t → strip (write t) ≡ write t
write_prepared (line m n is) o =
    settled_run (write_mark m) (write_label n ++ write_items is) (mark_settled m o.0)
    ∙ ap (λ (l : List ℕ). write_mark m ++ l) (settled_run (write_label n) (write_items is) (label_settled n o.1) ∙ ap (λ (l : List ℕ). write_label n ++ l) (items_prepared is o.2))

-- ---- where a prepared byte stands in the typed line

-- the bytes before it are prepared to those before p, with it to those up to p, and where there is no byte at p it is the line's end
pub record Carried (c : Bool) (s : List ℕ) (p n : ℕ) : Type 0 where
  pub within : n ≤ length s
  pub before : prepare c (take n s) ≡ take p (prepare c s)
  pub onto : p < length (prepare c s) → (n < length s) × (prepare c (take (suc n) s) ≡ take (suc p) (prepare c s))
  pub ends : length (prepare c s) ≤ p → n ≡ length s

module _ (c : Bool) (b : ℕ) (s : List ℕ) where
  at_it : keeps c b ≡ true → Carried c (b ∷ s) 0 0
  at_it e = record {
    within = omega arith;
    before = prepare_none c;
    onto = λ h. (omega arith, rw (takes c b e s) (takes c b e [] ∙ ap (λ (l : List ℕ). as_kept c b ∷ l) (prepare_none (stays c b))));
    ends = λ h. absurd (omega (arith, ap length (takes c b e s)));
  }

  past_blank : (p n : ℕ) → keeps c b ≡ false → Carried (stays c b) s p n → Carried c (b ∷ s) p (suc n)
  past_blank p n e h = record {
    within = omega (arith, h.within);
    before = rw (drops c b e s) (drops c b e (take n s) ∙ h.before);
    onto = λ k. let o = h.onto (rw (drops c b e s) at k) in (omega (arith, o.0), rw (drops c b e s) (drops c b e (take (suc n) s) ∙ o.1));
    ends = λ k. ap suc (h.ends (rw (drops c b e s) at k));
  }

  past_kept : (p n : ℕ) → keeps c b ≡ true → Carried (stays c b) s p n → Carried c (b ∷ s) (suc p) (suc n)
  past_kept p n e h = record {
    within = omega (arith, h.within);
    before = rw (takes c b e s) (takes c b e (take n s) ∙ ap (λ (l : List ℕ). as_kept c b ∷ l) h.before);
    onto = λ k. let o = h.onto (omega (arith, ap length (takes c b e s))) in (omega (arith, o.0), rw (takes c b e s) (takes c b e (take (suc n) s) ∙ ap (λ (l : List ℕ). as_kept c b ∷ l) o.1));
    ends = λ k. ap suc (h.ends (omega (arith, ap length (takes c b e s))));
  }

nothing_left : (c : Bool) (p : ℕ) → Carried c [] p 0
nothing_left c p = record { within = omega arith; before = rw (prepare_none c) (none p); onto = λ h. absurd (omega (arith, ap length (prepare_none c))); ends = λ h. refl }
  where
    none : (p : ℕ) → ◌≡◌ {A = List ℕ} [] (take p [])
    none zero = refl
    none (suc p) = refl

pub carried : (c : Bool) (s : List ℕ) (p : ℕ) → Carried c s p (typed_from c s p)
carried c [] p = nothing_left c p
carried c (b ∷ s) zero = go (keeps c b) refl (carried (stays c b) s zero)
  where
    go : (k : Bool) → keeps c b ≡ k → Carried (stays c b) s 0 (typed_from (stays c b) s 0) → Carried c (b ∷ s) 0 (cond k 0 (suc (typed_from (stays c b) s 0)))
    go true e h = at_it c b s e
    go false e h = past_blank c b s 0 (typed_from (stays c b) s 0) e h
carried c (b ∷ s) (suc p) = go (keeps c b) refl (λ q. carried (stays c b) s q)
  where
    go : (k : Bool) → keeps c b ≡ k → ((q : ℕ) → Carried (stays c b) s q (typed_from (stays c b) s q)) → Carried c (b ∷ s) (suc p) (suc (typed_from (stays c b) s (cond k p (suc p))))
    go true e h = past_kept c b s p (typed_from (stays c b) s p) e (h p)
    go false e h = past_blank c b s (suc p) (typed_from (stays c b) s (suc p)) e (h (suc p))
