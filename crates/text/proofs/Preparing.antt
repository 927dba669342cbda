-- The loop that prepares a line: what it has written so far, and what the bytes to come will add.
-- Assumes nothing.
use mathlib.Core.Path.{◌≡◌, refl, sym, ap, ◌∙◌}
use mathlib.Core.Bool.{Bool, true, false, cond}
use mathlib.Core.List.{List, [], ◌∷◌, ◌++◌, append_assoc, append-nil}
use Prim.Native.Nat.{ℕ, zero, suc, ◌+◌, ◌-◌, ◌≤◌, ◌<◌}
use native.Mathlib.Omega.{arith}
use native.Mathlib.Numerals.{add-one}
use borrow.Author.Tests.{le-leb, lt-leb, ltb-true, ne_eqb}
use lib.Dec.{ltb}
use lib.ListN.{length, drop, get_or, set, length-drop, length-append, length-set, drop_of_length-le}
use lib.Seq.{drop-cons, set_at}
use Rattle.grammar.specs.Derivation.{strip}
use Rattle.grammar.specs.Typed.{prepare, keeps, as_kept, stays, typed_from}
use Rattle.grammar.proofs.Preparing.{prepare_none, outside, drops, takes}
use Rattle.text.specs.Prepare.{plain, Done, Copied, bytes_of, prepared}
use Rattle.std.specs.Prelude.{Some, None}

-- a blank outside a comment leaves outside
from_dropped : (c : Bool) (b : ℕ) (s : List ℕ) → keeps c b ≡ false → prepare c (b ∷ s) ≡ prepare c s
from_dropped c b s e = let o = outside c b e in drops c b e s ∙ ap (λ (d : Bool). prepare d s) (o.1 ∙ sym o.0)

module _ (l old : List ℕ) where
  pub none_yet : Done l old old 0 0 false
  none_yet = record { out = []; many = refl; behind = omega arith; within = omega arith; holds = refl; makes = refl }

  module _ {text : List ℕ} {n i : ℕ} {c : Bool} (q : Done l old text n i c) where
    module _ (h : i < length l) where
      next : drop i l ≡ get_or l i 0 ∷ drop (i + 1) l
      next = rw (add-one, drop-cons l i 0)

      pub dropped : keeps c (get_or l i 0) ≡ false → Done l old text n (i + 1) c
      dropped e = record {
        out = q.out;
        many = q.many;
        behind = omega (arith, q.behind);
        within = omega arith;
        holds = q.holds;
        makes = ap (λ (x : List ℕ). q.out ++ x) (sym (ap (prepare c) next ∙ from_dropped c (get_or l i 0) (drop (i + 1) l) e)) ∙ q.makes;
      }

      pub kept : length l ≤ length old → keeps c (get_or l i 0) ≡ true → {x : ℕ} {d : Bool} → x ≡ as_kept c (get_or l i 0) → d ≡ stays c (get_or l i 0) → Done l old (set text n x) (n + 1) (i + 1) d
      kept s e {x} {d} ex ed = record {
        out = q.out ++ (x ∷ []);
        many = length-append q.out (x ∷ []) ∙ (let m = q.many in omega arith);
        behind = omega (arith, q.behind);
        within = omega arith;
        holds =
            (let g : n < length old = omega (arith, q.behind) in
            let z : drop n old ≡ get_or old n 0 ∷ drop (n + 1) old = rw (add-one, drop-cons old n 0) in
            ap (λ (t : List ℕ). set t n x) (q.holds ∙ ap (λ (t : List ℕ). q.out ++ t) z) ∙ set_at q.out (get_or old n 0) (drop (n + 1) old) x n q.many ∙ sym (append_assoc q.out (x ∷ []) (drop (n + 1) old)));
        makes =
            append_assoc q.out (x ∷ []) (prepare d (drop (i + 1) l))
            ∙ ap (λ (t : List ℕ). q.out ++ t) (rw (ex, ed) (sym (ap (prepare c) next ∙ takes c (get_or l i 0) e (drop (i + 1) l))))
            ∙ q.makes;
      }

    all_of_it : length l ≤ i → q.out ≡ strip l
    all_of_it h = sym (append-nil q.out) ∙ ap (λ (t : List ℕ). q.out ++ t) (sym (ap (prepare c) (drop_of_length-le l h) ∙ prepare_none c)) ∙ q.makes

    -- where the line ends in a comment, nothing is left of it outside one either
    pub line_ends : length l ≤ i → Done l old text n i false
    line_ends h =
        let e : drop i l ≡ [] = drop_of_length-le l h in
        record { out = q.out; many = q.many; behind = q.behind; within = q.within; holds = q.holds; makes = rw (e, prepare_none false) (rw (e, prepare_none c) at q.makes) }

    pub ends : length l ≤ length old → length l ≤ i → (Some n ≡ bytes_of l (length old)) × (text ≡ prepared l old)
    unfolding bytes_of prepared
    ends s h =
        let k : n ≡ length (strip l) = sym q.many ∙ ap length (all_of_it h) in
        (rw (le-leb (length l) (length old) s) (ap Some k), rw (le-leb (length l) (length old) s) (q.holds ∙ rw (all_of_it h, k)))

  pub too_long : length old < length l → (None ≡ bytes_of l (length old)) × (old ≡ prepared l old)
  unfolding bytes_of prepared
  too_long h = (rw (lt-leb (length l) (length old) h), rw (lt-leb (length l) (length old) h))

pub as_long : (l old : List ℕ) {text : List ℕ} {n i : ℕ} {c : Bool} → Done l old text n i c → n ≤ length old → length text ≡ length old
as_long l old {n = n} q h = ap length q.holds ∙ length-append q.out (drop n old) ∙ (let m = q.many in let k = length-drop n old in omega arith)

pub room : (l old : List ℕ) {text : List ℕ} {n i : ℕ} {c : Bool} → Done l old text n i c → i < length l → length l ≤ length old → n < length text
room l old q h s = omega (arith, q.behind, as_long l old q (omega (arith, q.behind)))

-- ---- the bytes that are kept as they are

pub plain_as_is : (b : ℕ) → plain b ≡ true → (keeps false b ≡ true) × (b ≡ as_kept false b) × (false ≡ stays false b)
plain_as_is b e = go (ltb-true 40 b (both (ltb 40 b) (ltb b 97) e).0) (ltb-true b 97 (both (ltb 40 b) (ltb b 97) e).1)
  where
    both : (x y : Bool) → cond x y false ≡ true → (x ≡ true) × (y ≡ true)
    both true y h = (refl, h)
    both false y h = absurd (let z : ◌≡◌ {A = ℕ} 0 1 = cc in omega arith)

    go : 40 < b → b < 97 → (keeps false b ≡ true) × (b ≡ as_kept false b) × (false ≡ stays false b)
    go low high = (rw (ne_eqb b 32 (λ k. omega arith), ne_eqb b 9 (λ k. omega arith)), rw (lt-leb 97 b high), sym (ne_eqb b 40 (λ k. omega arith)))

-- ---- a comment

pub opened : (l old : List ℕ) {text : List ℕ} {n i : ℕ} → Done l old text n i false → i < length l → length l ≤ length old → get_or l i 0 ≡ 40 → Done l old (set text n (get_or l i 0)) (n + 1) (i + 1) true
opened l old q h s e = kept l old q h s (rw e) (rw e) (rw e)

-- the bytes from at up to i were copied to the places from `to` up to n; c says whether the comment goes on
pub record Copying (l before text : List ℕ) (to at n i : ℕ) (c : Bool) : Type 0 where
  pub on : at ≤ i
  pub within : i ≤ length l
  pub even : n + at ≡ to + i
  pub long : length text ≡ length before
  pub goes : (old : List ℕ) → length l ≤ length old → Done l old before to at true → Done l old text n i c

module _ (l before : List ℕ) {to at : ℕ} where
  pub none_copied : at ≤ length l → Copying l before before to at to at true
  none_copied h = record { on = omega arith; within = h; even = refl; long = refl; goes = λ old s d. d }

  module _ {text : List ℕ} {n i : ℕ} where
    pub copied : Copying l before text to at n i true → i < length l → {c : Bool} → c ≡ stays true (get_or l i 0) → Copying l before (set text n (get_or l i 0)) to at (n + 1) (i + 1) c
    copied q h e = record {
      on = let m = q.on in omega arith;
      within = omega arith;
      even = let m = q.even in omega arith;
      long = length-set text n (get_or l i 0) ∙ q.long;
      goes = λ old s d. kept l old (q.goes old s d) h s refl refl e;
    }

    pub closed : Copying l before text to at n i false → Copied l before text to at i
    closed q = record {
      on = q.on;
      goes = λ old s d m e. (let z : m ≡ n = (let f = q.even in omega arith) in rw z (q.goes old s d));
    }

    -- the line ends in it
    pub unclosed : Copying l before text to at n i true → length l ≤ i → Copied l before text to at (length l)
    unclosed q h =
        let z : i ≡ length l = (let w = q.within in omega arith) in
        rw z at (closed (record { on = q.on; within = q.within; even = q.even; long = q.long; goes = λ old s d. line_ends l old (q.goes old s d) h }))

-- ---- where a prepared byte stands in the typed line

-- the bytes before i were passed, and `left` prepared bytes from there on is the byte that is looked for
pub record Passed (l : List ℕ) (kept left i : ℕ) (c : Bool) : Type 0 where
  pub within : i ≤ length l
  pub goes : i + typed_from c (drop i l) left ≡ typed_from false l kept

pub none_passed : (l : List ℕ) (kept : ℕ) → Passed l kept kept 0 false
none_passed l kept = record { within = omega arith; goes = omega arith }

module _ (l : List ℕ) {kept left i : ℕ} {c : Bool} (q : Passed l kept left i c) where
  pub all_passed : length l ≤ i → i ≡ typed_from false l kept
  all_passed h = let e : typed_from c (drop i l) left ≡ 0 = rw (drop_of_length-le l h) in omega (arith, e, q.goes)

  module _ (h : i < length l) where
    cut : drop i l ≡ get_or l i 0 ∷ drop (i + 1) l
    cut = rw (add-one, drop-cons l i 0)

    pub here : keeps c (get_or l i 0) ≡ true → left ≡ 0 → i ≡ typed_from false l kept
    here k z = let e : typed_from c (drop i l) left ≡ 0 = rw (cut, z, k) in omega (arith, e, q.goes)

    -- a byte is passed: one fewer is left where it is kept
    pub passed : (keeps c (get_or l i 0) ≡ true → 0 < left) → {m : ℕ} {d : Bool} → m ≡ cond (keeps c (get_or l i 0)) (left - 1) left → d ≡ stays c (get_or l i 0) → Passed l kept m (i + 1) d
    passed some {m} {d} em ed = record { within = omega arith; goes = (let e = step left some in rw (em, ed) (omega (arith, e, q.goes))) }
      where
        step : (p : ℕ) → (keeps c (get_or l i 0) ≡ true → 0 < p) → typed_from c (drop i l) p ≡ suc (typed_from (stays c (get_or l i 0)) (drop (i + 1) l) (cond (keeps c (get_or l i 0)) (p - 1) p))
        step zero s = rw cut (go (keeps c (get_or l i 0)) s)
          where
            go : (x : Bool) → (x ≡ true → 0 < 0) → cond x 0 (suc (typed_from (stays c (get_or l i 0)) (drop (i + 1) l) 0)) ≡ suc (typed_from (stays c (get_or l i 0)) (drop (i + 1) l) (cond x (0 - 1) 0))
            go true s = absurd (let z = s refl in omega arith)
            go false s = refl
        step (suc p) s = rw cut (ap (λ (n : ℕ). suc (typed_from (stays c (get_or l i 0)) (drop (i + 1) l) (cond (keeps c (get_or l i 0)) n (suc p)))) (let e : p ≡ suc p - 1 = omega arith in e))
