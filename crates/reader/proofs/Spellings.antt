-- Spellings: a word byte by byte, and what opens or follows a value by its first byte.
-- Assumes nothing.
use mathlib.Core.Path.{◌≡◌, refl, sym, ap, ◌∙◌}
use mathlib.Core.Bool.{false}
use mathlib.Core.List.{List, [], ◌∷◌}
use Prim.Native.Nat.{ℕ, suc, ◌+◌, ◌-◌, ◌≤◌, ◌<◌}
use Rattle.std.specs.Prelude.{Result, Err}
use native.Mathlib.Omega.{arith}
use native.Mathlib.Numerals.{add-one}
use borrow.Author.Tests.{ne_eqb}
use lib.Dec.{eqb}
use lib.ListN.{length, drop, get_or, length-drop, drop_of_length-le}
use lib.Seq.{drop-cons}
use Rattle.grammar.proofs.Read.{Read, fail, got, eat, map_r, Head, call, Tail, oper, head_by, tail_by, read_f}
use Rattle.grammar.proofs.OnePass.{eat_map}
use Rattle.grammar.proofs.Place.{found, place, head_p, tail_p}
use Rattle.grammar.specs.declared.Op.{Op}
use Rattle.grammar.specs.declared.Func.{Func}
use Rattle.reader.specs.Pass.{pass}
use Rattle.reader.specs.Places.{opening_by, opening, following_by, following, spelt_to, function_after, operator_after}
use Rattle.reader.specs.declared.spelling.Opening.{Opening}
use Rattle.reader.specs.declared.spelling.Following.{Following}
use Rattle.reader.proofs.Evaluating.{with_place}

-- the place of what is left from p on is p
pub back : (s : List ℕ) (p : ℕ) → p ≤ length s → length s - length (drop p s) ≡ p
back s p l = simp length-drop (omega arith)

pub first_of_holds : (s : List ℕ) (p : ℕ) → p < length s → drop p s ≡ get_or s p 0 ∷ drop (p + 1) s
first_of_holds s p l = rw (add-one, drop-cons s p 0)

-- where a byte that is looked at is the wrong one
here : (s : List ℕ) (p : ℕ) → p < length s → length s - suc (length (drop (p + 1) s)) ≡ p
here s p l = simp length-drop (omega arith)

other : (k b : ℕ) → (b ≡ k → ⊥) → eqb k b ≡ false
other k b h = ne_eqb k b (λ e. h (sym e))

-- ---- a word: i of its bytes were met
pub record Along (s : List ℕ) (at : ℕ) (w : List ℕ) (i : ℕ) : Type 0 where
  pub within : at + i ≤ length s
  pub same : place s (eat {A = Unit {0}} (drop i w) tt (drop (at + i) s)) ≡ place s (eat {A = Unit {0}} w tt (drop at s))

-- ---- openings and followings by the byte that stands first
pub eat_seen : {A : Type 0} (s : List ℕ) (w : List ℕ) (a : A) (d : List ℕ) → eat w a d ≡ map_r (λ _. a) (eat {A = Unit {0}} w tt d)
eat_seen s w a d = eat_map (pass []) (λ _. a) w tt d

function_seen : (s : List ℕ) (g : Func) (m : Read (Unit {0})) → function_after (spelt_to (place s m)) g ≡ opening (place s (map_r (λ _. call g) m))
function_seen s g (fail q) = refl
function_seen s g (got _ q) = refl

operator_seen : (s : List ℕ) (o : Op) (m : Read (Unit {0})) → operator_after (spelt_to (place s m)) o ≡ following (place s (map_r (λ _. oper o) m))
operator_seen s o (fail q) = refl
operator_seen s o (got _ q) = refl

module _ (s : List ℕ) (at : ℕ) where
  module _ (k : length s ≤ at) (l : at ≤ length s) where
    pub opening_past : Err at ≡ opening (head_p s at)
    unfolding head_p
    opening_past = rw (drop_of_length-le s k) (ap Err (let e : at ≡ length s - 0 = omega arith in e))

    pub following_past : Err at ≡ following (tail_p s at)
    unfolding tail_p
    following_past = rw (drop_of_length-le s k) (ap Err (let e : at ≡ length s - 0 = omega arith in e))

  module _ (l : at < length s) where
    head_by_holds : head_p s at ≡ place s (head_by (get_or s at 0) (drop (at + 1) s))
    unfolding head_p
    head_by_holds = rw (first_of_holds s at l)

    tail_by_holds : tail_p s at ≡ place s (tail_by (get_or s at 0) (drop (at + 1) s))
    unfolding tail_p
    tail_by_holds = rw (first_of_holds s at l)

    -- a mark of one byte
    pub opening_mark : (k : ℕ) (h : Head) (r : Opening) → head_by k (drop (at + 1) s) ≡ got h (drop (at + 1) s) → r ≡ opening_by h → get_or s at 0 ≡ k → with_place r (at + 1) ≡ opening (head_p s at)
    opening_mark k h r e f b =
        let z : head_p s at ≡ found h (at + 1) = head_by_holds ∙ ap (λ (x : ℕ). place s (head_by x (drop (at + 1) s))) b ∙ ap (place s) e ∙ ap (found h) (back s (at + 1) (omega arith)) in
        ap (λ (x : Opening). with_place x (at + 1)) f ∙ ap opening (sym z)

    pub opening_word : (k : ℕ) (w : List ℕ) (g : Func) → head_by k (drop (at + 1) s) ≡ eat w (call g) (drop (at + 1) s) → get_or s at 0 ≡ k → {m : Result ℕ ℕ} {r : Result (Opening × ℕ) ℕ} → m ≡ spelt_to (place s (eat {A = Unit {0}} w tt (drop (at + 1) s))) → r ≡ function_after m g → r ≡ opening (head_p s at)
    opening_word k w g e b d c =
        let z : head_p s at ≡ place s (map_r (λ _. call g) (eat {A = Unit {0}} w tt (drop (at + 1) s))) = head_by_holds ∙ ap (λ (x : ℕ). place s (head_by x (drop (at + 1) s))) b ∙ ap (place s) (e ∙ eat_seen s w (call g) (drop (at + 1) s)) in
        c ∙ ap (λ (x : Result ℕ ℕ). function_after x g) d ∙ function_seen s g (eat w tt (drop (at + 1) s)) ∙ ap opening (sym z)

    pub opening_by_f : get_or s at 0 ≡ 70 → {r : Result (Opening × ℕ) ℕ} → r ≡ opening (place s (read_f (drop (at + 1) s))) → r ≡ opening (head_p s at)
    opening_by_f b e = e ∙ ap opening (sym (head_by_holds ∙ ap (λ (x : ℕ). place s (head_by x (drop (at + 1) s))) b))

    pub opening_none : (get_or s at 0 ≡ 35 → ⊥) → (get_or s at 0 ≡ 91 → ⊥) → (get_or s at 0 ≡ 65 → ⊥) → (get_or s at 0 ≡ 70 → ⊥) → (get_or s at 0 ≡ 82 → ⊥) → Err at ≡ opening (head_p s at)
    opening_none a b c d e =
        rw (head_by_holds, other 35 (get_or s at 0) a, other 91 (get_or s at 0) b, other 65 (get_or s at 0) c, other 70 (get_or s at 0) d, other 82 (get_or s at 0) e) (ap Err (sym (here s at l)))

    pub following_mark : (k : ℕ) (h : Tail) (r : Following) → tail_by k (drop (at + 1) s) ≡ got h (drop (at + 1) s) → r ≡ following_by h → get_or s at 0 ≡ k → with_place r (at + 1) ≡ following (tail_p s at)
    following_mark k h r e f b =
        let z : tail_p s at ≡ found h (at + 1) = tail_by_holds ∙ ap (λ (x : ℕ). place s (tail_by x (drop (at + 1) s))) b ∙ ap (place s) e ∙ ap (found h) (back s (at + 1) (omega arith)) in
        ap (λ (x : Following). with_place x (at + 1)) f ∙ ap following (sym z)

    pub following_word : (k : ℕ) (w : List ℕ) (o : Op) → tail_by k (drop (at + 1) s) ≡ eat w (oper o) (drop (at + 1) s) → get_or s at 0 ≡ k → {m : Result ℕ ℕ} {r : Result (Following × ℕ) ℕ} → m ≡ spelt_to (place s (eat {A = Unit {0}} w tt (drop (at + 1) s))) → r ≡ operator_after m o → r ≡ following (tail_p s at)
    following_word k w o e b d c =
        let z : tail_p s at ≡ place s (map_r (λ _. oper o) (eat {A = Unit {0}} w tt (drop (at + 1) s))) = tail_by_holds ∙ ap (λ (x : ℕ). place s (tail_by x (drop (at + 1) s))) b ∙ ap (place s) (e ∙ eat_seen s w (oper o) (drop (at + 1) s)) in
        c ∙ ap (λ (x : Result ℕ ℕ). operator_after x o) d ∙ operator_seen s o (eat w tt (drop (at + 1) s)) ∙ ap following (sym z)

    pub following_none : (get_or s at 0 ≡ 93 → ⊥) → (get_or s at 0 ≡ 43 → ⊥) → (get_or s at 0 ≡ 45 → ⊥) → (get_or s at 0 ≡ 42 → ⊥) → (get_or s at 0 ≡ 47 → ⊥) → (get_or s at 0 ≡ 77 → ⊥) → (get_or s at 0 ≡ 65 → ⊥) → (get_or s at 0 ≡ 79 → ⊥) → (get_or s at 0 ≡ 88 → ⊥) → Err at ≡ following (tail_p s at)
    following_none a b c d e f g h i =
        rw (tail_by_holds, other 93 (get_or s at 0) a, other 43 (get_or s at 0) b, other 45 (get_or s at 0) c, other 42 (get_or s at 0) d, other 47 (get_or s at 0) e, other 77 (get_or s at 0) f, other 65 (get_or s at 0) g, other 79 (get_or s at 0) h, other 88 (get_or s at 0) i) (ap Err (sym (here s at l)))
